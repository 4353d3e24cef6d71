use Rattle.utf8.specs.Parts.{Ascii, left_behind}
use Rattle.utf8.proofs.looked.Given as goal

-- the stretch tells of all bytes before it
abbrev pub invariant-loop-stretch : goal.invariant-loop-stretch
invariant-loop-stretch l = Ascii l.s 0 l.stretch

abbrev pub decreases-loop-stretch : goal.decreases-loop-stretch
decreases-loop-stretch l = left_behind l.s l.stretch
