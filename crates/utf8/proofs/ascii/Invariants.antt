use mathlib.Core.Path.{◌≡◌}
use Rattle.utf8.specs.Parts.{checked_from}
use Rattle.utf8.proofs.ascii.Given as goal

abbrev pub invariant-loop-i : goal.invariant-loop-i
invariant-loop-i l = checked_from 0 l.at l.s ≡ checked_from 0 l.i l.s
