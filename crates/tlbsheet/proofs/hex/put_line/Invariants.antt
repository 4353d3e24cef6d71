use Prim.Native.Nat.{◌*◌}
use mathlib.Core.Path.{◌≡◌}
use lib.ListN.{drop}
use lib.Seq.{sets}
use Rattle.tlbsheet.specs.Program.{line_of}
use Rattle.tlbsheet.proofs.hex.put_line.Given as goal

abbrev pub invariant-loop-i : goal.invariant-loop-i
invariant-loop-i l = sets l.out (2 * l.i) (line_of (drop l.i l.s)) ≡ sets l.initial.out 0 (line_of l.s)
