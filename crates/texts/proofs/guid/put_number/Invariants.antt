use Rattle.texts.specs.Text.{digits}
use Rattle.util.specs.Read.{le}
use mathlib.Core.Path.{◌≡◌}
use Prim.Native.Nat.{suc, ◌+◌, ◌*◌, ◌-◌, ◌<◌}
use lib.ListN.{length}
use lib.Seq.{sets}
use Rattle.texts.proofs.guid.put_number.Given as goal

abbrev pub invariant-loop-i : goal.invariant-loop-i
invariant-loop-i l = (sets l.out (suc l.to) (digits 16 (2 * (l.width - l.i)) (le (l.width - l.i) l.s (l.at + l.i))) ≡ sets l.initial.out (suc l.to) (digits 16 (2 * l.width) (le l.width l.s l.at))) × (l.to + 2 * l.width < length l.out)
