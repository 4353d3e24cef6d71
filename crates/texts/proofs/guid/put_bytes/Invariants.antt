use Rattle.texts.specs.Guid.{hex_bytes}
use mathlib.Core.Path.{◌≡◌}
use Prim.Native.Nat.{suc, ◌+◌, ◌*◌, ◌-◌, ◌<◌}
use lib.ListN.{length, take, drop}
use lib.Seq.{sets}
use Rattle.texts.proofs.guid.put_bytes.Given as goal

abbrev pub invariant-loop-i : goal.invariant-loop-i
invariant-loop-i l = (sets l.out (suc (l.to + 2 * l.i)) (hex_bytes (take (l.count - l.i) (drop (l.at + l.i) l.s))) ≡ sets l.initial.out (suc l.to) (hex_bytes (take l.count (drop l.at l.s)))) × (l.to + 2 * l.count < length l.out)
