use Rattle.emit.specs.Laws.{stored, unstored, stopped-past}
use mathlib.Core.Path.{refl}
use native.Mathlib.Omega.{arith}
use Rattle.emit.proofs.put_u8.Goals.{then-to-out, else-to-out}
use Rattle.emit.proofs.put_u8.Goals as goal

pub returns-then-to-ge-PAST : goal.returns-then-to-ge-PAST
returns-then-to-ge-PAST c = stopped-past _ {n = 1} (omega arith) refl (omega arith)

pub returns : goal.returns
returns c = elim c.if-to-out.branch [ then-to-out w ↦ stored _ {n = 1} (omega arith) refl w.out-is | else-to-out w ↦ rw w.out-is (unstored _ {n = 1} (omega arith) refl (omega arith)) ]
