use mathlib.Core.Path.{refl, ◌∙◌}
use Rattle.emit.specs.Laws.{stored, unstored, stopped-past}
use Rattle.emit.proofs.put_bytes.Goals.{then-to-count, else-to-count}
use Rattle.emit.proofs.put_bytes.Goals as goal

pub returns-then-not-has_room : goal.returns-then-not-has_room
returns-then-not-has_room c = stopped-past _ c.stopped.ensures refl c.if-not-has_room.ensures

pub returns : goal.returns
returns c = elim c.if-to-count.branch [
  | then-to-count w ↦ stored _ c.if-not-has_room.ensures refl (w.out-is ∙ w.store.ensures)
  | else-to-count w ↦ rw w.out-is (unstored _ c.if-not-has_room.ensures refl w.if-to-count.false)
]
