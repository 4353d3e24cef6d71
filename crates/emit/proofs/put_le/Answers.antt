use mathlib.Core.Path.{◌∙◌}
use Rattle.emit.specs.Laws.{stored, unstored, stopped-past}
use Rattle.description.specs.Format.{length-le_bytes}
use Rattle.emit.proofs.put_le.Goals.{then-to-width, else-to-width}
use Rattle.emit.proofs.put_le.Goals as goal

pub returns-then-not-has_room : goal.returns-then-not-has_room
returns-then-not-has_room c = stopped-past _ c.stopped.ensures (length-le_bytes _ _) c.if-not-has_room.ensures

pub returns : goal.returns
returns c = elim c.if-to-width.branch [
  | then-to-width w ↦ stored _ c.if-not-has_room.ensures (length-le_bytes _ _) (w.out-is ∙ w.store_le.ensures)
  | else-to-width w ↦ rw w.out-is (unstored _ c.if-not-has_room.ensures (length-le_bytes _ _) w.if-to-width.false)
]
