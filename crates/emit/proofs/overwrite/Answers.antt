use Rattle.emit.specs.Laws.{over-stored, over-no-room, over-refused}
use Rattle.description.specs.Format.{length-le_bytes}
use Rattle.emit.proofs.overwrite.Goals.{else-at-le-PAST-via-then-at-le-PAST+else-has_room, else-at-le-PAST-via-else-at-le-PAST}
use Rattle.emit.proofs.overwrite.Goals as goal

pub returns-then-has_room : goal.returns-then-has_room
returns-then-has_room c = over-stored _ c.if-at-le-PAST.true (length-le_bytes _ _) c.if-has_room.ensures c.store_le.ensures

pub returns-else-at-le-PAST : goal.returns-else-at-le-PAST
returns-else-at-le-PAST c = elim c.else-at-le-PAST.branch [
  | else-at-le-PAST-via-then-at-le-PAST+else-has_room w ↦ over-no-room _ w.if-at-le-PAST.true (length-le_bytes _ _) w.if-has_room.ensures
  | else-at-le-PAST-via-else-at-le-PAST w ↦ over-refused _ w.if-at-le-PAST.false
]
