use Rattle.records.specs.AttributeLaws.{room-with, room-without}
use Rattle.member_records.proofs.func.attribute_room.Goals as goal

pub returns-then-defaults : goal.returns-then-defaults
returns-then-defaults c = room-with _ _ _ _ c.if-defaults.true c.words_after.ensures

pub returns-else-defaults : goal.returns-else-defaults
returns-else-defaults c = room-without _ _ _ _ c.if-defaults.false c.words_after-else-defaults.ensures
