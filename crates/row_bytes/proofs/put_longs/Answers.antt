use Rattle.emit.specs.Laws.{known, join}
use Rattle.rows.specs.ValueLaws.{shown, long_bytes, one, four, five}
use Rattle.row_bytes.proofs.put_longs.Goals as goal

pub returns-in-One : goal.returns-in-One
returns-in-One c = known (one c.in-One.is) c.put_le.ensures

pub returns-in-Two : goal.returns-in-Two
returns-in-Two c = known (shown long_bytes c.in-Two.is) c.put_two.ensures

pub returns-in-Three : goal.returns-in-Three
returns-in-Three c = known (shown long_bytes c.in-Three.is) (join c.put_le-t.ensures c.put_two-in-Three.ensures)

pub returns-in-Four : goal.returns-in-Four
returns-in-Four c = known (four c.in-Four.is) (join c.put_two-t.ensures c.put_two-in-Four.ensures)

pub returns-in-Five : goal.returns-in-Five
returns-in-Five c = known (five c.in-Five.is) (join c.put_le-t-in-Five.ensures (join c.put_two-t-in-Five.ensures c.put_two-in-Five.ensures))
