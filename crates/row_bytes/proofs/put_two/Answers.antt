use Rattle.rows.specs.ValueLaws.{two-longs}
use Rattle.emit.specs.Laws.{known, join}
use Rattle.row_bytes.proofs.put_two.Goals as goal

pub returns : goal.returns
returns c = known (two-longs _ _) (join c.put_le-t.ensures c.put_le.ensures)
