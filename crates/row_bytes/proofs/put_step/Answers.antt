use Rattle.rows.specs.ValueLaws.{step-laid}
use Rattle.emit.specs.Laws.{known, join}
use Rattle.row_bytes.proofs.put_step.Goals as goal

pub returns : goal.returns
returns c = known (step-laid _ _ _) (join c.put_longs-t.ensures c.put_longs.ensures)
