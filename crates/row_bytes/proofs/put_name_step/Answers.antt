use Rattle.emit.specs.Laws.{join}
use Rattle.row_bytes.proofs.put_name_step.Goals as goal

pub returns : goal.returns
returns c = join c.put_entry-t.ensures c.put_longs.ensures
