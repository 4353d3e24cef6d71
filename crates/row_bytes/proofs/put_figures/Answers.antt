use Rattle.emit.specs.Laws.{join}
use Rattle.row_bytes.proofs.put_figures.Goals as goal

pub returns : goal.returns
returns c = join c.put_u32-t.ensures (join c.put_u32-t-2.ensures (join c.put_u32-t-3.ensures (join c.put_u32-t-4.ensures c.put_u32.ensures)))
