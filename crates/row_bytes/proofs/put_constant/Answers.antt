use Rattle.rows.specs.ValueLaws.{constant-laid}
use Rattle.emit.specs.Laws.{known, join}
use Rattle.row_bytes.proofs.put_constant.Goals as goal

pub returns : goal.returns
returns c = known (constant-laid _ _ _ c.vt-code.ensures c.shape_of.ensures c.content_of.ensures) (join c.put_u16-t.ensures c.put_content.ensures)
