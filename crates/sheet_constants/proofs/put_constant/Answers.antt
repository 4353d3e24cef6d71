use Rattle.sheet_constants.specs.Laws.{constant-laid}
use Rattle.emit.specs.Laws.{join, known}
use Rattle.sheet_constants.proofs.put_constant.Goals as goal

pub returns : goal.returns
returns c = known (constant-laid _ _ c.vt-code.ensures c.content_of.ensures c.shape_of.ensures) (join c.put_u16-t.ensures c.put_value.ensures)
