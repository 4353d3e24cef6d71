use Rattle.sheet_constants.specs.Laws.{none-laid, some-laid}
use Rattle.emit.specs.Laws.{join, known}
use Rattle.records.specs.Told.{told}
use Rattle.records.specs.AnswerLaws.{tells}
use Rattle.sheet_constants.proofs.put_opt_constant.Goals as goal

pub returns-in-Ok : goal.returns-in-Ok
returns-in-Ok c = known (some-laid _ _ _ (tells told c.in-Ok.is c.const_at.ensures)) (join c.put_u8-t.ensures c.put_constant.ensures)

pub returns-in-Err : goal.returns-in-Err
returns-in-Err c = known (none-laid _ _ _ (tells told c.in-Err.is c.const_at.ensures)) c.put_u8.ensures
