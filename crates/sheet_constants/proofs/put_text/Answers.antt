use Rattle.std.proofs.Common.{ap}
use Rattle.sheet_constants.specs.Laws.{text-laid, null-laid}
use Rattle.emit.specs.Laws.{join, known}
use Rattle.records.specs.Told.{told}
use Rattle.sheet_constants.proofs.put_text.Goals as goal

pub returns-in-Ok : goal.returns-in-Ok
returns-in-Ok c = known (text-laid _ (ap told c.in-Ok.is) c.part-bytes.ensures) (join c.put_u8-t.ensures (join c.put_le-t.ensures c.put_bytes.ensures))

pub returns-in-Err : goal.returns-in-Err
returns-in-Err c = known (null-laid _ (ap told c.in-Err.is)) c.put_u8.ensures
