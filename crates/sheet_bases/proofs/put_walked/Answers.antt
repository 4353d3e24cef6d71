use Rattle.records.specs.Told.{told}
use Rattle.std.proofs.Common.{ap}
use Rattle.sheet_bases.proofs.BaseLaws.{walked-is, walked-refused}
use Rattle.emit.specs.Laws.{known, join, numbered}
use Rattle.sheet_bases.proofs.put_walked.Goals as goal

pub returns-in-Err : goal.returns-in-Err
returns-in-Err c = known (walked-refused _ _ _ _ c.walk.ensures (ap told c.in-Err.is)) (numbered c.number.ensures (c.put_refusal.ensures _))

pub returns : goal.returns
returns c = known (walked-is _ _ _ _ _ c.walk.ensures (ap told c.in-Ok.is)) (join c.put_le-t.ensures c.put_links.ensures)
