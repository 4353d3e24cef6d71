use Rattle.sheet_bases.proofs.BaseLaws.{chain-is, chain-refused}
use Rattle.emit.specs.Laws.{known, numbered}
use Rattle.records.specs.Told.{told}
use Rattle.std.proofs.Common.{ap}
use Rattle.sheet_bases.proofs.put_chain.Goals as goal

pub returns-in-Ok : goal.returns-in-Ok
returns-in-Ok c = known (chain-is _ _ _ _ c.impl_types_at.ensures (ap told c.in-Ok.is)) c.put_walked.ensures

pub returns-in-Err : goal.returns-in-Err
returns-in-Err c = known (chain-refused _ _ _ _ c.impl_types_at.ensures (ap told c.in-Err.is)) (numbered c.number.ensures (c.put_refusal.ensures _))
