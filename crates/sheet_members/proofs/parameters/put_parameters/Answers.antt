use Rattle.std.proofs.Common.{ap}
use Rattle.records.specs.Told.{told}
use Rattle.emit.specs.Laws.{known, join}
use Rattle.sheet_members.proofs.MemberLaws.{parameters-some, parameters-none}
use Rattle.sheet_members.proofs.ParameterLaws.{room, all-yielded}
use Rattle.sheet_members.proofs.parameters.put_parameters.Goals as goal

pub put_each-requires : goal.put_each-requires
put_each-requires c = record { near = c.requires; room = room _ _ c.params.ensures (ap told c.in-Ok.is) }

pub returns-in-Ok : goal.returns-in-Ok
returns-in-Ok c = known (parameters-some _ _ _ _ c.params.ensures (ap told c.in-Ok.is) (all-yielded _ _ (room _ _ c.params.ensures (ap told c.in-Ok.is)))) (join c.put_le-t.ensures c.put_each.ensures)

pub returns-in-Err : goal.returns-in-Err
returns-in-Err c = known (parameters-none _ _ _ _ c.params.ensures (ap told c.in-Err.is)) c.put_u16.ensures
