use Rattle.sheet_bases.proofs.TypeLaws.{type-found, type-missing}
use Rattle.emit.specs.Laws.{known, numbered}
use Rattle.typelib.specs.Told.{told_type_info}
use Rattle.std.proofs.Common.{ap}
use Rattle.sheet_types.proofs.put_type_of.Goals as goal

pub returns-in-Ok : goal.returns-in-Ok
returns-in-Ok c = known (type-found _ _ _ _ c.typeinfo_at.ensures (ap told_type_info c.in-Ok.is)) c.put_type.ensures

pub returns-in-Err : goal.returns-in-Err
returns-in-Err c = known (type-missing _ _ _ _ c.typeinfo_at.ensures (ap told_type_info c.in-Err.is)) (numbered c.number.ensures (c.put_refusal.ensures _))
