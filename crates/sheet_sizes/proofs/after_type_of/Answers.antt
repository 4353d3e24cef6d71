use Rattle.emit.specs.Laws.{numbered}
use Rattle.sheet_sizes.proofs.CountLaws.{known, refusing}
use Rattle.sheet_sizes.proofs.TypeLaws.{type-found, type-missing}
use Rattle.typelib.specs.Told.{told_type_info}
use mathlib.Core.Path.{ap}
use mathlib.Core.List.{[]}
use Rattle.sheet_sizes.proofs.after_type_of.Goals as goal

pub returns-in-Ok : goal.returns-in-Ok
returns-in-Ok c = known (type-found _ _ _ _ c.typeinfo_at.ensures (ap told_type_info c.in-Ok.is)) c.after_type.ensures

pub returns-in-Err : goal.returns-in-Err
returns-in-Err c = rw c.moved.ensures (known (type-missing _ _ _ _ c.typeinfo_at.ensures (ap told_type_info c.in-Err.is)) (refusing _ _ _ (numbered c.number.ensures (c.put_refusal.ensures []))))
