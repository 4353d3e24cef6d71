use Rattle.sheet_sizes.proofs.CountLaws.{ahead-measured, known, then, bytes, parameters-part}
use Rattle.sheet_sizes.proofs.MemberLaws.{parameters-some, parameters-none}
use Rattle.sheet_members.proofs.ParameterLaws.{room, all-yielded}
use Rattle.records.specs.Told.{told}
use mathlib.Core.Path.{refl, ap}
use mathlib.Core.List.{[], ◌∷◌}
use Rattle.sheet_sizes.proofs.parameters.after_parameters.Goals as goal

pub after_each-each-requires : goal.after_each-each-requires
after_each-each-requires c = record { near = c.requires; room = room _ _ c.params.ensures (ap told c.in-Ok.is) }

pub returns-in-Ok : goal.returns-in-Ok
returns-in-Ok c = known (parameters-some _ _ _ _ c.params.ensures (ap told c.in-Ok.is) (all-yielded _ _ (room _ _ c.params.ensures (ap told c.in-Ok.is)))) (then (parameters-part c.args.from _ _ (ahead-measured _ c.ahead-t.ensures (0 ∷ 0 ∷ []) refl) _ c.ahead.ensures) (c.after_each-each.ensures.is (record { to = c.ahead-t.result; functions = c.args.from.functions; parameters = c.ahead.result; variables = c.args.from.variables; references = c.args.from.references })))

pub returns-in-Err : goal.returns-in-Err
returns-in-Err c = rw c.moved.ensures (known (parameters-none _ _ _ _ c.params.ensures (ap told c.in-Err.is)) (bytes _ _ (ahead-measured _ c.ahead-t.ensures (0 ∷ 0 ∷ []) refl)))
