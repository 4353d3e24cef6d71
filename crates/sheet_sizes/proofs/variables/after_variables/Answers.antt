use Rattle.sheet_sizes.proofs.CountLaws.{ahead-measured, known, then, bytes}
use Rattle.sheet_sizes.proofs.MemberLaws.{variables-some, variables-empty, variables-none}
use Rattle.records.specs.Told.{told}
use Rattle.describe.specs.Answers.{answers-value}
use Rattle.describe.specs.MemberNumbers.{vars-begun}
use mathlib.Core.Path.{sym, ◌∙◌, ap, refl}
use mathlib.Core.List.{[], ◌∷◌}
use Rattle.sheet_sizes.proofs.variables.after_variables.Goals as goal

pub after_each-requires : goal.after_each-requires
after_each-requires c = answers-value (vars-begun c.args.s.now c.args.ti) (sym c.vars.ensures ∙ ap told c.in-Ok.is)

pub returns-then-cursor-eq0 : goal.returns-then-cursor-eq0
returns-then-cursor-eq0 c = rw c.moved-begun.ensures (known (variables-empty _ _ _ _ c.vars.ensures (ap told c.in-Ok.is) c.if-cursor-eq0.true) (bytes _ _ (ahead-measured _ c.ahead.ensures (0 ∷ 0 ∷ []) refl)))

pub returns-else-cursor-eq0 : goal.returns-else-cursor-eq0
returns-else-cursor-eq0 c = known (variables-some _ _ _ _ c.vars.ensures (ap told c.in-Ok.is)) (then (bytes c.args.from _ (ahead-measured _ c.ahead.ensures (0 ∷ 0 ∷ []) refl)) (rw c.moved-begun.ensures at c.after_each.ensures))

pub returns-in-Err : goal.returns-in-Err
returns-in-Err c = rw c.moved-begun.ensures (known (variables-none _ _ _ _ c.vars.ensures (ap told c.in-Err.is)) (bytes _ _ (ahead-measured _ c.ahead.ensures (0 ∷ 0 ∷ []) refl)))
