use Rattle.std.specs.Prelude.{refl}
use Rattle.std.proofs.Common.{sym, ◌∙◌, ap}
use Rattle.describe.specs.MemberNumbers.{vars-begun}
use Rattle.describe.specs.Answers.{answers-value}
use Rattle.records.specs.Told.{told}
use Rattle.emit.specs.Laws.{known}
use Rattle.sheet_members.proofs.MemberLaws.{variables-some, variables-none, counted}
use Rattle.sheet_members.proofs.variables.put_variables.Goals as goal

pub put_each-listed-requires : goal.put_each-listed-requires
put_each-listed-requires c = answers-value (vars-begun c.args.s.now c.args.ti) (sym c.vars.ensures ∙ ap told c.in-Ok.is)

pub returns-in-Ok : goal.returns-in-Ok
returns-in-Ok c = known (variables-some _ _ _ _ c.vars.ensures (ap told c.in-Ok.is) refl) (counted c.put_each-listed.ensures.1 c.put_u16-t.ensures c.put_each-listed.ensures.0 c.overwrite.ensures)

pub returns-in-Err : goal.returns-in-Err
returns-in-Err c = known (variables-none _ _ _ _ c.vars.ensures (ap told c.in-Err.is)) c.put_u16.ensures
