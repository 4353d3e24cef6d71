use Rattle.std.specs.Prelude.{refl}
use Rattle.std.proofs.Common.{sym, ◌∙◌, ap}
use Rattle.describe.specs.MemberNumbers.{funcs-begun}
use Rattle.describe.specs.Answers.{answers-value}
use Rattle.records.specs.Told.{told}
use Rattle.emit.specs.Laws.{known}
use Rattle.sheet_members.proofs.MemberLaws.{functions-some, functions-empty, functions-none, counted}
use Rattle.sheet_members.proofs.functions.put_functions.Goals as goal

pub returns-then-cursor-eq0 : goal.returns-then-cursor-eq0
returns-then-cursor-eq0 c = known (functions-empty _ _ _ _ c.funcs.ensures (ap told c.in-Ok.is) c.if-cursor-eq0.true) c.put_u16-t.ensures

pub put_each-listed-requires : goal.put_each-listed-requires
put_each-listed-requires c = answers-value (funcs-begun c.args.s.now c.args.ti) (sym c.funcs.ensures ∙ ap told c.in-Ok.is)

pub returns-else-cursor-eq0 : goal.returns-else-cursor-eq0
returns-else-cursor-eq0 c = known (functions-some _ _ _ _ c.funcs.ensures (ap told c.in-Ok.is) refl) (counted c.put_each-listed.ensures.1 c.put_u16-t.ensures c.put_each-listed.ensures.0 c.overwrite.ensures)

pub returns-in-Err : goal.returns-in-Err
returns-in-Err c = known (functions-none _ _ _ _ c.funcs.ensures (ap told c.in-Err.is)) c.put_u16.ensures
