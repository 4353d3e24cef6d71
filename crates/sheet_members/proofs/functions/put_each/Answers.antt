use Rattle.std.specs.Prelude.{◌+◌, ◌*◌}
use Rattle.std.proofs.Common.{ap, ◌∙◌, arith}
use Rattle.util.specs.Read.{read}
use Rattle.records.specs.Answer.{or_nine}
use Rattle.typelib.specs.TypeInfos.{func_memid, func_name_offset}
use Rattle.describe.specs.Values.{found}
use Rattle.sheet_members.proofs.WordLaws.{found-signed, memids-are, names-are}
use Rattle.records.specs.AnswerLaws.{tells}
use Rattle.cursors.specs.Told.{told_func_step}
use Rattle.cursors.specs.NumberLaws.{func-turn}
use Rattle.emit.specs.Laws.{refused-stays}
use Rattle.sheet_members.proofs.MemberLaws.{come-first, come-next, come_last, come-count}
use Rattle.sheet_members.proofs.functions.put_each.Goals as goal

pub loop-t-init : goal.loop-t-init
loop-t-init c = come-first _ _ _ _ _ _ _ _ c.requires (omega arith)

pub returns-after-loop-t : goal.returns-after-loop-t
returns-after-loop-t c = (c.loop-t.invariant.laid.finish _ _ (refused-stays c.loop-t-test.false), λ h. absurd (omega (arith, h, c.loop-t-test.false)))

pub shape_of-out-in_default : goal.shape_of-out-in_default
shape_of-out-in_default c = (come_last _ _ _ _ _ _ _ _ c.loop-t.invariant (tells told_func_step c.in_default.is c.step.ensures)).keeps

pub returns-in_default : goal.returns-in_default
returns-in_default c =
    let e = tells told_func_step c.in_default.is c.step.ensures in
    (come_last _ _ _ _ _ _ _ _ c.loop-t.invariant e, λ _. come-count _ _ _ _ _ _ _ _ c.loop-t.invariant e)

pub put_function-t-requires : goal.put_function-t-requires
put_function-t-requires c = let s = c.args.s.now in let ti = c.args.ti in let i = c.in-Record.number in let r = c.func_rows-rows.result in record { near = c.names_of-names.ensures; memid_value = ap found c.word-memid.ensures ∙ found-signed (or_nine (read 4 s (r.memids + 4 * i))) (func_memid s ti i) (memids-are s ti c.func_rows-rows.ensures i); name_offset_value = ap found c.word-name_offset.ensures ∙ found-signed (or_nine (read 4 s (r.names + 4 * i))) (func_name_offset s ti i) (names-are s ti c.func_rows-rows.ensures i) }

pub loop-t-smaller : goal.loop-t-smaller
loop-t-smaller c =
    let t = func-turn c.args.s.now (omega (arith, c.loop-t.invariant.sum, c.loop-t.invariant.few)) (tells told_func_step c.in-Record.is c.step.ensures) in
    omega (arith, t.lessens.some, t.lessens.fewer)

pub loop-t-preserved : goal.loop-t-preserved
loop-t-preserved c =
    let e = tells told_func_step c.in-Record.is c.step.ensures in
    let t = func-turn c.args.s.now (omega (arith, c.loop-t.invariant.sum, c.loop-t.invariant.few)) e in
    come-next _ _ _ _ _ _ _ _ c.loop-t.invariant t e c.put_function-t.ensures
