use Rattle.std.proofs.Common.{arith}
use Rattle.records.specs.AnswerLaws.{tells}
use Rattle.cursors.specs.Told.{told_var_step}
use Rattle.cursors.specs.NumberLaws.{var-turn}
use Rattle.emit.specs.Laws.{refused-stays}
use Rattle.sheet_members.proofs.MemberLaws.{come-first, come-next, come_last, come-count}
use Rattle.sheet_members.proofs.variables.put_each.Goals as goal

pub loop-t-init : goal.loop-t-init
loop-t-init c = come-first _ _ _ _ _ _ _ _ c.requires (omega arith)

pub returns-after-loop-t : goal.returns-after-loop-t
returns-after-loop-t c = (c.loop-t.invariant.laid.finish _ _ (refused-stays c.loop-t-test.false), λ h. absurd (omega (arith, h, c.loop-t-test.false)))

pub shape_of-out-in_default : goal.shape_of-out-in_default
shape_of-out-in_default c = (come_last _ _ _ _ _ _ _ _ c.loop-t.invariant (tells told_var_step c.in_default.is c.step.ensures)).keeps

pub returns-in_default : goal.returns-in_default
returns-in_default c =
    let e = tells told_var_step c.in_default.is c.step.ensures in
    (come_last _ _ _ _ _ _ _ _ c.loop-t.invariant e, λ _. come-count _ _ _ _ _ _ _ _ c.loop-t.invariant e)

pub loop-t-smaller : goal.loop-t-smaller
loop-t-smaller c =
    let t = var-turn c.args.s.now (omega (arith, c.loop-t.invariant.sum, c.loop-t.invariant.few)) (tells told_var_step c.in-Record.is c.step.ensures) in
    omega (arith, t.lessens.some, t.lessens.fewer)

pub loop-t-preserved : goal.loop-t-preserved
loop-t-preserved c =
    let e = tells told_var_step c.in-Record.is c.step.ensures in
    let t = var-turn c.args.s.now (omega (arith, c.loop-t.invariant.sum, c.loop-t.invariant.few)) e in
    come-next _ _ _ _ _ _ _ _ c.loop-t.invariant t e c.put_variable-t.ensures
