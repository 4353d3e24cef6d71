use Rattle.sheet_bases.proofs.BaseLaws.{at-start, at_next, at_place, at-end, links-more, links-none}
use Rattle.emit.specs.Laws.{left-all, left_less, left-none}
use Rattle.impltypes.specs.Chain.{told_impl_type_step}
use Rattle.records.specs.AnswerLaws.{tells}
use Rattle.sheet_bases.proofs.put_links.Goals as goal

pub loop-init : goal.loop-init
loop-init c = (left-all, at-start _ _ _ _)

pub shape_of-out-in_default : goal.shape_of-out-in_default
shape_of-out-in_default c = at-end _ _ _ _ c.requires _ c.loop-test.true c.loop.invariant.1 (tells told_impl_type_step c.in_default.is c.step.ensures)

pub returns-in_default : goal.returns-in_default
returns-in_default c = at-end _ _ _ _ c.requires _ c.loop-test.true c.loop.invariant.1 (tells told_impl_type_step c.in_default.is c.step.ensures)

pub loop-preserved : goal.loop-preserved
loop-preserved c = let e = tells told_impl_type_step c.in-Record.is c.step.ensures in (left_less c.loop.invariant.0 c.put_link-t.ensures (links-more _ _ _ _ _ c.loop-test.true (at_place _ _ _ _ c.requires _ c.loop-test.true c.loop.invariant.1 e)), at_next _ _ _ _ c.requires _ c.loop-test.true c.loop.invariant.1 e)

pub shape_of-out : goal.shape_of-out
shape_of-out c = (left-none c.loop.invariant.0 (links-none _ _ _ _ _ c.loop-test.false)).keeps

pub returns : goal.returns
returns c = left-none c.loop.invariant.0 (links-none _ _ _ _ _ c.loop-test.false)
