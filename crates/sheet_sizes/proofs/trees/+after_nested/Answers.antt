use native.Mathlib.Nat.{pos_of_ne-zero}
use native.Mathlib.Omega.{arith}
use Rattle.sheet_sizes.proofs.TreeLaws.{deep-counted, two-counted, leaf-counted, branch-counted, branch-place, ahead-most}
use Rattle.sheet_sizes.proofs.trees.+after_nested.Goals as goal

pub returns-then-levels-eq0 : goal.returns-then-levels-eq0
returns-then-levels-eq0 t c = deep-counted _ _ _ _ _ c.requires c.if-levels-eq0.true

pub after_nested-requires : goal.after_nested-requires
after_nested-requires t c = (omega (arith, c.if-levels-ge2.true), ahead-most _ _ c.requires c.ahead.ensures)

pub returns-in-Some : goal.returns-in-Some
returns-in-Some t c = two-counted _ _ _ _ _ _ c.if-levels-ge2.true c.under_two.ensures c.in-Some.is c.ahead.ensures c.after_nested.ensures

pub after_level-level-requires : goal.after_level-level-requires
after_level-level-requires t c = c.requires

pub overflow_sub-levels-in-Some-inner : goal.overflow_sub-levels-in-Some-inner
overflow_sub-levels-in-Some-inner t c = omega (arith, pos_of_ne-zero c.if-levels-eq0.false)

pub after_nested-requires-in-Some-inner : goal.after_nested-requires-in-Some-inner
after_nested-requires-in-Some-inner t c = (omega (arith, pos_of_ne-zero c.if-levels-eq0.false), branch-place _ _ _ c.requires _ c.after_level-level.ensures c.in-Some-inner.is)

pub returns-in-Some-inner : goal.returns-in-Some-inner
returns-in-Some-inner t c = branch-counted _ _ _ c.requires _ _ c.if-levels-eq0.false c.after_level-level.ensures c.in-Some-inner.is c.after_nested-in-Some-inner.ensures

pub returns-in-None : goal.returns-in-None
returns-in-None t c = leaf-counted _ _ _ c.requires _ _ c.if-levels-eq0.false c.after_level-level.ensures c.in-None.is
