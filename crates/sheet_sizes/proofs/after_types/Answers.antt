use Rattle.sheet_sizes.proofs.TypeLaws.{types-all, types_more, types-none}
use Rattle.sheet_sizes.proofs.CountLaws.{left-all, left_less, left-none, left-stopped, known}
use native.Mathlib.Omega.{arith}
use borrow.Author.Rules.{rules}
use Rattle.typelib.specs.Header.{library}
use Rattle.sheet_sizes.proofs.after_types.Goals as goal

pub loop-i-init : goal.loop-i-init
loop-i-init c = (left-all, search rules)

pub returns-then-c-gt-PAST : goal.returns-then-c-gt-PAST
returns-then-c-gt-PAST c = known (types-all _ (library c.args.lib.now) _) (left-stopped c.loop-i.invariant.0 c.if-c-gt-PAST.true)

pub loop-i-preserved : goal.loop-i-preserved
loop-i-preserved c = (left_less c.loop-i.invariant.0 c.after_type_of-c.ensures (types_more _ _ _ _ (omega (arith, c.loop-i-test.true, c.loop-i.invariant.1))), c.loop-i.invariant.1)

pub returns : goal.returns
returns c = known (types-all _ (library c.args.lib.now) _) (left-none c.loop-i.invariant.0 (types-none _ (library c.args.lib.now) _ _ (omega (arith, c.loop-i-test.false, c.loop-i.invariant.1))))
