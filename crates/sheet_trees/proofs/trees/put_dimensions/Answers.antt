use Rattle.emit.specs.Laws.{join, left_less, left-none}
use Rattle.sheet_trees.proofs.TreeLaws.{dimensions-turn, dimensions-none, stays}
use Rattle.sheet_trees.proofs.trees.put_dimensions.Goals as goal

pub returns-then-t-ge-PAST : goal.returns-then-t-ge-PAST
returns-then-t-ge-PAST c = c.loop-k.invariant.finish _ _ (stays _ _ _ c.if-t-ge-PAST.true)

pub loop-k-preserved : goal.loop-k-preserved
loop-k-preserved c = left_less c.loop-k.invariant (join c.copy_u32-t.ensures c.copy_u32-t-in-loop-k.ensures) (dimensions-turn _ _ _ _ c.loop-k-test.true)

pub returns : goal.returns
returns c = left-none c.loop-k.invariant (dimensions-none _ _ _ _ c.loop-k-test.false)
