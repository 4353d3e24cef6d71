use Rattle.sheet_trees.proofs.TreeLaws.{inline-long, inline-base}
use Rattle.emit.specs.Laws.{known}
use Rattle.sheet_trees.proofs.trees.put_inline.Goals as goal

pub returns-then-s-gt-LIMIT : goal.returns-then-s-gt-LIMIT
returns-then-s-gt-LIMIT c = known (inline-long _ _ c.if-s-gt-LIMIT.true) c.put_u8.ensures

pub returns-else-s-gt-LIMIT : goal.returns-else-s-gt-LIMIT
returns-else-s-gt-LIMIT c = known (inline-base _ _ c.if-s-gt-LIMIT.false c.bits.ensures) c.put_base.ensures
