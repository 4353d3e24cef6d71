use Rattle.sheet_trees.proofs.TreeLaws.{inline-tree, whole-tree}
use Rattle.emit.specs.Laws.{known}
use Rattle.sheet_trees.proofs.trees.put_tree.Goals as goal

pub returns-then-field-ge-NEGATIVE : goal.returns-then-field-ge-NEGATIVE
returns-then-field-ge-NEGATIVE c = known (inline-tree _ _ _ c.if-field-ge-NEGATIVE.true) c.put_inline.ensures

pub returns-else-field-ge-NEGATIVE : goal.returns-else-field-ge-NEGATIVE
returns-else-field-ge-NEGATIVE c = known (whole-tree _ _ _) c.put_nested.ensures
