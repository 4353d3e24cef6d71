use Rattle.sheet_trees.proofs.TreeLaws.{array-is}
use Rattle.emit.specs.Laws.{known, join}
use Rattle.sheet_trees.proofs.trees.put_array.Goals as goal

pub returns : goal.returns
returns c = known (array-is _ _ c.half_at-count.ensures) (join c.put_u8-t.ensures (join c.put_u16-t.ensures c.put_dimensions.ensures))
