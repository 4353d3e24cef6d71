use Rattle.emit.specs.Laws.{known, join}
use Rattle.sheet_trees.proofs.PartLaws.{misplaced-is}
use Rattle.sheet_trees.proofs.references.put_misplaced.Goals as goal

pub returns : goal.returns
returns c = known (misplaced-is _ _) (join c.put_le-t.ensures c.put_u32.ensures)
