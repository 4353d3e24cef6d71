use Rattle.emit.specs.Laws.{known, join}
use Rattle.sheet_trees.proofs.PartLaws.{internal-is}
use Rattle.sheet_trees.proofs.references.put_internal.Goals as goal

pub returns : goal.returns
returns c = known (internal-is _ _) (join c.put_le-t.ensures c.put_le.ensures)
