use Rattle.sheet_bases.proofs.TypeLaws.{head-is}
use Rattle.emit.specs.Laws.{known, join}
use Rattle.sheet_types.proofs.put_head.Goals as goal

pub returns : goal.returns
returns c = known (head-is _ _ _) (join c.put_le-t.ensures (join c.copy_u32-t.ensures c.copy_u32.ensures))
