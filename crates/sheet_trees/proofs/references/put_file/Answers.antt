use Rattle.sheet_trees.proofs.PartLaws.{file-some, file-none}
use Rattle.emit.specs.Laws.{known, join}
use Rattle.sheet_trees.proofs.references.put_file.Goals as goal

pub returns-in_default : goal.returns-in_default
returns-in_default c = known (file-none _ _ _ c.in_default.is) c.put_u8.ensures

pub returns : goal.returns
returns c = known (file-some _ _ _ c.in-Ok.is c.part-bytes.ensures c.word_at.ensures) (join c.put_u8-t.ensures (join c.put_opt_guid-t.ensures (join c.copy_u32-t.ensures (join c.copy_u32-t-2.ensures (join c.put_le-t.ensures c.put_bytes.ensures)))))
