use Rattle.sheet_trees.proofs.PartLaws.{import-is}
use Rattle.emit.specs.Laws.{known, join}
use Rattle.sheet_trees.proofs.references.put_import.Goals as goal

pub returns : goal.returns
returns c = known (import-is _ _ _ _ _ c.word_at-flags.ensures c.word_at.ensures) (join c.put_u8-t.ensures (join c.put_le-t.ensures (join c.put_u32-t.ensures (join c.put_own-t.ensures c.put_opt_file.ensures))))
