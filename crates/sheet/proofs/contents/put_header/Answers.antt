use Rattle.sheet.proofs.ContentLaws.{header_is}
use Rattle.emit.specs.Laws.{known, join}
use Rattle.sheet.proofs.contents.put_header.Goals as goal

pub returns : goal.returns
returns c = known (header_is _ _ c.word_at.ensures c.word_at-2.ensures) (join c.copy_u32-t.ensures (join c.copy_u32-t-2.ensures (join c.put_opt_guid-t.ensures c.put_opt_name.ensures)))
