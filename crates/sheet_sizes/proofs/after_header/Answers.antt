use Rattle.sheet_sizes.proofs.SizeLaws.{header-counted}
use Rattle.sheet_sizes.proofs.after_header.Goals as goal

pub after_name-requires : goal.after_name-requires
after_name-requires c = c.names_of-names.ensures

pub returns : goal.returns
returns c = header-counted _ _ _ _ c.ahead-t.ensures c.word_at.ensures c.word_at-2.ensures c.after_guid-t.ensures c.after_name.ensures
