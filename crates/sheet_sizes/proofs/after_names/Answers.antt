use Rattle.sheet_sizes.proofs.SizeLaws.{names-counted}
use Rattle.sheet_sizes.proofs.after_names.Goals as goal

pub after_name-t-requires : goal.after_name-t-requires
after_name-t-requires c = c.names_of-names.ensures

pub returns : goal.returns
returns c = names-counted _ _ _ _ _ c.word_at.ensures c.word_at-2.ensures c.after_guid-t.ensures c.after_name-t.ensures c.ahead.ensures
