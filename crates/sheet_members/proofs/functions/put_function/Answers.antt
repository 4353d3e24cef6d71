use Rattle.emit.specs.Laws.{known, join}
use Rattle.sheet_members.proofs.MemberLaws.{function-is}
use Rattle.sheet_members.proofs.functions.put_function.Goals as goal

pub returns : goal.returns
returns c = known (function-is _ _ _ _ _ _ _ c.requires.memid_value c.requires.name_offset_value c.word_at-field.ensures) (join c.put_opt_memid-t.ensures (join (c.put_name_by-t.ensures.near_name_by_put c.requires.near) (join c.put_tree-t.ensures (join c.put_words-t.ensures c.put_parameters.ensures))))
