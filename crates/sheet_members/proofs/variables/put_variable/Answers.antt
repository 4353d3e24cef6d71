use Rattle.sheet_members.proofs.MemberLaws.{variable-is}
use Rattle.emit.specs.Laws.{known, join}
use Rattle.sheet_members.proofs.variables.put_variable.Goals as goal

pub shape_of-out : goal.shape_of-out
shape_of-out c = (join c.put_opt_memid-t.ensures (join c.put_name-t.ensures (join c.put_tree-t.ensures (join c.copy_u32-t.ensures (join c.put_u16-t.ensures c.put_value.ensures))))).keeps

pub returns : goal.returns
returns c = known (variable-is _ _ _ _ _ _ _ c.var_memid.ensures c.var_name_offset.ensures c.word_at-field.ensures c.half_at-varkind.ensures c.word_at.ensures) (join c.put_opt_memid-t.ensures (join c.put_name-t.ensures (join c.put_tree-t.ensures (join c.copy_u32-t.ensures (join c.put_u16-t.ensures c.put_value.ensures)))))
