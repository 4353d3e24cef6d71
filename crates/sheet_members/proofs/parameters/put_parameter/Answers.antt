use Rattle.std.proofs.Common.{arith}
use Rattle.emit.specs.Laws.{known, join}
use Rattle.sheet_members.proofs.MemberLaws.{parameter-is, default-set, default-unset}
use Rattle.sheet_members.proofs.parameters.put_parameter.Goals as goal

pub returns-then-flags-eq1 : goal.returns-then-flags-eq1
returns-then-flags-eq1 c = known (parameter-is _ _ _ _ _ c.word_at-field.ensures c.word_at.ensures c.word_at-flags.ensures) (join c.put_tree-t.ensures (join (c.put_name_in-t.ensures.near_name_put c.requires) (known (default-set _ _ _ c.default_value_offset.ensures c.if-flags-eq1.true) (join c.put_u32-t.ensures c.put_constant_by.ensures))))

pub returns-else-flags-eq1 : goal.returns-else-flags-eq1
returns-else-flags-eq1 c = known (parameter-is _ _ _ _ _ c.word_at-field.ensures c.word_at.ensures c.word_at-flags.ensures) (join c.put_tree-t.ensures (join (c.put_name_in-t.ensures.near_name_put c.requires) (known (default-unset _ _ _ _ (omega arith) c.if-flags-eq1.false) c.put_le.ensures)))
