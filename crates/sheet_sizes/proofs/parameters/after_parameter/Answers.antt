use Rattle.sheet_sizes.proofs.CountLaws.{ahead-measured, known-e, then-e, bytes-e}
use Rattle.sheet_sizes.proofs.MemberLaws.{parameter-counts}
use Rattle.sheet_members.proofs.MemberLaws.{default-set, default-unset}
use Rattle.description.specs.Format.{le_bytes, length-le_bytes}
use Rattle.emit.specs.Laws.{known, join}
use native.Mathlib.Omega.{arith}
use Rattle.sheet_sizes.proofs.parameters.after_parameter.Goals as goal

pub returns-then-flags-eq1 : goal.returns-then-flags-eq1
returns-then-flags-eq1 c = known-e (parameter-counts _ _ _ _ _ c.word_at-field.ensures c.word_at.ensures c.word_at-flags.ensures) (then-e c.after_tree-tree.ensures (bytes-e _ _ _ (join c.after_name-t.ensures (known (default-set _ _ _ c.default_value_offset-offset.ensures c.if-flags-eq1.true) (join (ahead-measured _ c.ahead.ensures (le_bytes 4 c.word_at-flags.result) (length-le_bytes 4 _)) c.after_default-to.ensures)))))

pub returns-else-flags-eq1 : goal.returns-else-flags-eq1
returns-else-flags-eq1 c = known-e (parameter-counts _ _ _ _ _ c.word_at-field.ensures c.word_at.ensures c.word_at-flags.ensures) (then-e c.after_tree-tree.ensures (bytes-e _ _ _ (join c.after_name-t.ensures (known (default-unset _ _ _ _ (omega arith) c.if-flags-eq1.false) (ahead-measured _ c.ahead-to.ensures _ (length-le_bytes 5 _))))))
