use Rattle.sheet_sizes.proofs.CountLaws.{ahead-measured, known, then, bytes, variable-part}
use Rattle.sheet_sizes.proofs.MemberLaws.{variable-counts}
use Rattle.sheet_sizes.proofs.SizeLaws.{longer}
use Rattle.description.specs.Format.{le_bytes, length-le_bytes}
use Rattle.emit.specs.Laws.{join}
use mathlib.Core.List.{◌++◌}
use Prim.Native.Nat.{◌+◌}
use Rattle.util.specs.Read.{read, or_zero}
use Rattle.sheet_sizes.proofs.variables.after_variable.Goals as goal

pub after_name_by-t-requires : goal.after_name_by-t-requires
after_name_by-t-requires c = c.requires

pub returns : goal.returns
returns c = let a = le_bytes 4 (or_zero (read 4 c.args.s.now (c.args.var.at + 8))) in let b = le_bytes 2 c.half_at-varkind.result in known (variable-counts _ _ _ _ _ _ _ c.var_memid.ensures c.var_name_offset-offset.ensures c.word_at-field.ensures c.half_at-varkind.ensures c.word_at-word.ensures) (then (bytes c.args.from _ (join c.after_memid-t.ensures c.after_name_by-t.ensures)) (then (c.after_tree-tree.ensures.is c.args.from) (variable-part _ _ _ (join (ahead-measured _ c.ahead-t.ensures (a ++ b) (longer a b (length-le_bytes 4 _) (length-le_bytes 2 _))) c.after_value.ensures) c.ahead.ensures)))
