use Rattle.sheet_sizes.proofs.CountLaws.{ahead-measured, known, then, bytes}
use Rattle.sheet_sizes.proofs.TypeLaws.{type-counts}
use Rattle.sheet_sizes.proofs.SizeLaws.{head-length}
use Rattle.sheet_bases.specs.Types.{head_bytes}
use Rattle.emit.specs.Laws.{join}
use Rattle.sheet_sizes.proofs.after_type.Goals as goal

pub returns : goal.returns
returns c = known (type-counts _ _ _ c.word_at.ensures c.bits-kind.ensures) (then (bytes c.args.from _ (join (ahead-measured _ c.ahead-t.ensures (head_bytes _ _ _) (head-length _ _ _)) c.after_names-t.ensures)) (then (c.after_base-base.ensures.is c.args.from) (then (rw c.ended.ensures at c.after_functions-c.ensures) c.after_variables.ensures)))
