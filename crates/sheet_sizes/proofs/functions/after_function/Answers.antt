use Rattle.sheet_sizes.proofs.CountLaws.{ahead-measured, known, then, bytes, function-part}
use Rattle.sheet_sizes.proofs.MemberLaws.{function-counts}
use Rattle.sheet_sizes.proofs.SizeLaws.{words-length}
use Rattle.sheet_members.specs.Words.{function_words}
use Rattle.emit.specs.Laws.{join}
use Rattle.sheet_sizes.proofs.functions.after_function.Goals as goal

pub returns : goal.returns
returns c = λ ti i e f. known (function-counts _ _ ti i _ _ _ e f c.word_at-field.ensures) (then (bytes c.args.from _ (join c.after_memid-t.ensures c.after_name_by-t.ensures)) (then (c.after_tree-result.ensures.is c.args.from) (then (function-part _ _ _ (ahead-measured _ c.ahead.ensures (function_words _ _) (words-length _ _)) c.ahead-2.ensures) c.after_parameters.ensures)))
