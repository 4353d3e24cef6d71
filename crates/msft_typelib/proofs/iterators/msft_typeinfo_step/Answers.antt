use Rattle.std.proofs.Common.{of_calls, refl}
use Rattle.replies.specs.At.{typeinfos_at}
use Rattle.replies.specs.CallLaws.{laid_as}
use Rattle.replies.specs.ParseLaws.{library-read}
use Rattle.rows.specs.Told.{told_row}
use Rattle.rows.specs.ToldLaws.{type-info-step-told}
use Rattle.rows.specs.Values.{step, typeinfo_numbers}
use Rattle.table_cursors.specs.Cursors.{typeinfo_step}
use Rattle.msft_typelib.proofs.iterators.msft_typeinfo_step.Goals as goal

pub returns : goal.returns
returns c = laid_as _ c.lay.ensures (library-read told_row (λ lib. step typeinfo_numbers (typeinfo_step c.args.s.now lib (typeinfos_at c.args.index))) c.args.s.now c.parse.result c.parse.ensures c.and_then.ensures (λ lib h. search (of_calls, type-info-step-told)) (λ e. refl))
