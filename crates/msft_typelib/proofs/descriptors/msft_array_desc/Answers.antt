use Rattle.std.proofs.Common.{ap, of_calls, of_z, refl, ◌∙◌}
use Rattle.std.specs.Int.{w32}
use Rattle.records.specs.Answer.{map}
use Rattle.replies.specs.CallLaws.{laid_as}
use Rattle.replies.specs.ParseLaws.{library-read}
use Rattle.rows.specs.ToldLaws.{array-desc-told}
use Rattle.rows.specs.Values.{place}
use Rattle.typelib.specs.Descriptors.{array_desc_at}
use Rattle.typelib.specs.Told.{told_array_desc}
use Rattle.msft_typelib.proofs.descriptors.msft_array_desc.Goals as goal

pub returns : goal.returns
returns c = laid_as _ c.lay.ensures (c.of_record.ensures ∙ ap (map place) (array-desc-told _) ∙ library-read (λ a. map place (told_array_desc a)) (λ lib. map place (array_desc_at c.args.s.now lib (of_z w32 c.args.offset))) c.args.s.now c.parse.result c.parse.ensures c.and_then.ensures (λ lib h. ap (map place) (search of_calls)) (λ e. refl))
