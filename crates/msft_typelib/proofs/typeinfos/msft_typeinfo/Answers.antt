use Rattle.std.proofs.Common.{ap, of_calls, refl, ◌∙◌}
use Rattle.records.specs.Answer.{map}
use Rattle.replies.specs.CallLaws.{laid_as}
use Rattle.replies.specs.ParseLaws.{library-read}
use Rattle.rows.specs.ToldLaws.{type-info-told}
use Rattle.rows.specs.Values.{place}
use Rattle.typelib.specs.Told.{told_type_info}
use Rattle.typelib.specs.TypeInfos.{typeinfo_of}
use Rattle.msft_typelib.proofs.typeinfos.msft_typeinfo.Goals as goal

pub returns : goal.returns
returns c = laid_as _ c.lay.ensures (c.of_record.ensures ∙ ap (map place) (type-info-told _) ∙ library-read (λ a. map place (told_type_info a)) (λ lib. map place (typeinfo_of c.args.s.now lib c.args.index)) c.args.s.now c.parse.result c.parse.ensures c.and_then.ensures (λ lib h. ap (map place) (search of_calls)) (λ e. refl))
