use Rattle.std.proofs.Common.{ap, of_calls, refl, ◌∙◌}
use Rattle.records.specs.Answer.{map}
use Rattle.records.specs.Told.{told_guid}
use Rattle.replies.specs.CallLaws.{laid_as}
use Rattle.replies.specs.ParseLaws.{library-read}
use Rattle.rows.specs.ToldLaws.{guid-told}
use Rattle.rows.specs.Values.{place}
use Rattle.typelib.specs.Names.{lib_guid}
use Rattle.msft_typelib.proofs.tables.msft_lib_guid.Goals as goal

pub returns : goal.returns
returns c = laid_as _ c.lay.ensures (c.of_record.ensures ∙ ap (map place) (guid-told _) ∙ library-read (λ a. map place (told_guid a)) (λ lib. map place (lib_guid c.args.s.now lib)) c.args.s.now c.parse.result c.parse.ensures c.and_then.ensures (λ lib h. ap (map place) (search of_calls)) (λ e. refl))
