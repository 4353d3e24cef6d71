use Rattle.std.proofs.Common.{ap, of_calls, of_z, refl, ◌∙◌}
use Rattle.std.specs.Int.{w32}
use Rattle.records.specs.Answer.{map}
use Rattle.replies.specs.CallLaws.{laid_as}
use Rattle.replies.specs.ParseLaws.{library-read}
use Rattle.rows.specs.ToldLaws.{imp-file-told}
use Rattle.rows.specs.Values.{place}
use Rattle.typelib.specs.References.{imp_file_at}
use Rattle.typelib.specs.Told.{told_imp_file}
use Rattle.msft_typelib.proofs.descriptors.msft_imp_file.Goals as goal

pub returns : goal.returns
returns c = laid_as _ c.lay.ensures (c.of_record.ensures ∙ ap (map place) (imp-file-told _) ∙ library-read (λ a. map place (told_imp_file a)) (λ lib. map place (imp_file_at c.args.s.now lib (of_z w32 c.args.offset))) c.args.s.now c.parse.result c.parse.ensures c.and_then.ensures (λ lib h. ap (map place) (search of_calls)) (λ e. refl))
