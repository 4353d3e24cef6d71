use Rattle.std.proofs.Common.{ap, of_calls, of_z, refl, ◌∙◌}
use Rattle.std.specs.Int.{w32}
use Rattle.records.specs.Answer.{map}
use Rattle.replies.specs.CallLaws.{laid_as}
use Rattle.replies.specs.ParseLaws.{library-read}
use Rattle.rows.specs.ToldLaws.{index-told}
use Rattle.rows.specs.Values.{size}
use Rattle.typelib.specs.References.{href_index}
use Rattle.typelib.specs.Told.{told_index}
use Rattle.msft_typelib.proofs.descriptors.msft_resolve_hreftype.Goals as goal

pub returns : goal.returns
returns c = laid_as _ c.lay.ensures (c.of_within.ensures ∙ index-told size _ ∙ library-read (λ a. map size (told_index a)) (λ lib. map size (href_index lib (of_z w32 c.args.hreftype))) c.args.s.now c.parse.result c.parse.ensures c.and_then.ensures (λ lib h. ap (map size) (search of_calls)) (λ e. refl))
