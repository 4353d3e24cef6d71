use Rattle.std.proofs.Common.{ap, of_calls, of_z, refl, ◌∙◌}
use Rattle.std.specs.Int.{w32}
use Rattle.records.specs.Answer.{map}
use Rattle.replies.specs.CallLaws.{laid_as}
use Rattle.replies.specs.ParseLaws.{library-read}
use Rattle.rows.specs.ToldLaws.{resolved-told}
use Rattle.rows.specs.Values.{reference}
use Rattle.typelib.specs.References.{href_resolved}
use Rattle.typelib.specs.Told.{told_resolved}
use Rattle.msft_typelib.proofs.descriptors.msft_resolve_hreftype_full.Goals as goal

pub returns : goal.returns
returns c = laid_as _ c.lay.ensures (c.of_within.ensures ∙ resolved-told reference _ ∙ library-read (λ a. map reference (told_resolved a)) (λ lib. map reference (href_resolved c.args.s.now lib (of_z w32 c.args.hreftype))) c.args.s.now c.parse.result c.parse.ensures c.and_then.ensures (λ lib h. ap (map reference) (search of_calls)) (λ e. refl))
