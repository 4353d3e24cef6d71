use Rattle.std.proofs.Common.{ap, of_calls, of_z, refl, ◌∙◌}
use Rattle.std.specs.Int.{w32}
use Rattle.records.specs.Answer.{map}
use Rattle.records.specs.Told.{told}
use Rattle.replies.specs.CallLaws.{laid_as}
use Rattle.replies.specs.ParseLaws.{library-read}
use Rattle.rows.specs.Values.{place}
use Rattle.typelib.specs.Names.{string_text}
use Rattle.msft_typelib.proofs.tables.msft_string.Goals as goal

pub returns : goal.returns
returns c = laid_as _ c.lay.ensures (c.of_within.ensures ∙ library-read (λ a. map place (told a)) (λ lib. map place (string_text c.args.s.now lib (of_z w32 c.args.offset))) c.args.s.now c.parse.result c.parse.ensures c.and_then.ensures (λ lib h. ap (map place) (search of_calls)) (λ e. refl))
