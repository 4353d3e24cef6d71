use Rattle.std.proofs.Common.{ap, of_calls, refl, ◌∙◌}
use Rattle.records.specs.Answer.{map}
use Rattle.records.specs.Told.{told}
use Rattle.replies.specs.CallLaws.{laid_as}
use Rattle.replies.specs.ParseLaws.{library-read}
use Rattle.rows.specs.Values.{place}
use Rattle.typelib.specs.Names.{segment_bytes}
use Rattle.msft_typelib.proofs.tables.msft_name_hash_data.Goals as goal

pub returns : goal.returns
returns c = laid_as _ c.lay.ensures (c.of_within.ensures ∙ library-read (λ a. map place (told a)) (λ lib. map place (segment_bytes c.args.s.now lib 6)) c.args.s.now c.parse.result c.parse.ensures c.and_then.ensures (λ lib h. ap (map place) (search of_calls)) (λ e. refl))
