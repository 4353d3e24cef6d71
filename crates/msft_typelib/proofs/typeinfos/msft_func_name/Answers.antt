use Rattle.std.proofs.Common.{ap, of_calls, refl, ◌∙◌}
use Rattle.records.specs.Answer.{map}
use Rattle.records.specs.Told.{told}
use Rattle.replies.specs.At.{typeinfo_at}
use Rattle.replies.specs.CallLaws.{laid_as}
use Rattle.replies.specs.ParseLaws.{library-read}
use Rattle.rows.specs.Values.{place}
use Rattle.typelib.specs.TypeInfos.{func_name}
use Rattle.msft_typelib.proofs.typeinfos.msft_func_name.Goals as goal

pub returns : goal.returns
returns c = laid_as _ c.lay.ensures (c.of_within.ensures ∙ library-read (λ a. map place (told a)) (λ lib. map place (func_name c.args.s.now lib (typeinfo_at c.args.at c.args.len) c.args.index)) c.args.s.now c.parse.result c.parse.ensures c.and_then.ensures (λ lib h. ap (map place) (search of_calls)) (λ e. refl))
