use Rattle.std.proofs.Common.{ap, of_calls, refl, ◌∙◌}
use Rattle.replies.specs.Call.{reply}
use Rattle.replies.specs.ParseLaws.{library-read}
use Rattle.typelib.specs.Told.{told_offset}
use Rattle.typelib.specs.TypeInfos.{typeinfo_offset}
use Rattle.msft_typelib.proofs.typeinfos.msft_typeinfo_offset.Goals as goal

pub returns : goal.returns
returns c = c.of_told.ensures ∙ ap reply (library-read told_offset (λ lib. typeinfo_offset c.args.s.now lib c.args.index) c.args.s.now c.parse.result c.parse.ensures c.and_then.ensures (λ lib h. search of_calls) (λ e. refl))
