use Rattle.std.proofs.Common.{ap, of_calls, refl, ◌∙◌}
use Rattle.impltypes.specs.Chain.{impl_types_of}
use Rattle.records.specs.Answer.{map}
use Rattle.records.specs.Told.{told}
use Rattle.replies.specs.At.{typeinfo_at}
use Rattle.replies.specs.CallLaws.{laid_as}
use Rattle.replies.specs.ParseLaws.{library-read}
use Rattle.rows.specs.Values.{chain_cursor}
use Rattle.msft_typelib.proofs.iterators.msft_impl_types.Goals as goal

pub returns : goal.returns
returns c = laid_as _ c.lay.ensures (c.of_within.ensures ∙ library-read (λ a. map chain_cursor (told a)) (λ lib. map chain_cursor (impl_types_of c.args.s.now lib (typeinfo_at c.args.at c.args.len))) c.args.s.now c.parse.result c.parse.ensures c.and_then.ensures (λ lib h. ap (map chain_cursor) (search of_calls)) (λ e. refl))
