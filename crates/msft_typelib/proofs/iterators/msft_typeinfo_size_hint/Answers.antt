use Rattle.std.proofs.Common.{ap, of_calls, refl, rules, ◌-◌, ◌∙◌}
use Rattle.records.specs.Answer.{map, value}
use Rattle.records.specs.Told.{told}
use Rattle.replies.specs.CallLaws.{laid_as}
use Rattle.replies.specs.ParseLaws.{library-read, ok-told}
use Rattle.rows.specs.Values.{size}
use Rattle.typelib.specs.Header.{type_count}
use Rattle.msft_typelib.proofs.iterators.msft_typeinfo_size_hint.Goals as goal

pub returns : goal.returns
returns c = laid_as _ c.lay.ensures (c.of_within.ensures ∙ library-read (λ a. map size (told a)) (λ lib. value (size (type_count lib - c.args.index))) c.args.s.now c.parse.result c.parse.ensures c.map.ensures.cases (λ lib h. ap (map size) (ok-told c.map.result h (λ y k. search (of_calls, rules)))) (λ e. refl))
