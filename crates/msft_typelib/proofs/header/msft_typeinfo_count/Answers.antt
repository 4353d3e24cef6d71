use Rattle.std.proofs.Common.{ap, of_calls, refl, rules, ◌∙◌}
use Rattle.records.specs.Answer.{value}
use Rattle.records.specs.Told.{told}
use Rattle.replies.specs.Call.{reply}
use Rattle.replies.specs.ParseLaws.{library-read, ok-told}
use Rattle.typelib.specs.Header.{type_count}
use Rattle.msft_typelib.proofs.header.msft_typeinfo_count.Goals as goal

pub returns : goal.returns
returns c = c.of_told.ensures ∙ ap reply (library-read told (λ lib. value (type_count lib)) c.args.s.now c.parse.result c.parse.ensures c.map.ensures.cases (λ lib h. ok-told c.map.result h (λ y k. search (of_calls, rules))) (λ e. refl))
