use mathlib.Core.Path.{◌∙◌}
use Rattle.std.proofs.Common.{rules, tests, eqb}
use Rattle.std.proofs.lemmas.Iterator.{YieldsList-from_slice}
use Rattle.std.proofs.lemmas.Iterator.Search.{position_from_yields_List}
use Rattle.texts.specs.TextLaws.{word_length}
use Rattle.texts.proofs.text.word_length.Goals as goal

pub returns : goal.returns
returns c =
    let cell = c.args.cell.now in
    let found = position_from_yields_List (λ b. eqb b 32) _ _ c.position.result c.position.ensures.ran (YieldsList-from_slice cell cc) (λ x b q k. search (rules, tests)) in
    c.unwrap_or.ensures ∙ word_length cell _ found
