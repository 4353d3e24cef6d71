use Rattle.records.specs.Answer.{refused}
use Rattle.records.specs.AnswerLaws.{bind-value, when_true, when_false}
use Rattle.records.specs.Counted.{text_of}
use Rattle.records.specs.Record.{part_of}
use Rattle.records.specs.Told.{told_as}
use Rattle.utf8.specs.Utf8.{utf8}
use Rattle.std.proofs.Common.{rules, refl, sym, ◌∙◌, ap}
use Rattle.records.proofs.answer.text.Goals as goal

pub returns-in_err-place : goal.returns-in_err-place
unfolding text_of
returns-in_err-place g c = search rules

pub returns-then-is_utf8 : goal.returns-then-is_utf8
unfolding text_of
returns-then-is_utf8 g c =
    let told = ap (told_as g.E.Refuses.number) c.in_ok-place.was in
    let part = c.part.ensures ∙ ap (part_of c.args.s.now) told in
    bind-value _ _ _ _ (sym told) (when_true _ _ _ _ (sym (ap utf8 part) ∙ sym c.is_utf8.ensures.value ∙ c.if-is_utf8.true) refl)

pub returns-else-is_utf8 : goal.returns-else-is_utf8
unfolding text_of
returns-else-is_utf8 g c =
    let told = ap (told_as g.E.Refuses.number) c.in_ok-place.was in
    let part = c.part.ensures ∙ ap (part_of c.args.s.now) told in
    let nine = ap (λ e. refused (g.E.Refuses.number e)) c.NOTHING_THERE.ensures ∙ ap refused g.met.E.Refuses.nine in
    bind-value _ _ _ _ (sym told) (when_false _ _ _ _ (sym (ap utf8 part) ∙ sym c.is_utf8.ensures.value ∙ c.if-is_utf8.false) nine)
