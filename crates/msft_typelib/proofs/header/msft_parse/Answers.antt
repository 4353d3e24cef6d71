use Rattle.std.specs.Prelude.{pos, neg_ℤ}
use Rattle.std.proofs.Common.{◌∙◌, ap, refl}
use Rattle.std.specs.Int.{w64}
use Rattle.std.proofs.lemmas.Int.{to_z-of_z}
use Rattle.records.specs.Answer.{value}
use Rattle.replies.specs.Call.{reply}
use Rattle.replies.specs.ParseLaws.{in-library, no-library}
use Rattle.msft_typelib.proofs.header.msft_parse.Goals as goal

pub returns-in-Ok : goal.returns-in-Ok
unfolding reply
returns-in-Ok c = ap reply (in-library (λ _. value 0) c.args.s.now c.parse.result c.parse.ensures c.in-Ok.is refl)

pub returns-in-Err : goal.returns-in-Err
unfolding reply
returns-in-Err c = to_z-of_z w64 c.minus.result (record { sfits = c.minus.type_inv }) ∙ c.minus.ensures ∙ ap (λ n. neg_ℤ (pos n)) c.number.ensures ∙ ap reply (no-library (λ _. value 0) c.args.s.now c.parse.result c.parse.ensures c.in-Err.is)
