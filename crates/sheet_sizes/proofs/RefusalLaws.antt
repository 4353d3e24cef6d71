-- Each number that a description is refused with is a refusal's. Assumes nothing.
use Rattle.std.specs.Prelude.{◌≡◌, refl, List, [], ◌∷◌, ℕ, T, eqb, true}
use Rattle.std.proofs.Common.{sym, ap, ◌∙◌, eqb-true}
use Rattle.util.specs.Read.{cond-elim}
use Rattle.records.specs.declared.answer.Refusal.{Refusal}
use Rattle.records.specs.declared.answer.Refusal.TheVariants.{OverLong, ShortHeader, WrongMagic, BadCount, ShortDirectory, NoSuchTypeInfo, NoTypeInfoTable, ShortTypeInfo, Circle, TooDeep, TooManyTypes}
use Rattle.records.specs.Answer.{Answer, refused}
use Rattle.records.specs.Told.{refusal_number}
use Rattle.constants.specs.Constants.{among}
use Rattle.description.specs.Format.{Each}
use Rattle.describe.specs.Answers.{answers-refused}
use Rattle.describe.specs.Refusals.{of_description, Sound}
use Rattle.emit.specs.Emit.{Refused, put}

-- the refusal of that number
pub record Named (n : ℕ) : Type 0 where
  pub refusal : Refusal
  pub is : refusal_number refusal ≡ n

named : (r : Refusal) → Named (refusal_number r)
named r = record { refusal = r; is = refl }

each-named : Each Named of_description
each-named = (
  named OverLong,
  (
    named ShortHeader,
    (
      named WrongMagic,
      (
        named BadCount,
        (
          named ShortDirectory,
          (
            named NoSuchTypeInfo,
            (
              named NoTypeInfoTable,
              (named ShortTypeInfo, (named Circle, (named TooDeep, (named TooManyTypes, tt)))),
            ),
          ),
        ),
      ),
    ),
  ),
)

one-of : (xs : List ℕ) → Each Named xs → (n : ℕ) → T (among n xs) → Named n
one-of [] h n t = absurd t
one-of (x ∷ xs) h n t =
    cond-elim (λ b. T b → Named n) (eqb n x) true (among n xs) (λ e _. rw (eqb-true n x e) h.0) (λ _. one-of xs h.1 n) t

-- What was refused ended at a number past all places: the refusal that this number is has the number that was refused with.
pub same-number : {A : Type 0} {x : Answer A} (to : ℕ) {n : ℕ} {r : Refusal} → Sound x → x ≡ refused n → put to ≡ Refused n
    → ((e : Refusal) → put to ≡ Refused (refusal_number e) → r ≡ e) → refusal_number r ≡ n
same-number to {n} sound e h f =
    let k : Named n = one-of of_description each-named n (answers-refused sound e) in
    ap refusal_number (f k.refusal (h ∙ ap Refused (sym k.is))) ∙ k.is
