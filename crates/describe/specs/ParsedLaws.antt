-- What `parse` replies tells whether the bytes are refused and which library they are: by a number, 0 or the refusal's, and a library
-- (`parsed`), and of the reply itself. Assumes nothing.
use Rattle.std.specs.Prelude.{◌≡◌, refl, List, ℕ}
use Rattle.std.specs.declared.result.Result.{Result}
use Rattle.std.proofs.Common.{sym, ap, ◌∙◌}
use Rattle.records.specs.Answer.{Answer, value, refused}
use Rattle.records.specs.Told.{told}
use Rattle.records.specs.declared.answer.Refusal.{Refusal}
use Rattle.typelib.specs.declared.TypeLib.{TypeLib}
use Rattle.typelib.specs.Header.{Parsed}
use Rattle.typelib.specs.Header.{parse_of, parsed}
use Rattle.describe.specs.Answers.{answers-refused}
use Rattle.describe.specs.Refusals.{parse-sound}

parsed-refused : (a : Answer TypeLib) {n : ℕ} → (parsed a).number ≡ n → (n ≡ 0 → ⊥) → a ≡ refused n
parsed-refused (value lib) e h = absurd (h (sym e))
parsed-refused (refused m) e h = ap refused e

parsed-value : (a : Answer TypeLib) → (parsed a).number ≡ 0 → (a ≡ refused 0 → ⊥) → a ≡ value (parsed a).lib
parsed-value (value lib) e h = refl
parsed-value (refused m) e h = absurd (h (ap refused e))

-- no refusal has the number 0
never-zero : (s : List ℕ) → parse_of s ≡ refused 0 → ⊥
never-zero s e = answers-refused (parse-sound s) e

module _ (s : List ℕ) (p : Parsed) (e : p ≡ parsed (parse_of s)) where
  number : (parsed (parse_of s)).number ≡ p.number
  number = ap (λ (x : Parsed). x.number) (sym e)

  -- a number that is not 0 is the refusal's
  pub parse-refused : (p.number ≡ 0 → ⊥) → parse_of s ≡ refused p.number
  parse-refused h = parsed-refused (parse_of s) number h

  -- a library whose number is 0 was parsed
  pub parse-read : p.number ≡ 0 → parse_of s ≡ value p.lib
  parse-read zero = parsed-value (parse_of s) (number ∙ zero) (never-zero s) ∙ ap (λ (x : Parsed). value x.lib) (sym e)

-- what `parse` promises of its reply, which is told by that number and that library
module _ (s : List ℕ) (r : Result TypeLib Refusal) (e : told r ≡ parse_of s) where
  pub reply-refused : ((parsed (told r)).number ≡ 0 → ⊥) → parse_of s ≡ refused (parsed (told r)).number
  reply-refused h = parse-refused s (parsed (told r)) (ap parsed e) h

  pub reply-read : (parsed (told r)).number ≡ 0 → parse_of s ≡ value (parsed (told r)).lib
  reply-read zero = parse-read s (parsed (told r)) (ap parsed e) zero
