-- What stands behind `parse`. Assumes nothing.
use Rattle.std.specs.Prelude.{◌≡◌, List, ℕ, ◌+◌, ◌*◌, leb, ltb, eqb, length, Ok, Err, MatchResult, IsOkAnd}
use Rattle.std.proofs.Common.{sym, ap, ◌∙◌, arith}
use Rattle.util.specs.Read.{cond-elim}
use Rattle.records.specs.Answer.{Answer, value, refused}
use Rattle.std.specs.declared.result.Result.{Result}
use Rattle.records.specs.Told.{refusal_number, told}
use Rattle.records.specs.declared.answer.Refusal.{Refusal}
use Rattle.records.specs.Layout.{size_of}
use Rattle.records.specs.Record.{limit}
use Rattle.typelib.specs.declared.TypeLib.{TypeLib}
use Rattle.typelib.specs.Header.{header, p_seg, word, signature, directory_at, parse_of, parsed}
use Rattle.replies.specs.Call.{refusal_of, library_in, past, in_library}
use Rattle.replies.specs.CallLaws.{after_none, after-some}

-- ---- `parse` refuses with no 0

abbrev NotZero : {A : Type 0} → Answer A → Type 0
NotZero a = (n : ℕ) → refused n ≡ a → n ≡ 0 → ⊥

is-value : {A : Type 0} (x : A) → NotZero (value x)
is-value x n e z = let q : ◌≡◌ {A = ℕ} 0 1 = cc in omega arith

is_number : {A : Type 0} (m : ℕ) → (m ≡ 0 → ⊥) → NotZero {A = A} (refused m)
is_number m h n e z = let q : n ≡ m = cc in h (sym q ∙ z)

parse-number : (s : List ℕ) → NotZero (parse_of s)
unfolding parse_of
parse-number s =
    cond-elim NotZero (ltb limit (length s)) _ _ (λ _. is_number 1 (λ z. omega arith)) (λ _.
    cond-elim NotZero (ltb (length s) (size_of header)) _ _ (λ _. is_number 2 (λ z. omega arith)) (λ _.
    cond-elim NotZero (eqb (word "magic1" s) signature) _ _
    (λ _.
    cond-elim NotZero (leb 0x80000000 (word "nrtypeinfos" s)) _ _ (λ _. is_number 4 (λ z. omega arith)) (λ _.
    cond-elim NotZero (ltb (length s) (directory_at s + size_of p_seg * 15)) _ _ (λ _. is_number 5 (λ z. omega arith)) (λ _.
    is-value _)))
    (λ _. is_number 3 (λ z. omega arith))))

-- ---- behind a library stands the answer of the reading, and the library is the one that it reads

pub past_value : {A : Type 0} (s : List ℕ) (lib : TypeLib) (a : Answer A) → parse_of s ≡ value lib → past s a ≡ a
unfolding refusal_of
past_value s lib a e = sym (after_none (parsed (parse_of s)).number a (ap (λ p. (parsed p).number) e))

pub past-library : (s : List ℕ) (lib : TypeLib) → parse_of s ≡ value lib → library_in s ≡ lib
unfolding library_in
past-library s lib e = ap (λ p. (parsed p).lib) e

-- ---- behind a refusal that refusal

pub past-refused : {A : Type 0} (s : List ℕ) (n : ℕ) (a : Answer A) → parse_of s ≡ refused n → past s a ≡ refused n
unfolding refusal_of
past-refused s n a e =
    let q : (parsed (parse_of s)).number ≡ n = ap (λ p. (parsed p).number) e in
    sym (after-some (parsed (parse_of s)).number a (λ z. parse-number s n (sym e) (sym q ∙ z))) ∙ ap refused q

-- ---- a reading of what `parse` gives, or its refusal

module _ {A B : Type 0} (tell : Result A Refusal → Answer B) (reading : TypeLib → Answer B) where
  pub library-read : (s : List ℕ) (p : Result TypeLib Refusal) {x : Result A Refusal} {P : TypeLib → Type 0} → told p ≡ parse_of s
      → MatchResult p P (λ e. x ≡ Err e) → ((lib : TypeLib) → P lib → tell x ≡ reading lib) → ((e : Refusal) → tell (Err e) ≡ refused (refusal_number e))
      → tell x ≡ in_library s reading
  library-read s (Ok lib) {x} e m h k =
      let q : parse_of s ≡ value lib = sym e in
      h lib m ∙ ap reading (sym (past-library s lib q)) ∙ sym (past_value s lib (reading (library_in s)) q)
  library-read s (Err r) {x} e m h k = ap tell m ∙ k r ∙ sym (past-refused s (refusal_number r) (reading (library_in s)) (sym e))

module _ {B : Type 0} (reading : TypeLib → Answer B) (s : List ℕ) (p : Result TypeLib Refusal) where
  -- an answer of the library that it gives
  pub in-library : {lib : TypeLib} {x : Answer B} → told p ≡ parse_of s → p ≡ Ok lib → x ≡ reading lib → x ≡ in_library s reading
  in-library {lib} e k h =
      let q : parse_of s ≡ value lib = sym e ∙ ap told k in
      h ∙ ap reading (sym (past-library s lib q)) ∙ sym (past_value s lib (reading (library_in s)) q)

  pub no-library : {r : Refusal} → told p ≡ parse_of s → p ≡ Err r → refused (refusal_number r) ≡ in_library s reading
  no-library {r} e k = sym (past-refused s (refusal_number r) (reading (library_in s)) (sym e ∙ ap told k))

-- a value that a library gives without fail
pub ok-told : {A : Type 0} {P : A → Type 0} {v : A} (x : Result A Refusal) → IsOkAnd x P → ((y : A) → P y → y ≡ v) → told x ≡ value v
ok-told (Ok y) m h = ap value (h y m)
ok-told (Err e) m h = absurd m
