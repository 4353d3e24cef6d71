-- Emitting a list of answers: the count, and each. Assumes nothing.
use Rattle.std.specs.Prelude.{◌≡◌, length}
use Rattle.std.proofs.Math.Path.{refl, ap}
use Rattle.std.proofs.Common.{sym, ◌∙◌, arith}
use mathlib.Core.List.{List, [], ◌∷◌, ◌++◌}
use Prim.Native.Nat.{ℕ, zero, suc, ◌+◌}
use Rattle.records.specs.declared.answer.Place.{Place}
use Rattle.records.specs.Answer.{Answer, value, refused, map}
use Rattle.cursors.specs.Numbers.{Step, yielded, ended}
use Rattle.cursors.specs.NumberLaws.{Lessens, Turn}
use Rattle.description.specs.Format.{Format, encode, list, joined, le_bytes}
use Rattle.description.specs.Description.{Bytes}
use Rattle.description.specs.Sheet.{u16}
use Rattle.describe.specs.Values.{and_then, all, numbered}
use Rattle.describe.specs.Members.{yields}
use Rattle.emit.specs.Emit.{◌▸◌}

-- ---- each answer, one behind the other, up to the first refusal

unfoldable pub lay_all : {A : Type 0} → Format A → List (Answer A) → Answer Bytes
lay_all F [] = value []
lay_all F (x ∷ xs) = map (encode F) x ▸ lay_all F xs

module _ {A : Type 0} (F : Format A) where
  pub all_laid : (xs : List (Answer A)) → map (joined F) (all xs) ≡ lay_all F xs
  unfolding lay_all all
  all_laid [] = refl
  all_laid (x ∷ xs) = by-answers x (all xs) ∙ ap (λ y. map (encode F) x ▸ y) (all_laid xs)
    where
      by-answers : (x : Answer A) (y : Answer (List A)) → map (joined F) (and_then x y) ≡ map (encode F) x ▸ map (joined F) y
      by-answers (value a) (value rest) = refl
      by-answers (value a) (refused n) = refl
      by-answers (refused n) y = refl

  -- how many there are is known before they are
  pub data Sized (n : ℕ) : Answer (List A) → Type 0 where
    sized : {ys : List A} → length ys ≡ n → Sized n (value ys)
    unsized : {m : ℕ} → Sized n (refused m)

  pub all-sized : (xs : List (Answer A)) → Sized (length xs) (all xs)
  unfolding all
  all-sized [] = sized refl
  all-sized (x ∷ xs) = by-answers x (all-sized xs)
    where
      by-answers : {m : ℕ} (x : Answer A) {y : Answer (List A)} → Sized m y → Sized (suc m) (and_then x y)
      by-answers (value a) (sized e) = sized (ap suc e)
      by-answers (value a) unsized = unsized
      by-answers (refused n) s = unsized

  -- the count, and each
  pub list-laid : (N : Format ℕ) (xs : List (Answer A)) → value (encode N (length xs)) ▸ lay_all F xs ≡ map (encode (list N F)) (all xs)
  list-laid N xs = ap (λ y. value (encode N (length xs)) ▸ y) (sym (all_laid xs)) ∙ by_size (all-sized xs)
    where
      by_size : {y : Answer (List A)} → Sized (length xs) y → value (encode N (length xs)) ▸ map (joined F) y ≡ map (encode (list N F)) y
      by_size (sized {ys = ys} e) = ap (λ m. value (encode N m ++ joined F ys)) (sym e)
      by_size unsized = refl

pub numbered-length : {A : Type 0} (f : ℕ → Place → Answer A) (i : ℕ) (ps : List Place) → length (numbered f i ps) ≡ length ps
unfolding numbered
numbered-length f i [] = refl
numbered-length f i (p ∷ ps) = ap suc (numbered-length f (i + 1) ps)

-- ---- the records that a cursor yields, one by one

module _ {C : Type 0} (step : C → Step Place C) (left : C → ℕ) where
  abbrev pub places : C → List Place
  places c = yields step (left c) c

  pub places-more : {c d : C} {p : Place} {k : ℕ} → Lessens left c d → yielded p k d ≡ step c → places c ≡ p ∷ places d
  unfolding yields
  places-more {c} {d} {p} l e = by (left c) (omega (arith, l.some, l.fewer))
    where
      by : (n : ℕ) → n ≡ suc (left d) → yields step n c ≡ p ∷ places d
      by n h = rw (h, ← e)

  pub places-none : {c d : C} {n : ℕ} → ended n d ≡ step c → places c ≡ []
  unfolding yields
  places-none {c} {d} {n} e = by (left c)
    where
      by : (k : ℕ) → yields step k c ≡ []
      by zero = refl
      by (suc k) = rw (← e)

  -- a turn of a loop that emits each of them, and its end
  module _ {A : Type 0} (F : Format A) (f : ℕ → Place → Answer A) (i : ℕ) where
    pub laid_more : {c d : C} {p : Place} {k : ℕ} → Lessens left c d → yielded p k d ≡ step c
        → lay_all F (numbered f i (places c)) ≡ map (encode F) (f i p) ▸ lay_all F (numbered f (i + 1) (places d))
    unfolding lay_all numbered
    laid_more {c} {d} {p} l e = rw (places-more l e)

    pub laid_none : {c d : C} {n : ℕ} → ended n d ≡ step c → lay_all F (numbered f i (places c)) ≡ value []
    unfolding lay_all numbered
    laid_none {c} {d} {n} e = rw (places-none e)

  -- the same by the cursor's own numbers
  module _ (count : C → ℕ) {c d : C} {p : Place} {k : ℕ} (t : Turn left count c d k) (e : yielded p k d ≡ step c) where
    pub laid-turn : {A : Type 0} (F : Format A) (f : ℕ → Place → Answer A)
        → lay_all F (numbered f (count c) (places c)) ≡ map (encode F) (f k p) ▸ lay_all F (numbered f (count d) (places d))
    laid-turn F f =
        laid_more F f (count c) t.lessens e
        ∙ ap (λ (n : ℕ). map (encode F) (f n p) ▸ lay_all F (numbered f (count c + 1) (places d))) (sym t.number)
        ∙ ap (λ (n : ℕ). map (encode F) (f k p) ▸ lay_all F (numbered f n (places d))) (sym t.more)

    pub counted-turn : (whole : ℕ) → count c + length (places c) ≡ whole → count d + length (places d) ≡ whole
    counted-turn whole h = omega (arith, h, t.more, ap length (places-more t.lessens e))

  pub counted_none : {c d : C} {m : ℕ} (n whole : ℕ) → ended m d ≡ step c → n + length (places c) ≡ whole → n ≡ whole
  counted_none {c} {d} {m} n whole e h = omega (arith, h, ap length (places-none e))

-- members by their numbers: how many they are, and each
pub members-laid : {A : Type 0} (F : Format A) (f : ℕ → Place → Answer A) (ps : List Place) {n : ℕ} → n ≡ length ps
    → value (encode u16 n) ▸ lay_all F (numbered f 0 ps) ≡ map (encode (list u16 F)) (all (numbered f 0 ps))
members-laid F f ps {n} e =
    ap (λ m. value (encode u16 m) ▸ lay_all F (numbered f 0 ps)) (e ∙ sym (numbered-length f 0 ps)) ∙ list-laid F u16 (numbered f 0 ps)

pub members-none : {A : Type 0} (F : Format A) (f : ℕ → Place → Answer A) → value (encode u16 0) ≡ map (encode (list u16 F)) (all (numbered f 0 []))
unfolding all numbered le_bytes
members-none F f = refl
