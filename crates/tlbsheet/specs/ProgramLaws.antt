-- Laws of what is replied, and of the line, for the loop that writes it. Assumes nothing.
use Rattle.std.specs.Prelude.{◌≡◌, refl, List, [], ◌∷◌, ◌++◌, length, get_or, take, drop, set}
use Rattle.std.proofs.Common.{sym, subst, drop_of_length-le, drop-cons}
use Prim.Native.Nat.{ℕ, suc, ◌+◌, ◌*◌, ◌/◌, ◌%◌, ◌≤◌, ◌<◌}
use Rattle.std.proofs.Math.Numerals.{add-one}
use native.Mathlib.Omega.{arith}
use Rattle.std.proofs.lemmas.List.{append_assoc}
use Rattle.records.specs.Answer.{Answer, refused}
use Rattle.description.specs.Sheet.{edition-one}
use Rattle.describe.specs.Call.{Call}
use Rattle.tlbsheet.specs.Program.{Replied, digit, line_of}
use Rattle.std.proofs.lemmas.List.Edits.{sets}

module _ {input o : List ℕ} {size : ℕ} where
  pub replied-more : 65536 < size → Replied input size o (refused 1) o
  replied-more h = record { more = λ _. (refl, refl); fewer = λ k. absurd (omega arith) }

  pub replied-fewer : {front o' : List ℕ} {r : Answer ℕ} → size ≤ 65536 → front ≡ take size input → Call edition-one front o r o' → Replied input size o r o'
  replied-fewer {o' = o'} {r = r} h e call = record {
    more = λ k. absurd (omega arith);
    fewer = λ _. subst (λ (f : List ℕ). Call edition-one f o r o') e call;
  }

pub length-line : (l : List ℕ) → length (line_of l) ≡ 2 * length l + 1
unfolding line_of
length-line [] = refl
length-line (b ∷ l) = let h = length-line l in omega (arith, h)

module _ (done s w : List ℕ) (i : ℕ) (e : done ++ line_of (drop i s) ≡ w) where
  -- the two digits of a byte, and the rest of the line behind them
  pub line-more : i < length s → (done ++ (digit (get_or s i 0 / 16) ∷ digit (get_or s i 0 % 16) ∷ [])) ++ line_of (drop (i + 1) s) ≡ w
  unfolding line_of
  line-more h = rw (append_assoc, add-one i) (rw (drop-cons s i 0 h) at e)

  -- no byte is left: the newline
  pub line-end : length s ≤ i → done ++ (10 ∷ []) ≡ w
  unfolding line_of
  line-end h = rw (drop_of_length-le s h) at e

-- ---- the same by cases

module _ (s o w : List ℕ) (i : ℕ) (e : sets o (2 * i) (line_of (drop i s)) ≡ w) where
  -- the two digits of a byte, and the rest of the line behind them
  pub line-less : i < length s → sets (set (set o (2 * i) (digit (get_or s i 0 / 16))) (2 * i + 1) (digit (get_or s i 0 % 16))) (2 * (i + 1)) (line_of (drop (i + 1) s)) ≡ w
  unfolding line_of
  line-less h =
      let on : 2 * (i + 1) ≡ suc (suc (2 * i)) = omega arith in
      rw (on, add-one (2 * i), add-one i) (rw (drop-cons s i 0 h) at e)

  -- no byte is left: the newline
  pub line-none : length s ≤ i → set o (2 * i) 10 ≡ w
  unfolding line_of
  line-none h = rw (drop_of_length-le s h) at e
