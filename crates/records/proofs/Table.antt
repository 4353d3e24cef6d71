-- A table's rule, shown at all of its places by one test that computes. Assumes nothing.
use mathlib.Core.Path.{◌≡◌, refl, sym, ◌∙◌, ap₂}
use mathlib.Core.Bool.{Bool, true, false, ◌&&◌}
use mathlib.Core.List.{List, [], ◌∷◌}
use Prim.Native.Nat.{ℕ, zero, suc, ◌+◌, ◌<◌}
use native.Mathlib.Nat.{add-zero, zero-add, add-suc, suc-add, le_of_suc-le-suc, not-suc-le-zero}
use lib.Dec.{T, eqb, eqb→eq}

both : (a b : Bool) → T (a && b) → T a × T b
both true b t = (tt, t)
both false b t = absurd t

module _ (right : ℕ → Bool) where
  -- the test passes at the n places from i on
  abbrev pub all : ℕ → ℕ → Bool
  all i zero = true
  all i (suc n) = right i && all (suc i) n

  from : (i n : ℕ) → T (all i n) → (k : ℕ) → k < n → T (right (i + k))
  from i zero t k h = absurd (not-suc-le-zero h)
  from i (suc n) t zero h = rw (add-zero i) (both (right i) (all (suc i) n) t).0
  from i (suc n) t (suc k) h =
      rw (add-suc i k ∙ sym (suc-add i k)) (from (suc i) n (both (right i) (all (suc i) n) t).1 k (le_of_suc-le-suc h))

  pub each : (n : ℕ) → T (all 0 n) → (k : ℕ) → k < n → T (right k)
  each n t k h = rw zero-add at (from 0 n t k h)

-- the same bytes
abbrev pub same : List ℕ → List ℕ → Bool
same [] [] = true
same [] (y ∷ ys) = false
same (x ∷ xs) [] = false
same (x ∷ xs) (y ∷ ys) = eqb x y && same xs ys

pub same-is : (xs ys : List ℕ) → T (same xs ys) → xs ≡ ys
same-is [] [] t = refl
same-is [] (y ∷ ys) t = absurd t
same-is (x ∷ xs) [] t = absurd t
same-is (x ∷ xs) (y ∷ ys) t =
    let h = both (eqb x y) (same xs ys) t in
    ap₂ ◌∷◌ (eqb→eq x y h.0) (same-is xs ys h.1)
