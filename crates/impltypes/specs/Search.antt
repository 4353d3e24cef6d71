-- Search among the numbers below a bound. Assumes nothing.
use Rattle.std.specs.Prelude.{◌≡◌, refl, Bool, true, false, cond, ◌||◌, ℕ, zero, suc, ◌-◌, ◌<◌, ltb, eqb}
use Rattle.std.proofs.Common.{arith, ltb-true, ltb-false, eqb-true}
use Rattle.std.proofs.lemmas.Bool.{eqb-false}

-- p holds of a number below n
unfoldable pub some_below : (ℕ → Bool) → ℕ → Bool
some_below p zero = false
some_below p (suc n) = some_below p n || p n

-- the first number of which p holds; n where it holds of none below n
unfoldable pub first_below : (ℕ → Bool) → ℕ → ℕ
first_below p zero = zero
first_below p (suc n) = cond (p zero) zero (suc (first_below (λ k. p (suc k)) n))

-- ---- a test that was passed, and one that was not

pub apart : {A : Type 0} {b : Bool} → b ≡ true → b ≡ false → A
apart e h = let z : ◌≡◌ {A = ℕ} 0 1 = cc in absurd (omega arith)

-- a number below n of which p holds
pub record Some (p : ℕ → Bool) (n : ℕ) : Type 0 where
  pub i : ℕ
  pub below : i < n
  pub holds : p i ≡ true

pub some-below : (p : ℕ → Bool) (n : ℕ) → some_below p n ≡ true → Some p n
unfolding some_below
some-below p zero e = apart e refl
some-below p (suc n) e = by (some_below p n) (p n) refl refl e (some-below p n)
  where
    by : (a b : Bool) → some_below p n ≡ a → p n ≡ b → a || b ≡ true → (some_below p n ≡ true → Some p n) → Some p (suc n)
    by true b f g e ih = record { i = (ih f).i; below = omega (arith, (ih f).below); holds = (ih f).holds }
    by false true f g e ih = record { i = n; below = omega arith; holds = g }
    by false false f g e ih = apart e refl

pub none_below : (p : ℕ → Bool) (n i : ℕ) → some_below p n ≡ false → i < n → p i ≡ false
unfolding some_below
none_below p zero i e h = absurd (omega arith)
none_below p (suc n) i e h = by (some_below p n) (p n) refl refl e (none_below p n i)
  where
    by : (a b : Bool) → some_below p n ≡ a → p n ≡ b → a || b ≡ false → (some_below p n ≡ false → i < n → p i ≡ false) → p i ≡ false
    by true b f g e ih = apart refl e
    by false true f g e ih = apart refl e
    by false false f g e ih = at (eqb i n) refl
      where
        at : (b : Bool) → eqb i n ≡ b → p i ≡ false
        at true d = let q : i ≡ n = eqb-true i n d in rw q g
        at false d = let q : i ≡ n → ⊥ = eqb-false i n d in ih f (omega arith)

-- p holds of no number before the first
pub before-first : (p : ℕ → Bool) (n k : ℕ) → k < first_below p n → p k ≡ false
unfolding first_below
before-first p zero k h = absurd (omega arith)
before-first p (suc n) k h = by (p zero) refl k h (before-first (λ k. p (suc k)) n)
  where
    by : (b : Bool) → p zero ≡ b → (k : ℕ) → k < cond b zero (suc (first_below (λ k. p (suc k)) n)) → ((k : ℕ) → k < first_below (λ k. p (suc k)) n → p (suc k) ≡ false) → p k ≡ false
    by true e k h ih = absurd (omega arith)
    by false e zero h ih = e
    by false e (suc k) h ih = ih k (omega arith)

-- and it holds of the first, if that is below n
pub at_first : (p : ℕ → Bool) (n : ℕ) → first_below p n < n → p (first_below p n) ≡ true
unfolding first_below
at_first p zero h = absurd (omega arith)
at_first p (suc n) h = by (p zero) refl h (at_first (λ k. p (suc k)) n)
  where
    by : (b : Bool) → p zero ≡ b → cond b zero (suc (first_below (λ k. p (suc k)) n)) < suc n → (first_below (λ k. p (suc k)) n < n → p (suc (first_below (λ k. p (suc k)) n)) ≡ true) → p (cond b zero (suc (first_below (λ k. p (suc k)) n))) ≡ true
    by true e h ih = e
    by false e h ih = ih (omega arith)

-- ---- the pigeonhole law: among more than m numbers that are all below m, one comes twice

-- f has the same value at i and at j, both below n
pub record Twice (f : ℕ → ℕ) (n : ℕ) : Type 0 where
  pub i : ℕ
  pub j : ℕ
  pub before : i < j
  pub within : j < n
  pub same : f j ≡ f i

-- the numbers but v, with those above it moved down to close the gap
abbrev without : ℕ → ℕ → ℕ
without v y = cond (ltb v y) (y - 1) y

without-lt : (v y m : ℕ) → v < suc m → y < suc m → (y ≡ v → ⊥) → without v y < m
without-lt v y m hv hy d = by (ltb v y) refl
  where
    by : (b : Bool) → ltb v y ≡ b → cond b (y - 1) y < m
    by true e = omega (arith, ltb-true v y e)
    by false e = omega (arith, ltb-false v y e)

without-same : (v y z : ℕ) → (y ≡ v → ⊥) → (z ≡ v → ⊥) → without v y ≡ without v z → y ≡ z
without-same v y z dy dz = by (ltb v y) (ltb v z) refl refl
  where
    by : (a b : Bool) → ltb v y ≡ a → ltb v z ≡ b → cond a (y - 1) y ≡ cond b (z - 1) z → y ≡ z
    by true true e h q = omega (arith, ltb-true v y e, ltb-true v z h)
    by true false e h q = omega (arith, ltb-true v y e, ltb-false v z h)
    by false true e h q = omega (arith, ltb-false v y e, ltb-true v z h)
    by false false e h q = q

pub twice : (m n : ℕ) (f : ℕ → ℕ) → m < n → ((k : ℕ) → k < n → f k < m) → Twice f n
twice zero n f h b = absurd (omega (arith, b 0 h))
twice (suc m) zero f h b = absurd (omega arith)
twice (suc m) (suc n) f h b = by (some_below (λ i. eqb (f i) (f n)) n) refl (twice m n)
  where
    by : (d : Bool) → some_below (λ i. eqb (f i) (f n)) n ≡ d → ((g : ℕ → ℕ) → m < n → ((k : ℕ) → k < n → g k < m) → Twice g n) → Twice f (suc n)
    by true e ih =
        let t : Some (λ i. eqb (f i) (f n)) n = some-below (λ i. eqb (f i) (f n)) n e in
        let q : f t.i ≡ f n = eqb-true (f t.i) (f n) t.holds in
        record { i = t.i; j = n; before = t.below; within = omega arith; same = cc }
    by false e ih =
        let other : (k : ℕ) → k < n → f k ≡ f n → ⊥ = λ k l. eqb-false (f k) (f n) (none_below (λ i. eqb (f i) (f n)) n k e l) in
        let t : Twice (λ k. without (f n) (f k)) n = ih (λ k. without (f n) (f k)) (omega arith) (λ k l. without-lt (f n) (f k) m (b n (omega arith)) (b k (omega arith)) (other k l)) in
        record {
          i = t.i;
          j = t.j;
          before = t.before;
          within = omega (arith, t.within);
          same = without-same (f n) (f t.j) (f t.i) (other t.j t.within) (other t.i (omega (arith, t.before, t.within))) t.same;
        }
