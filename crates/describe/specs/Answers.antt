-- What is known of an answer: P of its value, or N of the number of its refusal. A law for each way that answers are put
-- together. Assumes nothing.
use Rattle.std.specs.Prelude.{◌≡◌, ltb, length}
use Rattle.std.proofs.Math.Path.{refl, ap}
use mathlib.Core.List.{List, [], ◌∷◌}
use Prim.Native.Nat.{ℕ, suc, ◌+◌, ◌≤◌}
use Rattle.std.proofs.Common.{arith, ltb-false}
use Rattle.util.specs.Read.{cond-elim}
use Rattle.records.specs.declared.answer.Place.{Place}
use Rattle.records.specs.Answer.{Answer, value, refused, map, bind}
use Rattle.records.specs.Record.{limit}
use Rattle.typelib.specs.Tables.{lent}
use Rattle.description.specs.Format.{IfAny, Each}
use Rattle.description.specs.Format.IfAny.{missing}
use Rattle.description.specs.Format.IfAny.{found as here}
use Rattle.describe.specs.Values.{found, all, numbered}

pub data Answers (N : ℕ → Type 0) {A : Type 0} (P : A → Type 0) : Answer A → Type 0 where
  gives : {a : A} → P a → Answers N P (value a)
  refuses : {n : ℕ} → N n → Answers N P (refused n)

-- P of the value, if there is one
abbrev pub IfValue : {A : Type 0} → (A → Type 0) → Answer A → Type 0
IfValue = Answers (λ _. Unit {0})

pub answers-value : {N : ℕ → Type 0} {A : Type 0} {P : A → Type 0} {x : Answer A} {a : A} → Answers N P x → x ≡ value a → P a
answers-value {N} {A} {P} {x} {a} (gives {a = b} p) e = let q : b ≡ a = cc in rw q at p
answers-value {N} {A} {P} {x} {a} (refuses h) e = absurd (let z : ◌≡◌ {A = ℕ} 0 1 = cc in omega arith)

pub answers-refused : {N : ℕ → Type 0} {A : Type 0} {P : A → Type 0} {x : Answer A} {n : ℕ} → Answers N P x → x ≡ refused n → N n
answers-refused {N} {A} {P} {x} {n} (gives p) e = absurd (let z : ◌≡◌ {A = ℕ} 0 1 = cc in omega arith)
answers-refused {N} {A} {P} {x} {n} (refuses {n = m} h) e = let q : m ≡ n = cc in rw q at h

-- by a law that says P of every value
pub told : {A : Type 0} {P : A → Type 0} (x : Answer A) → ((a : A) → value a ≡ x → P a) → IfValue P x
told (value a) h = gives (h a refl)
told (refused n) h = refuses tt

pub anything : {A : Type 0} (x : Answer A) → IfValue (λ _. Unit {0}) x
anything x = told x (λ _ _. tt)

-- ---- one answer

module _ {N : ℕ → Type 0} {A B : Type 0} {P : A → Type 0} {Q : B → Type 0} where
  pub answers-bind : {x : Answer A} {f : A → Answer B} → Answers N P x → ((a : A) → P a → Answers N Q (f a)) → Answers N Q (bind x f)
  answers-bind (gives {a = a} p) h = h a p
  answers-bind (refuses n) h = refuses n

  pub answers-map : {x : Answer A} (f : A → B) → Answers N P x → ((a : A) → P a → Q (f a)) → Answers N Q (map f x)
  answers-map f (gives {a = a} p) h = gives (h a p)
  answers-map f (refuses n) h = refuses n

pub answers-mono : {N M : ℕ → Type 0} {A : Type 0} {P Q : A → Type 0} {x : Answer A}
    → Answers N P x → ((n : ℕ) → N n → M n) → ((a : A) → P a → Q a) → Answers M Q x
answers-mono (gives {a = a} p) g h = gives (h a p)
answers-mono (refuses {n = n} k) g h = refuses (g n k)

-- behind the test for over-long bytes
pub answers-lent : {N : ℕ → Type 0} {A : Type 0} {P : A → Type 0} (s : List ℕ) (x : Answer A)
    → N 1 → (length s ≤ limit → Answers N P x) → Answers N P (lent s x)
unfolding lent
answers-lent {N} {A} {P} s x one h =
    cond-elim (Answers N P) (ltb limit (length s)) (refused 1) x (λ _. refuses one) (λ k. h (ltb-false limit (length s) k))

pub if-found : {N : ℕ → Type 0} {A : Type 0} {P : A → Type 0} {x : Answer A} → Answers N P x → IfAny P (found x)
if-found (gives p) = here p
if-found (refuses n) = missing

-- ---- lists of answers

module _ {N : ℕ → Type 0} {A : Type 0} {P : A → Type 0} where
  -- as many values as answers, each with P
  pub answers-all : (xs : List (Answer A)) → Each (Answers N P) xs → Answers N (λ ys. (length ys ≡ length xs) × Each P ys) (all xs)
  unfolding all
  answers-all [] h = gives (refl, tt)
  answers-all (x ∷ xs) h =
      answers-bind h.0 (λ a p. answers-map (λ rest. a ∷ rest) (answers-all xs h.1) (λ ys k. (ap suc k.0, (p, k.1))))

module _ {A : Type 0} (f : ℕ → Place → Answer A) where
  pub numbered-each : (P : Answer A → Type 0) → ((i : ℕ) (p : Place) → P (f i p)) → (i : ℕ) (ps : List Place) → Each P (numbered f i ps)
  unfolding numbered
  numbered-each P h i [] = tt
  numbered-each P h i (p ∷ ps) = (h i p, numbered-each P h (i + 1) ps)

  pub numbered-length : (i : ℕ) (ps : List Place) → length (numbered f i ps) ≡ length ps
  unfolding numbered
  numbered-length i [] = refl
  numbered-length i (p ∷ ps) = ap suc (numbered-length (i + 1) ps)
