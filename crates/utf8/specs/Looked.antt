-- How many bytes of a text are looked at: the one number that is so by `LookedAt` of `Utf8`; and what it is of a valid text, of one
-- that only breaks off, and of any other. Assumes nothing.
use Rattle.std.specs.Prelude.{◌≡◌, refl, List, [], ◌∷◌, ◌++◌, ℕ, zero, suc, ◌+◌, ◌≤◌, ◌<◌, length, get_or, take, ltb}
use Rattle.std.proofs.Common.{◌∙◌, sym, append_assoc, append-nil, arith, length-append, take-suc, ltb-true, ltb-false}
use Rattle.std.proofs.Math.Seq.{take-length}
use Rattle.std.proofs.lemmas.List.{take-append-le}
use Rattle.utf8.specs.Utf8.{Text, none, Begins, LookedAt, whole, shortest, utf8}
use Rattle.utf8.specs.Utf8Laws.{cond-elim}
use Rattle.utf8.specs.LookedLaws.{read_from, looked-read, begins-take}
use Rattle.utf8.specs.declared.TextCheck.{TextCheck}

-- ---- the number

-- a number that is so
pub record Count (s : List ℕ) : Type 0 where
  pub count : ℕ
  pub is : LookedAt s count

-- not more than one is
pub just-one : {s : List ℕ} {m n : ℕ} → LookedAt s m → LookedAt s n → m ≡ n
just-one (whole d f) (whole e g) = d ∙ sym e
just-one {n} (whole d f) (shortest l never on) = absurd (never (f n))
just-one {m} (shortest l never on) (whole e g) = absurd (never (g m))
just-one {m} {n} (shortest l never on) (shortest l' never' on') =
    cond-elim (λ (_ : ℕ). m ≡ n) (ltb m n) 0 0
    (λ h. absurd (never (on' m (ltb-true m n h))))
    (λ h. cond-elim (λ (_ : ℕ). m ≡ n) (ltb n m) 0 0
    (λ h'. absurd (never' (on n (ltb-true n m h'))))
    (λ h'. omega (arith, ltb-false m n h, ltb-false n m h')))

-- one is
pub looks : (s : List ℕ) → Count s
looks s = record { count = read_from 0 s; is = looked-read s }

-- how many bytes of s are looked at
abbrev pub looked_at : List ℕ → ℕ
looked_at s = (looks s).count

pub looked-at : (s : List ℕ) → LookedAt s (looked_at s)
looked-at s = (looks s).is

-- what the check replies of s
abbrev pub checked : List ℕ → TextCheck
checked s = record { valid = utf8 s; looked = looked_at s }

pub looked-within : {s : List ℕ} {n : ℕ} → LookedAt s n → n ≤ length s
looked-within (whole e on) = omega arith
looked-within (shortest l never on) = l

-- ---- for its reader

-- A text that only breaks off is looked at whole,
pub begun-whole : (s : List ℕ) → Begins s → looked_at s ≡ length s
begun-whole s b = just-one (looked-at s) (whole refl (λ k. begins-take k s b))

-- and so is a valid text.
pub text-whole : (s : List ℕ) → Text s → looked_at s ≡ length s
text-whole s t = begun-whole s (record { rest = []; text = rw (append-nil s) t })

-- Of any other, the last byte looked at is one that no valid text has there, and the bytes before it begin a valid text.
pub record Stops (s : List ℕ) : Type 0 where
  pub at : ℕ
  pub within : at < length s
  pub looked : looked_at s ≡ at + 1
  pub before : Begins (take at s)
  pub never : (t : List ℕ) → Text (take at s ++ (get_or s at 0 ∷ t)) → ⊥

begins-none : Begins []
begins-none = record { rest = []; text = none }

all-begin : (s : List ℕ) → ((k : ℕ) → Begins (take k s)) → Begins s
all-begin s on = rw (← take-length s) (on (length s))

pub stops : (s : List ℕ) → (Begins s → ⊥) → Stops s
stops s x = at_last (looked-at s)
  where
    stop : (n : ℕ) → looked_at s ≡ n → n ≤ length s → (Begins (take n s) → ⊥) → ((k : ℕ) → k < n → Begins (take k s)) → Stops s
    stop zero e l never on = absurd (never begins-none)
    stop (suc k) e l never on =
        record {
          at = k;
          within = omega arith;
          looked = omega arith;
          before = on k (omega arith);
          never = λ t x. never (record {
            rest = t;
            text = rw (take-suc s k 0 (omega arith), append_assoc (take k s) (get_or s k 0 ∷ []) t) x;
          });
        }

    at_last : LookedAt s (looked_at s) → Stops s
    at_last (whole e on) = absurd (x (all-begin s on))
    at_last (shortest l never on) = stop (looked_at s) refl l never on

-- ---- bytes behind a text

-- What stands behind a text with such a byte is not looked at.
pub stops-there : (s t : List ℕ) → (Begins s → ⊥) → looked_at (s ++ t) ≡ looked_at s
stops-there s t x = just-one (looked-at (s ++ t)) (same (looked-at s))
  where
    same : {n : ℕ} → LookedAt s n → LookedAt (s ++ t) n
    same (whole e on) = absurd (x (all-begin s on))
    same {n} (shortest l never on) =
        shortest
        (omega (arith, length-append s t))
        (λ b. never (rw (← take-append-le n s t l) b))
        (λ k h. rw (take-append-le k s t (omega arith)) (on k h))

-- A byte behind one that breaks off is looked at, whatever it is.
pub begun-further : (s : List ℕ) (b : ℕ) → Begins s → looked_at (s ++ (b ∷ [])) ≡ length s + 1
begun-further s b g = further (looked-at (s ++ (b ∷ [])))
  where
    further : {n : ℕ} → LookedAt (s ++ (b ∷ [])) n → n ≡ length s + 1
    further (whole e on) = e ∙ length-append s (b ∷ [])
    further {n} (shortest l never on) =
        cond-elim (λ (_ : ℕ). n ≡ length s + 1) (ltb n (length s + 1)) 0 0
        (λ h. absurd (never (rw (take-append-le n s (b ∷ []) (omega (arith, ltb-true n (length s + 1) h))) (begins-take n s g))))
        (λ h. omega (arith, ltb-false n (length s + 1) h, length-append s (b ∷ [])))
