-- The test of `Utf8` goes on exactly over the beginnings of valid texts, so that how many bytes it reads is what `LookedAt` says.
-- Assumes nothing.
use Rattle.std.specs.Prelude.{◌≡◌, refl, Bool, true, false, cond, List, [], ◌∷◌, ◌++◌, ◌↔◌, ℕ, zero, suc, ◌≤◌, ◌<◌, length, take, drop, leb, ltb, eqb}
use Rattle.std.proofs.Common.{◌∙◌, sym, ap, append_assoc, arith, take-append-drop, eqb-true}
use Rattle.utf8.specs.Utf8.{Begins, LookedAt, whole, shortest, after_first, after_tail, after_byte, accepts}
use Rattle.utf8.specs.Utf8Laws.{cond-elim, apart, empty, accepts-on, tail, Awaits, accepted, accepted-text}
use Rattle.utf8.specs.Utf8Laws.{awaits-1, awaits-2, awaits-3, awaits-e0, awaits-ed, awaits-f0, awaits-f4}

-- ---- beginnings

-- whether a text may go on with these bytes, whatever comes behind them
unfoldable pub goes_on : ℕ → List ℕ → Bool
goes_on state [] = true
goes_on state (b ∷ bs) = cond (eqb (after_byte state b) 8) false (goes_on (after_byte state b) bs)

-- bytes that make a text of what came before `state` and these
record Continued (state : ℕ) (p : List ℕ) : Type 0 where
  pub rest : List ℕ
  pub text : accepts state (p ++ rest) ≡ true

-- every state but 8 can be continued
continued-0 : Continued 0 []
continued-0 = record { rest = []; text = empty }

awaited : {state lo hi then : ℕ} → Awaits state lo hi then → lo ≤ hi → Continued then [] → Continued state []
awaited {lo} {hi} w h c = record { rest = lo ∷ c.rest; text = tail c.rest w (record { low = omega arith; high = h }) ∙ c.text }

continued-1 : Continued 1 []
continued-1 = awaited awaits-1 (omega arith) continued-0

continued-2 : Continued 2 []
continued-2 = awaited awaits-2 (omega arith) continued-1

Open : ℕ → Type 0
Open state = eqb state 8 ≡ false → Continued state []

open-8 : Open 8
unfolding Open
open-8 e = apart (sym e)

open-tail : (b lo hi : ℕ) {then : ℕ} → Continued then [] → Open (after_tail b lo hi then)
unfolding Open after_tail
open-tail b lo hi c = cond-elim Open (leb lo b) _ _ (λ _. cond-elim Open (leb b hi) _ _ (λ _ _. c) (λ _. open-8)) (λ _. open-8)

open-first : (b : ℕ) → Open (after_first b)
unfolding Open after_first
open-first b =
    cond-elim Open (ltb b 0x80) _ _ (λ _ _. continued-0) (λ _.
    cond-elim Open (ltb b 0xc2) _ _ (λ _. open-8) (λ _.
    cond-elim Open (ltb b 0xe0) _ _ (λ _ _. continued-1) (λ _.
    cond-elim Open (eqb b 0xe0) _ _ (λ _ _. awaited awaits-e0 (omega arith) continued-1) (λ _.
    cond-elim Open (eqb b 0xed) _ _ (λ _ _. awaited awaits-ed (omega arith) continued-1) (λ _.
    cond-elim Open (ltb b 0xf0) _ _ (λ _ _. continued-2) (λ _.
    cond-elim Open (eqb b 0xf0) _ _ (λ _ _. awaited awaits-f0 (omega arith) continued-2) (λ _.
    cond-elim Open (ltb b 0xf4) _ _ (λ _ _. awaited awaits-3 (omega arith) continued-2) (λ _.
    cond-elim Open (eqb b 0xf4) _ _ (λ _ _. awaited awaits-f4 (omega arith) continued-2) (λ _. open-8)))))))))

open_after : (state b : ℕ) → Open (after_byte state b)
unfolding Open after_byte
open_after state b =
    cond-elim Open (eqb state 0) _ _ (λ _. open-first b) (λ _.
    cond-elim Open (eqb state 1) _ _ (λ _. open-tail b _ _ continued-0) (λ _.
    cond-elim Open (eqb state 2) _ _ (λ _. open-tail b _ _ continued-1) (λ _.
    cond-elim Open (eqb state 3) _ _ (λ _. open-tail b _ _ continued-2) (λ _.
    cond-elim Open (eqb state 4) _ _ (λ _. open-tail b _ _ continued-1) (λ _.
    cond-elim Open (eqb state 5) _ _ (λ _. open-tail b _ _ continued-1) (λ _.
    cond-elim Open (eqb state 6) _ _ (λ _. open-tail b _ _ continued-2) (λ _.
    cond-elim Open (eqb state 7) _ _ (λ _. open-tail b _ _ continued-2) (λ _. open-8))))))))

-- what a byte that does not stop the test leaves
going : (x y : Bool) → cond x false y ≡ true → (x ≡ false) × (y ≡ true)
going true y e = apart e
going false y e = (refl, e)

continued : (state : ℕ) (p : List ℕ) → Continued state [] → goes_on state p ≡ true → Continued state p
unfolding goes_on Open
continued state [] c e = c
continued state (b ∷ p) c e =
    let x = after_byte state b in
    let g = going (eqb x 8) (goes_on x p) e in
    let r = continued x p (open_after state b g.0) g.1 in
    record { rest = r.rest; text = accepts-on state b (p ++ r.rest) ∙ r.text }

accepted-on : (state : ℕ) (p rest : List ℕ) → accepts state (p ++ rest) ≡ true → goes_on state p ≡ true
unfolding goes_on accepts
accepted-on state [] rest e = refl
accepted-on state (b ∷ p) rest e =
    let x = after_byte state b in
    let g = going (eqb x 8) (accepts x (p ++ rest)) e in
    rw g.0 (accepted-on x p rest g.1)

-- The test goes on exactly over the beginnings of valid texts.
pub begins-on : (p : List ℕ) → Begins p ↔ goes_on 0 p ≡ true
begins-on p = (
  λ b. accepted-on 0 p b.rest (accepted b.text),
  λ e. let c = continued 0 p continued-0 e in record { rest = c.rest; text = accepted-text (p ++ c.rest) c.text },
)

-- the beginnings of a beginning
pub begins-take : (k : ℕ) (s : List ℕ) → Begins s → Begins (take k s)
begins-take k s b =
    record {
      rest = drop k s ++ b.rest;
      text = rw (← append_assoc (take k s) (drop k s) b.rest, take-append-drop k s) b.text;
    }

-- ---- the count

-- how many of the bytes that are left are read: none behind one that leads to 8
unfoldable pub read_from : ℕ → List ℕ → ℕ
read_from state [] = 0
read_from state (b ∷ bs) = cond (eqb state 8) 0 (suc (read_from (after_byte state b) bs))

-- what n is, if it is how many are read: all bytes, or those of the shortest beginning over which the test does not go on
data HowFar (state : ℕ) (s : List ℕ) (n : ℕ) : Type 0 where
  all : n ≡ length s → goes_on state s ≡ true → HowFar state s n
  until : n ≤ length s → goes_on state (take n s) ≡ false → ((k : ℕ) → k < n → goes_on state (take k s) ≡ true) → HowFar state s n

-- the same one byte before
read-before : (state b : ℕ) (s : List ℕ) (n : ℕ) → eqb (after_byte state b) 8 ≡ false → HowFar (after_byte state b) s n → HowFar state (b ∷ s) (suc n)
unfolding goes_on
read-before state b s n f (all e on) = all (ap suc e) (rw f on)
read-before state b s n f (until l never on) = until (omega arith) (rw f never) on-before
  where
    on-before : (k : ℕ) → k < suc n → goes_on state (take k (b ∷ s)) ≡ true
    on-before zero h = refl
    on-before (suc k) h = rw f (on k (omega arith))

read-last : (state b : ℕ) (s : List ℕ) → eqb (after_byte state b) 8 ≡ true → HowFar state (b ∷ s) 1
unfolding goes_on
read-last state b s f = until (omega arith) (rw f) first
  where
    first : (k : ℕ) → k < 1 → goes_on state (take k (b ∷ s)) ≡ true
    first zero h = refl
    first (suc k) h = absurd (omega arith)

-- nothing is read behind the last byte
pub read_none : (s : List ℕ) → read_from 8 s ≡ 0
unfolding read_from
read_none [] = refl
read_none (b ∷ s) = refl

read : (state : ℕ) (s : List ℕ) → eqb state 8 ≡ false → HowFar state s (read_from state s)
unfolding read_from goes_on
read state [] g = all refl refl
read state (b ∷ s) g =
    let x = after_byte state b in
    rw g (cond-elim (λ (_ : ℕ). HowFar state (b ∷ s) (suc (read_from x s))) (eqb x 8) 0 0
    (λ f. rw (eqb-true x 8 f, read_none s) (read-last state b s f))
    (λ f. read-before state b s _ f (read x s f)))

looked-by : {s : List ℕ} {n : ℕ} → HowFar 0 s n → LookedAt s n
looked-by {s} (all e on) = whole e (λ k. begins-take k s ((begins-on s).1 on))
looked-by {s} {n} (until l never on) = shortest l (λ b. apart (sym never ∙ (begins-on (take n s)).0 b)) (λ k h. (begins-on (take k s)).1 (on k h))

pub looked-read : (s : List ℕ) → LookedAt s (read_from 0 s)
looked-read s = looked-by (read 0 s refl)
