-- What the check does with a byte, by the test of `Utf8`: one law for a byte, one for the end, one for where no byte is read any more;
-- and what the parts of the check tell. Assumes nothing.
use Rattle.std.specs.Prelude.{◌≡◌, Bool, cond, Option, Some, None, Result, Ok, Err, List, ◌∷◌, ◌↔◌, ◌⊎◌, length, get_or, ltb, eqb}
use Rattle.std.proofs.Math.Path.{refl, ap}
use Rattle.std.proofs.Common.{inl, inr, ◌∙◌, sym, add-one, drop-cons, le-leb, lt-ltb, le-ltb}
use Rattle.std.proofs.Math.Bool.{true, false}
use Prim.Native.Nat.{ℕ, suc, ◌+◌, ◌-◌, ◌^◌, ◌≤◌, ◌<◌}
use native.Mathlib.Omega.{arith}
use Rattle.std.proofs.Math.ListN.{drop, drop_of_length-le}
use Rattle.std.proofs.lemmas.Bool.{lt-leb}
use Rattle.utf8.specs.Utf8.{In, Text, LookedAt, after_first, after_tail, after_byte, accepts, utf8}
use Rattle.utf8.specs.Utf8Laws.{accepts-none, accepts-on, first-1, Awaits, utf8-text}
use Rattle.utf8.specs.LookedLaws.{read_from, read_none, looked-read}
use Rattle.utf8.specs.Looked.{looked_at, checked, just-one, looked-at, looked-within}
use Rattle.utf8.specs.declared.TextCheck.{TextCheck}

-- what is to be replied of s, where the bytes before `at` are read and led to `state`
unfoldable pub checked_from : ℕ → ℕ → List ℕ → TextCheck
checked_from state at s = record { valid = accepts state (drop at s); looked = at + read_from state (drop at s) }

pub from_start : (s : List ℕ) → checked_from 0 0 s ≡ checked s
unfolding checked_from
from_start s = let e = just-one (looked-at s) (looked-read s) in let q : 0 + read_from 0 s ≡ looked_at s = omega arith in cc

check-eq : {v w : Bool} {m n : ℕ} → v ≡ w → m ≡ n → ◌≡◌ {A = TextCheck} (record { valid = v; looked = m }) (record { valid = w; looked = n })
check-eq e f = cc

module _ (state at : ℕ) (s : List ℕ) where
  byte-there : at < length s → drop at s ≡ get_or s at 0 ∷ drop (at + 1) s
  byte-there h = rw (add-one at) (drop-cons s at 0 h)

  -- a byte that is read leads to the next state,
  read-on : eqb state 8 ≡ false → at < length s → checked_from state at s ≡ checked_from (after_byte state (get_or s at 0)) (at + 1) s
  unfolding checked_from read_from
  read-on g h =
      let t = drop (at + 1) s in
      let x = after_byte state (get_or s at 0) in
      let read : read_from state (drop at s) ≡ suc (read_from x t) = ap (read_from state) (byte-there h) ∙ rw g in
      check-eq (ap (accepts state) (byte-there h) ∙ accepts-on state (get_or s at 0) t) (omega arith)

  -- and behind the last there is none
  pub at-end : length s ≤ at → checked_from state at s ≡ record { valid = eqb state 0; looked = at }
  unfolding checked_from accepts read_from
  at-end h =
      let none = drop_of_length-le s h in
      check-eq (ap (accepts state) none) (ap (λ x. at + read_from state x) none ∙ omega arith)

-- so that a text ends there
pub text-end : (at : ℕ) (s : List ℕ) → at ≡ length s → checked_from 0 at s ≡ record { valid = true; looked = length s }
text-end at s e = at-end 0 at s (omega arith) ∙ check-eq refl e

-- In state 8 no byte is read any more.
stopped : (at : ℕ) (s : List ℕ) → checked_from 8 at s ≡ record { valid = false; looked = at }
unfolding checked_from
stopped at s = let e = read_none (drop at s) in check-eq (accepts-none (drop at s)) (omega arith)

-- ---- parts of the check

-- A part of the check that began at `at` in `state` read the bytes up to n, and the test goes on there in `then`.
pub record GoesOn (s : List ℕ) (state at then n : ℕ) : Type 0 where
  pub further : at < n
  pub within : n ≤ length s
  pub on : checked_from state at s ≡ checked_from then n s

-- What a part tells that began at `at` in `state`: where the test goes on, in `then`; or how many bytes are looked at, where no text does.
abbrev pub Reads : List ℕ → ℕ → ℕ → ℕ → Result ℕ ℕ → Type 0
Reads s state at then (Ok n) = GoesOn s state at then n
Reads s state at then (Err n) = checked_from state at s ≡ record { valid = false; looked = n }

-- The same of every state that awaits a byte from lo to hi, and behind it what `then` says: it goes on in `last`.
pub record TailsRead (s : List ℕ) (at lo hi then last : ℕ) (r : Result ℕ ℕ) : Type 0 where
  pub in-state : {state : ℕ} → Awaits state lo hi then → Reads s state at last r

-- a part that goes on, and one behind it
joined : {s : List ℕ} {state at then n : ℕ} (last : ℕ) (r : Result ℕ ℕ) → GoesOn s state at then n → Reads s then n last r → Reads s state at last r
joined last (Ok m) a b = record { further = omega (arith, a.further, b.further); within = b.within; on = a.on ∙ b.on }
joined last (Err m) a b = a.on ∙ b

-- the tails behind one that stands there, and where none stands
module _ {s : List ℕ} {at lo hi then n : ℕ} where
  pub tails-on : {lo' hi' next last : ℕ} {r : Result ℕ ℕ} → TailsRead s at lo hi then then (Ok n) → Awaits then lo' hi' next → TailsRead s n lo' hi' next last r → TailsRead s at lo hi then last r
  tails-on {last} {r} a w b = record { in-state = λ {state} v. joined last r (a.in-state v) (b.in-state w) }

  pub tails-end : {last : ℕ} → TailsRead s at lo hi then then (Err n) → TailsRead s at lo hi then last (Err n)
  tails-end a = record { in-state = λ {state} v. a.in-state v }

-- the tails behind a first byte
pub behind-first : {s : List ℕ} {at k lo hi then last : ℕ} (b : ℕ) (r : Result ℕ ℕ) → after_first b ≡ k → Awaits k lo hi then → TailsRead s at lo hi then last r → Reads s (after_first b) at last r
behind-first b r e w t = t.in-state (rw e w)

-- a first byte that begins no character
pub no-first : (s : List ℕ) (at b : ℕ) → after_first b ≡ 8 → checked_from (after_first b) at s ≡ record { valid = false; looked = at }
no-first s at b e = ap (λ x. checked_from x at s) e ∙ stopped at s

-- ---- a byte that is awaited

module _ (s : List ℕ) (at lo hi then : ℕ) where
  -- where none stands,
  pub tail-end : length s ≤ at → TailsRead s at lo hi then then (Err at)
  tail-end h = record { in-state = λ {state} w. at-end state at s h ∙ rw w.inside }

  module _ (h : at < length s) where
    led : {state : ℕ} → Awaits state lo hi then → (k : ℕ) → after_tail (get_or s at 0) lo hi then ≡ k → checked_from state at s ≡ checked_from k (at + 1) s
    led {state} w k e = read-on state at s w.going h ∙ ap (λ x. checked_from x (at + 1) s) (w.after (get_or s at 0) ∙ e)

    refused : after_tail (get_or s at 0) lo hi then ≡ 8 → TailsRead s at lo hi then then (Err (at + 1))
    refused e = record { in-state = λ {state} w. led w 8 e ∙ stopped (at + 1) s }

    -- where one stands that does not lie from lo to hi,
    pub tail-outside : (lo ≤ get_or s at 0) × (hi < get_or s at 0) ⊎ (get_or s at 0 < lo) → TailsRead s at lo hi then then (Err (at + 1))
    unfolding after_tail
    tail-outside (inl (l, u)) = refused (rw (le-leb lo (get_or s at 0) l, lt-leb (get_or s at 0) hi u))
    tail-outside (inr l) = refused (rw (lt-leb lo (get_or s at 0) l))

    -- and where one stands that does
    pub tail-inside : lo ≤ get_or s at 0 → get_or s at 0 ≤ hi → TailsRead s at lo hi then then (Ok (at + 1))
    unfolding after_tail
    tail-inside l u =
        record {
          in-state = λ {state} w. record {
            further = omega arith;
            within = omega arith;
            on = led w then (rw (le-leb lo (get_or s at 0) l, le-leb (get_or s at 0) hi u));
          };
        }

-- From `at` on the bytes are ASCII up to one, b, that is not; behind it is n, and the check goes on there.
pub record AsciiUpTo (s : List ℕ) (at b n : ℕ) : Type 0 where
  pub beyond : In 0x80 0xff b
  pub further : at < n
  pub within : n ≤ length s
  pub on : checked_from 0 at s ≡ checked_from (after_first b) n s

-- What a stretch of ASCII from `at` on tells: where nothing else follows, the bytes are text.
abbrev pub Ascii : List ℕ → ℕ → Option (ℕ × ℕ) → Type 0
Ascii s at None = checked_from 0 at s ≡ record { valid = true; looked = length s }
Ascii s at (Some r) = AsciiUpTo s at r.0 r.1

pub seen : (s : List ℕ) (at : ℕ) {q r : Option (ℕ × ℕ)} → q ≡ r → Ascii s at q → Ascii s at r
seen s at e a = rw (sym e) a

-- a stretch, the character behind it, and the stretch behind that
pub stretched : {s : List ℕ} {at b m n : ℕ} (r : Option (ℕ × ℕ)) → AsciiUpTo s at b m → GoesOn s (after_first b) m 0 n → Ascii s n r → Ascii s at r
stretched None a c b = a.on ∙ c.on ∙ b
stretched (Some r) a c b = record { beyond = b.beyond; further = omega (arith, a.further, b.further, c.further); within = b.within; on = a.on ∙ c.on ∙ b.on }

-- how far the check is from its end behind a stretch; behind the next stretch it is nearer
abbrev pub left_behind : List ℕ → Option (ℕ × ℕ) → ℕ
left_behind s None = 0
left_behind s (Some r) = suc (length s - r.1)

pub nearer : {s : List ℕ} {state at n : ℕ} (r : Option (ℕ × ℕ)) → GoesOn s state at 0 n → Ascii s n r → left_behind s r < suc (length s - at)
nearer None a b = omega arith
nearer (Some r) a b = omega (arith, a.further, b.further, b.within)

module _ (s : List ℕ) (at : ℕ) (h : at < length s) where
  -- a byte in state 0
  pub first_read : checked_from 0 at s ≡ checked_from (after_first (get_or s at 0)) (at + 1) s
  unfolding after_byte
  first_read = read-on 0 at s refl h

  -- one of ASCII
  pub ascii-read : get_or s at 0 < 0x80 → checked_from 0 at s ≡ checked_from 0 (at + 1) s
  ascii-read l = first_read ∙ ap (λ x. checked_from x (at + 1) s) (first-1 (get_or s at 0) (record { low = omega arith; high = omega arith }))

-- ---- the whole check

-- The check as one number: the count, and 2^63 more where the bytes are no text.
abbrev pub unpacked : ℕ → TextCheck
unpacked n = cond (ltb n (2 ^ 63)) (record { valid = true; looked = n }) (record { valid = false; looked = n - 2 ^ 63 })

pub of-text : (n : ℕ) → n < 2 ^ 63 → unpacked n ≡ record { valid = true; looked = n }
of-text n h = rw (lt-ltb n (2 ^ 63) h)

pub of-no-text : (n : ℕ) → 2 ^ 63 ≤ n → unpacked n ≡ record { valid = false; looked = n - 2 ^ 63 }
of-no-text n h = rw (le-ltb n (2 ^ 63) h)

first-answer : (b : Bool) (m n : ℕ) → (cond {A = TextCheck} b (record { valid = true; looked = m }) (record { valid = false; looked = n })).valid ≡ b
first-answer true m n = refl
first-answer false m n = refl

-- a check that the test leads to has a number for each of its two cases, and no more than all bytes are looked at
module _ (s : List ℕ) where
  pub led-to : {r : TextCheck} → checked_from 0 0 s ≡ r → r ≡ checked s
  led-to e = sym e ∙ from_start s

  pub within_text : {r : TextCheck} → checked_from 0 0 s ≡ r → r.looked ≤ length s
  within_text {r} e = looked-within {s = s} (rw (ap (λ x. x.looked) (led-to e)) (looked-at s))

  pub packed-no-text : (r : TextCheck) → r.valid ≡ false → checked_from 0 0 s ≡ r → unpacked (2 ^ 63 + r.looked) ≡ checked s
  packed-no-text r v e = of-no-text (2 ^ 63 + r.looked) (omega arith) ∙ check-eq (sym v) (omega arith) ∙ led-to e

  -- what is replied then
  pub replied : (r : TextCheck) → r ≡ checked s → (r.valid ≡ utf8 s) × ((r.valid ≡ true ↔ Text s) × ((r.looked ≡ looked_at s) × LookedAt s r.looked))
  replied r q =
      let v : r.valid ≡ utf8 s = ap (λ x. x.valid) q in
      let n : r.looked ≡ looked_at s = ap (λ x. x.looked) q in
      (v, (rw v (utf8-text s), (n, rw n (looked-at s))))

  -- its first answer alone
  pub decided : (n : ℕ) → unpacked n ≡ checked s → (ltb n (2 ^ 63) ≡ utf8 s) × (ltb n (2 ^ 63) ≡ true ↔ Text s)
  decided n e =
      let v : ltb n (2 ^ 63) ≡ utf8 s = sym (first-answer (ltb n (2 ^ 63)) n (n - 2 ^ 63)) ∙ ap (λ x. x.valid) e in
      (v, rw v (utf8-text s))

  -- and taken
  pub is-checked : (r : TextCheck) → r.valid ≡ utf8 s → r.looked ≡ looked_at s → r ≡ checked s
  is-checked r e f = check-eq e f
