-- The test of `Utf8` accepts a list of bytes exactly if it is in the grammar of RFC 3629; and what it awaits behind each first byte of
-- a character. Assumes nothing.
use Rattle.std.specs.Prelude.{◌≡◌, refl, Bool, true, false, cond, List, [], ◌∷◌, ◌↔◌, ℕ, ◌<◌, leb, ltb, eqb}
use Rattle.std.proofs.Common.{◌∙◌, sym, ap, arith}
use borrow.Author.Tests.{lt-ltb, le-ltb, le-leb, eq-eqb, ne_eqb, ltb-true, ltb-false, leb-true, eqb-true, eqb-false}
use Rattle.utf8.specs.Utf8.{In, Tail, Text, none, utf8-1, utf8-2, utf8-3-e0, utf8-3-e1, utf8-3-ed, utf8-3-ee, utf8-4-f0, utf8-4-f1, utf8-4-f4}
use Rattle.utf8.specs.Utf8.{after_first, after_tail, after_byte, accepts, utf8}

-- what a test tells of the value that it picks
pub cond-elim : {A : Type 0} (P : A → Type 0) (b : Bool) (x y : A) → (b ≡ true → P x) → (b ≡ false → P y) → P (cond b x y)
cond-elim P true x y f g = f refl
cond-elim P false x y f g = g refl

-- ---- a text is accepted

-- nothing is accepted in state 8,
pub accepts-none : (s : List ℕ) → accepts 8 s ≡ false
unfolding accepts after_byte
accepts-none [] = refl
accepts-none (b ∷ s) = refl

-- so that a byte leads to the next state, whichever it is
pub accepts-on : (st b : ℕ) (t : List ℕ) → accepts st (b ∷ t) ≡ accepts (after_byte st b) t
unfolding accepts
accepts-on st b t =
    let x = after_byte st b in
    cond-elim (λ (_ : ℕ). cond (eqb x 8) false (accepts x t) ≡ accepts x t) (eqb x 8) 0 0
    (λ f. rw f (sym (ap (λ y. accepts y t) (eqb-true x 8 f) ∙ accepts-none t)))
    (λ f. rw f)

step : (st k b : ℕ) (t : List ℕ) → after_byte st b ≡ k → accepts st (b ∷ t) ≡ accepts k t
step st k b t e = accepts-on st b t ∙ ap (λ x. accepts x t) e

tail-in : (lo hi k b : ℕ) → In lo hi b → after_tail b lo hi k ≡ k
unfolding after_tail
tail-in lo hi k b h = rw (le-leb lo b h.low, le-leb b hi h.high)

module _ (a : ℕ) where
  pub first-1 : In 0x00 0x7f a → after_first a ≡ 0
  unfolding after_first
  first-1 h = rw (lt-ltb a 0x80 (omega arith))

  pub first-2 : In 0xc2 0xdf a → after_first a ≡ 1
  unfolding after_first
  first-2 h = rw (le-ltb a 0x80 (omega arith), le-ltb a 0xc2 (omega arith), lt-ltb a 0xe0 (omega arith))

  pub first-e0 : In 0xe0 0xe0 a → after_first a ≡ 4
  unfolding after_first
  first-e0 h = rw (le-ltb a 0x80 (omega arith), le-ltb a 0xc2 (omega arith), le-ltb a 0xe0 (omega arith), eq-eqb a 0xe0 (omega arith))

  pub first-ed : In 0xed 0xed a → after_first a ≡ 5
  unfolding after_first
  first-ed h = rw (le-ltb a 0x80 (omega arith), le-ltb a 0xc2 (omega arith), le-ltb a 0xe0 (omega arith), ne_eqb a 0xe0 (λ e. omega arith), eq-eqb a 0xed (omega arith))

  pub first-3 : In 0xe1 0xef a → (a ≡ 0xed → ⊥) → after_first a ≡ 2
  unfolding after_first
  first-3 h x = rw (le-ltb a 0x80 (omega arith), le-ltb a 0xc2 (omega arith), le-ltb a 0xe0 (omega arith), ne_eqb a 0xe0 (λ e. omega arith), ne_eqb a 0xed x, lt-ltb a 0xf0 (omega arith))

  pub first-f0 : In 0xf0 0xf0 a → after_first a ≡ 6
  unfolding after_first
  first-f0 h = rw (le-ltb a 0x80 (omega arith), le-ltb a 0xc2 (omega arith), le-ltb a 0xe0 (omega arith), ne_eqb a 0xe0 (λ e. omega arith), ne_eqb a 0xed (λ e. omega arith), le-ltb a 0xf0 (omega arith), eq-eqb a 0xf0 (omega arith))

  pub first-4 : In 0xf1 0xf3 a → after_first a ≡ 3
  unfolding after_first
  first-4 h = rw (le-ltb a 0x80 (omega arith), le-ltb a 0xc2 (omega arith), le-ltb a 0xe0 (omega arith), ne_eqb a 0xe0 (λ e. omega arith), ne_eqb a 0xed (λ e. omega arith), le-ltb a 0xf0 (omega arith), ne_eqb a 0xf0 (λ e. omega arith), lt-ltb a 0xf4 (omega arith))

  pub first-f4 : In 0xf4 0xf4 a → after_first a ≡ 7
  unfolding after_first
  first-f4 h = rw (le-ltb a 0x80 (omega arith), le-ltb a 0xc2 (omega arith), le-ltb a 0xe0 (omega arith), ne_eqb a 0xe0 (λ e. omega arith), ne_eqb a 0xed (λ e. omega arith), le-ltb a 0xf0 (omega arith), ne_eqb a 0xf0 (λ e. omega arith), le-ltb a 0xf4 (omega arith), eq-eqb a 0xf4 (omega arith))

-- In `state`, which is inside a character, a byte from lo to hi is awaited, and after it what `then` says.
pub record Awaits (state lo hi then : ℕ) : Type 0 where
  pub inside : eqb state 0 ≡ false
  pub going : eqb state 8 ≡ false
  pub after : (b : ℕ) → after_byte state b ≡ after_tail b lo hi then

pub awaits-1 : Awaits 1 0x80 0xbf 0
unfolding after_byte
awaits-1 = record { inside = refl; going = refl; after = λ b. refl }

pub awaits-2 : Awaits 2 0x80 0xbf 1
unfolding after_byte
awaits-2 = record { inside = refl; going = refl; after = λ b. refl }

pub awaits-3 : Awaits 3 0x80 0xbf 2
unfolding after_byte
awaits-3 = record { inside = refl; going = refl; after = λ b. refl }

pub awaits-e0 : Awaits 4 0xa0 0xbf 1
unfolding after_byte
awaits-e0 = record { inside = refl; going = refl; after = λ b. refl }

pub awaits-ed : Awaits 5 0x80 0x9f 1
unfolding after_byte
awaits-ed = record { inside = refl; going = refl; after = λ b. refl }

pub awaits-f0 : Awaits 6 0x90 0xbf 2
unfolding after_byte
awaits-f0 = record { inside = refl; going = refl; after = λ b. refl }

pub awaits-f4 : Awaits 7 0x80 0x8f 2
unfolding after_byte
awaits-f4 = record { inside = refl; going = refl; after = λ b. refl }

-- the steps after the first byte of a character, and the one of that byte
pub tail : {st lo hi k b : ℕ} (t : List ℕ) → Awaits st lo hi k → In lo hi b → accepts st (b ∷ t) ≡ accepts k t
tail {st} {lo} {hi} {k} {b} t w h = step st k b t (w.after b ∙ tail-in lo hi k b h)

first : (k a : ℕ) (t : List ℕ) → after_first a ≡ k → accepts 0 (a ∷ t) ≡ accepts k t
unfolding after_byte
first k a t e = step 0 k a t e

pub empty : accepts 0 [] ≡ true
unfolding accepts
empty = refl

pub accepted : {s : List ℕ} → Text s → accepts 0 s ≡ true
accepted none = empty
accepted (utf8-1 ha t) = first 0 _ _ (first-1 _ ha) ∙ accepted t
accepted (utf8-2 ha hb t) = first 1 _ _ (first-2 _ ha) ∙ tail _ awaits-1 hb ∙ accepted t
accepted (utf8-3-e0 ha hb hc t) = first 4 _ _ (first-e0 _ ha) ∙ tail _ awaits-e0 hb ∙ tail _ awaits-1 hc ∙ accepted t
accepted (utf8-3-e1 {a} ha hb hc t) =
    first 2 _ _ (first-3 a (record { low = omega arith; high = omega arith }) (λ e. omega arith)) ∙ tail _ awaits-2 hb ∙ tail _ awaits-1 hc ∙ accepted t
accepted (utf8-3-ed ha hb hc t) = first 5 _ _ (first-ed _ ha) ∙ tail _ awaits-ed hb ∙ tail _ awaits-1 hc ∙ accepted t
accepted (utf8-3-ee {a} ha hb hc t) =
    first 2 _ _ (first-3 a (record { low = omega arith; high = omega arith }) (λ e. omega arith)) ∙ tail _ awaits-2 hb ∙ tail _ awaits-1 hc ∙ accepted t
accepted (utf8-4-f0 ha hb hc hd t) = first 6 _ _ (first-f0 _ ha) ∙ tail _ awaits-f0 hb ∙ tail _ awaits-2 hc ∙ tail _ awaits-1 hd ∙ accepted t
accepted (utf8-4-f1 ha hb hc hd t) = first 3 _ _ (first-4 _ ha) ∙ tail _ awaits-3 hb ∙ tail _ awaits-2 hc ∙ tail _ awaits-1 hd ∙ accepted t
accepted (utf8-4-f4 ha hb hc hd t) = first 7 _ _ (first-f4 _ ha) ∙ tail _ awaits-f4 hb ∙ tail _ awaits-2 hc ∙ tail _ awaits-1 hd ∙ accepted t

-- ---- and nothing else is

data St : Type 0 where
  s0 s1 s2 s3 s4 s5 s6 s7 : St

num : St → ℕ
num s0 = 0
num s1 = 1
num s2 = 2
num s3 = 3
num s4 = 4
num s5 = 5
num s6 = 6
num s7 = 7

-- what may follow in a state
Rest : List ℕ → St → Type 0
Rest [] s0 = Text []
Rest [] s1 = ⊥
Rest [] s2 = ⊥
Rest [] s3 = ⊥
Rest [] s4 = ⊥
Rest [] s5 = ⊥
Rest [] s6 = ⊥
Rest [] s7 = ⊥
Rest (b ∷ t) s0 = Text (b ∷ t)
Rest (b ∷ t) s1 = Tail b × Rest t s0
Rest (b ∷ t) s2 = Tail b × Rest t s1
Rest (b ∷ t) s3 = Tail b × Rest t s2
Rest (b ∷ t) s4 = In 0xa0 0xbf b × Rest t s1
Rest (b ∷ t) s5 = In 0x80 0x9f b × Rest t s1
Rest (b ∷ t) s6 = In 0x90 0xbf b × Rest t s2
Rest (b ∷ t) s7 = In 0x80 0x8f b × Rest t s2

rest-text : (t : List ℕ) → Rest t s0 → Text t
unfolding Rest
rest-text [] r = r
rest-text (b ∷ t) r = r

pub apart : {X : Type 0} → false ≡ true → X
apart e = let z : ◌≡◌ {A = ℕ} 0 1 = cc in absurd (omega arith)

-- the test after a byte that leads to x
after : ℕ → List ℕ → Bool
after x t = cond (eqb x 8) false (accepts x t)

tail-back : (lo hi : ℕ) (k : St) (b : ℕ) (t : List ℕ) → eqb (num k) 8 ≡ false → (accepts (num k) t ≡ true → Rest t k) → after (after_tail b lo hi (num k)) t ≡ true → In lo hi b × Rest t k
unfolding after_tail after
tail-back lo hi k b t f go =
    let P : ℕ → Type 0 = λ x. after x t ≡ true → In lo hi b × Rest t k in
    cond-elim P (leb lo b) _ _
    (λ h. cond-elim P (leb b hi) _ _
    (λ h'. λ e. (record { low = leb-true lo b h; high = leb-true b hi h' }, go (rw f at e)))
    (λ _. λ e. apart e))
    (λ _. λ e. apart e)

from1 : (a : ℕ) (t : List ℕ) → In 0xc2 0xdf a → Rest t s1 → Text (a ∷ t)
unfolding Rest
from1 a [] h r = absurd r
from1 a (b ∷ t) h r = utf8-2 h r.0 (rest-text t r.1)

from4 : (a : ℕ) (t : List ℕ) → In 0xe0 0xe0 a → Rest t s4 → Text (a ∷ t)
unfolding Rest
from4 a [] h r = absurd r
from4 a (b ∷ []) h r = absurd r.1
from4 a (b ∷ c ∷ t) h r = utf8-3-e0 h r.0 r.1.0 (rest-text t r.1.1)

from5 : (a : ℕ) (t : List ℕ) → In 0xed 0xed a → Rest t s5 → Text (a ∷ t)
unfolding Rest
from5 a [] h r = absurd r
from5 a (b ∷ []) h r = absurd r.1
from5 a (b ∷ c ∷ t) h r = utf8-3-ed h r.0 r.1.0 (rest-text t r.1.1)

from2 : (a : ℕ) (t : List ℕ) → In 0xe1 0xef a → (a ≡ 0xed → ⊥) → Rest t s2 → Text (a ∷ t)
unfolding Rest
from2 a [] h x r = absurd r
from2 a (b ∷ []) h x r = absurd r.1
from2 a (b ∷ c ∷ t) h x r =
    cond-elim (λ (_ : ℕ). Text (a ∷ b ∷ c ∷ t)) (ltb a 0xed) 0 0
    (λ e. utf8-3-e1 (record { low = omega arith; high = omega (arith, ltb-true a 0xed e) }) r.0 r.1.0 (rest-text t r.1.1))
    (λ e. utf8-3-ee (record { low = omega (arith, ltb-false a 0xed e, x); high = omega arith }) r.0 r.1.0 (rest-text t r.1.1))

from6 : (a : ℕ) (t : List ℕ) → In 0xf0 0xf0 a → Rest t s6 → Text (a ∷ t)
unfolding Rest
from6 a [] h r = absurd r
from6 a (b ∷ []) h r = absurd r.1
from6 a (b ∷ c ∷ []) h r = absurd r.1.1
from6 a (b ∷ c ∷ d ∷ t) h r = utf8-4-f0 h r.0 r.1.0 r.1.1.0 (rest-text t r.1.1.1)

from3 : (a : ℕ) (t : List ℕ) → In 0xf1 0xf3 a → Rest t s3 → Text (a ∷ t)
unfolding Rest
from3 a [] h r = absurd r
from3 a (b ∷ []) h r = absurd r.1
from3 a (b ∷ c ∷ []) h r = absurd r.1.1
from3 a (b ∷ c ∷ d ∷ t) h r = utf8-4-f1 h r.0 r.1.0 r.1.1.0 (rest-text t r.1.1.1)

from7 : (a : ℕ) (t : List ℕ) → In 0xf4 0xf4 a → Rest t s7 → Text (a ∷ t)
unfolding Rest
from7 a [] h r = absurd r
from7 a (b ∷ []) h r = absurd r.1
from7 a (b ∷ c ∷ []) h r = absurd r.1.1
from7 a (b ∷ c ∷ d ∷ t) h r = utf8-4-f4 h r.0 r.1.0 r.1.1.0 (rest-text t r.1.1.1)

first_back : (a : ℕ) (t : List ℕ) → ((k : St) → accepts (num k) t ≡ true → Rest t k) → after (after_first a) t ≡ true → Text (a ∷ t)
unfolding after_first after num Rest
first_back a t go =
    let P : ℕ → Type 0 = λ x. after x t ≡ true → Text (a ∷ t) in
    cond-elim P (ltb a 0x80) _ _ (λ h e. utf8-1 (record { low = omega arith; high = omega (arith, ltb-true a 0x80 h) }) (rest-text t (go s0 e))) (λ h1.
    cond-elim P (ltb a 0xc2) _ _ (λ h e. apart e) (λ h2.
    cond-elim P (ltb a 0xe0) _ _ (λ h e. from1 a t (record { low = ltb-false a 0xc2 h2; high = omega (arith, ltb-true a 0xe0 h) }) (go s1 e)) (λ h3.
    cond-elim P (eqb a 0xe0) _ _ (λ h e. let q = eqb-true a 0xe0 h in from4 a t (record { low = omega arith; high = omega arith }) (go s4 e)) (λ h4.
    cond-elim P (eqb a 0xed) _ _ (λ h e. let q = eqb-true a 0xed h in from5 a t (record { low = omega arith; high = omega arith }) (go s5 e)) (λ h5.
    cond-elim P (ltb a 0xf0) _ _
    (λ h e. from2 a t (record { low = omega (arith, ltb-false a 0xe0 h3, eqb-false a 0xe0 h4); high = omega (arith, ltb-true a 0xf0 h) }) (eqb-false a 0xed h5) (go s2 e)) (λ h6.
    cond-elim P (eqb a 0xf0) _ _ (λ h e. let q = eqb-true a 0xf0 h in from6 a t (record { low = omega arith; high = omega arith }) (go s6 e)) (λ h7.
    cond-elim P (ltb a 0xf4) _ _
    (λ h e. from3 a t (record { low = omega (arith, ltb-false a 0xf0 h6, eqb-false a 0xf0 h7); high = omega (arith, ltb-true a 0xf4 h) }) (go s3 e)) (λ h8.
    cond-elim P (eqb a 0xf4) _ _ (λ h e. let q = eqb-true a 0xf4 h in from7 a t (record { low = omega arith; high = omega arith }) (go s7 e)) (λ h9 e. apart e)))))))))

back : (s : List ℕ) (k : St) → accepts (num k) s ≡ true → Rest s k
unfolding accepts after_byte num Rest after
back [] s0 e = none
back [] s1 e = apart e
back [] s2 e = apart e
back [] s3 e = apart e
back [] s4 e = apart e
back [] s5 e = apart e
back [] s6 e = apart e
back [] s7 e = apart e
back (b ∷ t) s0 e = first_back b t (back t) e
back (b ∷ t) s1 e = tail-back 0x80 0xbf s0 b t refl (back t s0) e
back (b ∷ t) s2 e = tail-back 0x80 0xbf s1 b t refl (back t s1) e
back (b ∷ t) s3 e = tail-back 0x80 0xbf s2 b t refl (back t s2) e
back (b ∷ t) s4 e = tail-back 0xa0 0xbf s1 b t refl (back t s1) e
back (b ∷ t) s5 e = tail-back 0x80 0x9f s1 b t refl (back t s1) e
back (b ∷ t) s6 e = tail-back 0x90 0xbf s2 b t refl (back t s2) e
back (b ∷ t) s7 e = tail-back 0x80 0x8f s2 b t refl (back t s2) e

pub accepted-text : (s : List ℕ) → accepts 0 s ≡ true → Text s
unfolding num
accepted-text s e = rest-text s (back s s0 e)

pub utf8-text : (s : List ℕ) → utf8 s ≡ true ↔ Text s
utf8-text s = (accepted-text s, accepted)

-- ---- bytes that begin no character

-- ---- what is awaited behind the first byte of a character

pub first-of-2 : (a : ℕ) → In 0xc2 0xdf a → Awaits (after_first a) 0x80 0xbf 0
first-of-2 a h = rw (first-2 a h) awaits-1

-- bounds that are narrower where a is x, which raises the lower one, and where a is y, which lowers the upper one
bounds : (P : ℕ → ℕ → Type 0) (a x y lo lo' hi hi' : ℕ) → x < y → (a ≡ x → P lo' hi) → (a ≡ y → P lo hi') → ((a ≡ x → ⊥) → (a ≡ y → ⊥) → P lo hi) → P (cond (eqb a x) lo' lo) (cond (eqb a y) hi' hi)
bounds P a x y lo lo' hi hi' d f g h =
    let Q : ℕ → Type 0 = λ _. P (cond (eqb a x) lo' lo) (cond (eqb a y) hi' hi) in
    cond-elim Q (eqb a x) 0 0
    (λ e. let q = eqb-true a x e in rw (e, ne_eqb a y (λ z. omega arith)) (f q))
    (λ n. cond-elim Q (eqb a y) 0 0 (λ e. rw (n, e) (g (eqb-true a y e))) (λ m. rw (n, m) (h (eqb-false a x n) (eqb-false a y m))))

pub first-of-3 : (a : ℕ) → In 0xe0 0xef a → Awaits (after_first a) (cond (eqb a 0xe0) 0xa0 0x80) (cond (eqb a 0xed) 0x9f 0xbf) 1
first-of-3 a h =
    bounds (λ lo hi. Awaits (after_first a) lo hi 1) a 0xe0 0xed 0x80 0xa0 0xbf 0x9f (omega arith)
    (λ e. rw (first-e0 a (omega arith)) awaits-e0)
    (λ e. rw (first-ed a (omega arith)) awaits-ed)
    (λ x y. rw (first-3 a (omega (arith, x)) y) awaits-2)

pub first-of-4 : (a : ℕ) → In 0xf0 0xf4 a → Awaits (after_first a) (cond (eqb a 0xf0) 0x90 0x80) (cond (eqb a 0xf4) 0x8f 0xbf) 2
first-of-4 a h =
    bounds (λ lo hi. Awaits (after_first a) lo hi 2) a 0xf0 0xf4 0x80 0x90 0xbf 0x8f (omega arith)
    (λ e. rw (first-f0 a (omega arith)) awaits-f0)
    (λ e. rw (first-f4 a (omega arith)) awaits-f4)
    (λ x y. rw (first-4 a (omega (arith, x, y))) awaits-3)

-- No character begins with a tail or with C0 or C1,
pub low-begins-none : (a : ℕ) → In 0x80 0xc1 a → after_first a ≡ 8
unfolding after_first
low-begins-none a h = rw (le-ltb a 0x80 (omega arith), lt-ltb a 0xc2 (omega arith))

-- nor with what lies above F4.
pub high-begins-none : (a : ℕ) → 0xf4 < a → after_first a ≡ 8
unfolding after_first
high-begins-none a h = rw (le-ltb a 0x80 (omega arith), le-ltb a 0xc2 (omega arith), le-ltb a 0xe0 (omega arith), ne_eqb a 0xe0 (λ e. omega arith), ne_eqb a 0xed (λ e. omega arith), le-ltb a 0xf0 (omega arith), ne_eqb a 0xf0 (λ e. omega arith), le-ltb a 0xf4 (omega arith), ne_eqb a 0xf4 (λ e. omega arith))
