-- The laws of emitters. Assumes nothing.
use Rattle.std.specs.Prelude.{◌≡◌, refl, List, [], ◌∷◌, ◌++◌, ℕ, zero, suc, ◌+◌, ◌*◌, ◌^◌, ◌-◌, ◌/◌, ◌%◌, ◌≤◌, ◌<◌, min, max, leb, length, set, drop, take, false, get_or}
use Rattle.std.proofs.Common.{sym, ap, ap₂, ◌∙◌, append-nil, append_assoc, zero-add, add-zero, add-suc, suc-add, mul_assoc, arith, le-leb, leb-true, leb-false, length-set, length-append, length-drop, take_all, take-take, take_at, drop_at, take-add, length-take-le, take-append-drop, drop_of_length-le, add-one, drop-cons, drop-drop}
use Rattle.std.proofs.Math.Nat.{pow-succ'}
use Rattle.std.proofs.lemmas.Bool.{lt-leb}
use Rattle.std.proofs.lemmas.List.Edits.{sets, sets-eq}
use Rattle.std.proofs.Math.Seq.{length-sets, take-set-lt}
use Rattle.std.proofs.lemmas.List.{set-append_left, take-set-le}
use Rattle.util.specs.Read.{read, or_zero, cond-elim, read_none}
use Rattle.records.specs.Answer.{Answer, value, refused}
use Rattle.records.specs.declared.answer.Place.{Place}
use Rattle.records.specs.Record.{limit, part_of}
use Rattle.description.specs.Description.{Bytes}
use Rattle.description.specs.Format.{le_bytes, length-le_bytes}
use Rattle.emit.specs.Emit.{◌▸◌, Put, At, Refused, past, put, advance, moved, Laid, spared, Emitted, overwritten, Overwritten, short, Short, Tried, counted_part}

-- ---- runs of stores

pub sets-append : (xs ys l : List ℕ) (i : ℕ) → sets l i (xs ++ ys) ≡ sets (sets l i xs) (i + length xs) ys
sets-append [] ys l i = ap (λ (k : ℕ). sets l k ys) (sym (add-zero i))
sets-append (x ∷ xs) ys l i =
    sets-append xs ys (set l i x) (suc i)
    ∙ ap (λ (k : ℕ). sets (sets (set l i x) (suc i) xs) k ys) (suc-add i (length xs) ∙ sym (add-suc i (length xs)))

-- a run inside the first n
pub take-sets : (bs l : List ℕ) (n i : ℕ) → i + length bs ≤ n → take n (sets l i bs) ≡ sets (take n l) i bs
take-sets [] l n i h = refl
take-sets (b ∷ bs) l n i h = take-sets bs (set l i b) n (suc i) (omega arith) ∙ ap (λ (k : List ℕ). sets k (suc i) bs) (take-set-lt n l i b (omega arith))

-- a run behind the first n
pub sets_behind : (bs l : List ℕ) (n i : ℕ) → n ≤ i → take n (sets l i bs) ≡ take n l
sets_behind [] l n i h = refl
sets_behind (b ∷ bs) l n i h = sets_behind bs (set l i b) n (suc i) (omega arith) ∙ take-set-le n l i b h

-- what is the same of two lists is so of fewer
pub take_less : (n m : ℕ) (l k : List ℕ) → n ≤ m → take m l ≡ take m k → take n l ≡ take n k
take_less n m l k h e = sym (take-take n m l h) ∙ ap (take n) e ∙ take-take n m k h

-- a run, and what stands before it
pub sets-front : (bs l : List ℕ) (i : ℕ) → i + length bs ≤ length l → take (i + length bs) (sets l i bs) ≡ take i l ++ bs
sets-front bs l i h =
    let n : length (take i l ++ bs) ≡ i + length bs = length-append (take i l) bs ∙ ap (λ k. k + length bs) (length-take-le i l (omega arith)) in
    ap (take (i + length bs)) (sets-eq bs l i h)
    ∙ take_at (take i l ++ bs) (drop (i + length bs) l) (i + length bs) n

-- a run inside the first of two lists
pub sets-append-front : (bs f l : List ℕ) (i : ℕ) → i + length bs ≤ length f → sets (f ++ l) i bs ≡ sets f i bs ++ l
sets-append-front [] f l i h = refl
sets-append-front (b ∷ bs) f l i h =
    ap (λ (k : List ℕ). sets k (suc i) bs) (set-append_left f l i b (omega arith)) ∙ sets-append-front bs (set f i b) l (suc i) (simp length-set (omega arith))

-- a run over bytes that stand behind the first i
pub sets-under : (f a b c : List ℕ) (i : ℕ) → length f ≡ i → length a ≡ length b → sets (f ++ (a ++ c)) i b ≡ f ++ (b ++ c)
sets-under f a b c i h e =
    let n : length (f ++ (a ++ c)) ≡ i + (length b + length c) = length-append f (a ++ c) ∙ ap (λ k. k + length (a ++ c)) h ∙ ap (λ k. i + k) (length-append a c ∙ ap (λ k. k + length c) e) in
    let q : length (f ++ a) ≡ i + length b = length-append f a ∙ ap (λ k. k + length a) h ∙ ap (λ k. i + k) e in
    sets-eq b (f ++ (a ++ c)) i (omega (arith, n))
    ∙ ap₂ (λ (x y : List ℕ). (x ++ b) ++ y) (take_at f (a ++ c) i h)
    (ap (drop (i + length b)) (sym (append_assoc f a c)) ∙ drop_at (f ++ a) c (i + length b) q)
    ∙ append_assoc f b c

-- ---- places

pub advance-none : (p : ℕ) → advance p 0 ≡ p
unfolding advance
advance-none p = omega arith

pub advance-add : (p m n : ℕ) → advance (advance p m) n ≡ advance p (m + n)
unfolding advance
advance-add p m n = omega arith

-- within the limit nothing is stopped
pub advance-within : (p n : ℕ) → p + n ≤ limit → advance p n ≡ p + n
unfolding advance
advance-within p n h = omega arith

-- nor one past it; from there on it stops
pub advance-to : (p n : ℕ) → p + n ≤ past → p + n ≡ advance p n
unfolding advance
advance-to p n h = omega arith

pub advance-past : (p n : ℕ) → past < p + n → max p past ≡ advance p n
unfolding advance
advance-past p n h = omega arith

-- ---- emissions

-- nothing is emitted
pub skip : (t : Put) (o : List ℕ) → Emitted (value []) t o t o
skip (At p) o = record { moves = ap At (sym (advance-none p)); lays = λ h k. rw (add-zero p) (sym (append-nil (take p o))); spares = refl; keeps = refl }
skip (Refused m) o = record { moves = refl; lays = tt; spares = refl; keeps = refl }

pub moved-join : (x y : Answer Bytes) (t : Put) → moved (moved t x) y ≡ moved t (x ▸ y)
moved-join (value a) (value b) (At p) = ap At (advance-add p (length a) (length b) ∙ ap (advance p) (sym (length-append a b)))
moved-join (value a) (refused n) (At p) = refl
moved-join (refused n) y (At p) = refl
moved-join (value a) (value b) (Refused m) = refl
moved-join (value a) (refused n) (Refused m) = refl
moved-join (refused n) y (Refused m) = refl

-- what is spared where an emission ends is spared where it began
spared-before : (x : Answer Bytes) (t : Put) (o o' : List ℕ) → spared (moved t x) o' ≡ spared (moved t x) o → spared t o' ≡ spared t o
unfolding advance
spared-before (value bs) (At p) o o' e = take_less p (max p (min (p + length bs) past)) o' o (omega arith) e
spared-before (refused n) (At p) o o' e = ap (take p) e
spared-before x (Refused m) o o' e = e

-- one emission, and another where it ended
pub join : {x y : Answer Bytes} {t s r : Put} {o o₁ o₂ : List ℕ} → Emitted x t o s o₁ → Emitted y s o₁ r o₂ → Emitted (x ▸ y) t o r o₂
join {x} {y} {t} {s} {r} {o} {o₁} {o₂} a b =
    record {
      moves = b.moves ∙ ap (λ (u : Put). moved u y) a.moves ∙ moved-join x y t;
      lays = lays x y t a.keeps a.lays (rw a.moves at b.lays);
      spares = spared-before x t o₁ o₂ (rw a.moves at b.spares) ∙ a.spares;
      keeps = b.keeps ∙ a.keeps;
    }
  where
    lays : (x y : Answer Bytes) (t : Put) → length o₁ ≡ length o → Laid t x o o₁ → Laid (moved t x) y o₁ o₂ → Laid t (x ▸ y) o o₂
    lays (value a) (value b) (At p) l f g = λ h k.
        let n : length (a ++ b) ≡ length a + length b = length-append a b in
        let q : advance p (length a) ≡ p + length a = advance-within p (length a) (omega (arith, n)) in
        let e : p + length (a ++ b) ≡ p + length a + length b = omega (arith, n) in
        ap (λ (m : ℕ). take m o₂) e
        ∙ (rw q at g) (omega (arith, n)) (omega (arith, n))
        ∙ ap (λ (z : List ℕ). z ++ b) (f (omega (arith, n)) (omega (arith, n)))
        ∙ append_assoc (take p o) a b
    lays (value a) (refused n) (At p) l f g = tt
    lays (refused n) y (At p) l f g = tt
    lays (value a) (value b) (Refused m) l f g = tt
    lays (value a) (refused n) (Refused m) l f g = tt
    lays (refused n) y (Refused m) l f g = tt

-- what is emitted, by another name
pub known : {x y : Answer Bytes} {t r : Put} {o o' : List ℕ} → x ≡ y → Emitted x t o r o' → Emitted y t o r o'
known e h = rw e at h

-- a refusal whose number is known by another name
pub numbered : {n k : ℕ} {t r : Put} {o o' : List ℕ} → n ≡ k → Emitted (refused n) t o r o' → Emitted (refused k) t o r o'
numbered e = known (ap refused e)

-- bytes that fill the output are all that it holds
pub filled : {bs o o' : List ℕ} {r : Put} → Emitted (value bs) (At 0) o r o' → length bs ≤ limit → length o ≡ length bs → o' ≡ bs
filled {bs} {o} {o'} w k e =
    let n : length o' ≡ 0 + length bs = w.keeps ∙ e ∙ sym (zero-add (length bs)) in
    sym (take_all (0 + length bs) o' (omega (arith, n))) ∙ w.lays (omega (arith, k)) (omega (arith, e))

-- ---- emitters that look at the place

pub put-at : (n : ℕ) → n ≤ past → put n ≡ At n
unfolding put
put-at n h = rw (le-leb n past h)

pub put_refused : (n : ℕ) → past < n → put n ≡ Refused ((n - suc past) % 256)
unfolding put
put_refused n h = rw (lt-leb n past h)

-- what holds of a place and of a refusal holds of the number
put-elim : (P : Put → Type 0) (n : ℕ) → (n ≤ past → P (At n)) → (past < n → P (Refused ((n - suc past) % 256))) → P (put n)
unfolding put
put-elim P n f g = cond-elim P (leb n past) (At n) (Refused ((n - suc past) % 256)) (λ h. f (leb-true n past h)) (λ h. g (leb-false n past h))

-- a place is no refusal
at_place : (n : ℕ) {p : ℕ} → put n ≡ At p → n ≤ past
at_place n {p} = put-elim (λ t. t ≡ At p → n ≤ past) n (λ h e. h) (λ h e. absurd (let z : ◌≡◌ {A = ℕ} 0 1 = cc in omega arith))

pub put-moved : (p : ℕ) (bs : Bytes) → put (advance p (length bs)) ≡ moved (put p) (value bs)
unfolding advance
put-moved p bs =
    put-elim (λ t. put (max p (min (p + length bs) past)) ≡ moved t (value bs)) p
    (λ h. put-at (max p (min (p + length bs) past)) (omega arith))
    (λ h. let e : max p (min (p + length bs) past) ≡ p = omega arith in rw e (put_refused p h))

-- bytes that go to a place, or behind it, leave what stands before it
spared-stored : (o o' bs : List ℕ) (p : ℕ) → p ≤ past → o' ≡ sets o p bs → spared (put p) o' ≡ spared (put p) o
spared-stored o o' bs p f h = rw (put-at p f) (ap (take p) h ∙ sets_behind bs o p p (omega arith))

-- the bytes are stored at p
pub stored : {o o' bs : List ℕ} (p : ℕ) {n : ℕ} → p + n ≤ past → length bs ≡ n → o' ≡ sets o p bs → Emitted (value bs) (put p) o (put (p + n)) o'
stored {o} {o'} {bs} p {n} f g h =
    record {
      moves = ap put (advance-to p n f ∙ ap (advance p) (sym g)) ∙ put-moved p bs;
      lays = put-elim (λ t. Laid t (value bs) o o') p (λ _ k l. ap (take (p + length bs)) h ∙ sets-front bs o p l) (λ _. tt);
      spares = spared-stored o o' bs p (omega arith) h;
      keeps = ap length h ∙ length-sets o p bs;
    }

-- there is no room for them
pub unstored : {o bs : List ℕ} (p : ℕ) {n : ℕ} → p + n ≤ past → length bs ≡ n → length o < p + n → Emitted (value bs) (put p) o (put (p + n)) o
unstored {o} {bs} p {n} f g h =
    record {
      moves = ap put (advance-to p n f ∙ ap (advance p) (sym g)) ∙ put-moved p bs;
      lays = put-elim (λ t. Laid t (value bs) o o) p (λ _ k l. absurd (omega (arith, g))) (λ _. tt);
      spares = refl;
      keeps = refl;
    }

-- they would end past the limit
pub stopped-past : {o bs : List ℕ} (p : ℕ) {n q : ℕ} → q ≡ max p past → length bs ≡ n → past < p + n → Emitted (value bs) (put p) o (put q) o
stopped-past {o} {bs} p {n} {q} f g h =
    record {
      moves = ap put (f ∙ advance-past p n h ∙ ap (advance p) (sym g)) ∙ put-moved p bs;
      lays = put-elim (λ t. Laid t (value bs) o o) p (λ _ k l. absurd (omega (arith, g))) (λ _. tt);
      spares = refl;
      keeps = refl;
    }

-- more bytes than those that are emitted are stored at p
pub stored_more : {o o' bs : List ℕ} (more : List ℕ) (p : ℕ) {n : ℕ} → p + n ≤ past → length bs ≡ n → p + length (bs ++ more) ≤ length o
    → o' ≡ sets o p (bs ++ more) → Emitted (value bs) (put p) o (put (p + n)) o'
stored_more {o} {o'} {bs} more p {n} f g k h =
    record {
      moves = ap put (advance-to p n f ∙ ap (advance p) (sym g)) ∙ put-moved p bs;
      lays = put-elim (λ t. Laid t (value bs) o o') p (λ _ _ _. front) (λ _. tt);
      spares = spared-stored o o' (bs ++ more) p (omega arith) h;
      keeps = ap length h ∙ length-sets o p (bs ++ more);
    }
  where
    front : take (p + length bs) o' ≡ take p o ++ bs
    front =
        let m : length (bs ++ more) ≡ length bs + length more = length-append bs more in
        let e : length (sets o p bs) ≡ length o = length-sets o p bs in
        let a : o' ≡ sets (sets o p bs) (p + length bs) more = h ∙ sets-append bs more o p in
        ap (take (p + length bs)) (a ∙ sets-eq more (sets o p bs) (p + length bs) (omega (arith, m, e)))
        ∙ ap (take (p + length bs)) (append_assoc (take (p + length bs) (sets o p bs)) more (drop (p + length bs + length more) (sets o p bs)))
        ∙ take_at (take (p + length bs) (sets o p bs)) (more ++ drop (p + length bs + length more) (sets o p bs)) (p + length bs) (length-take-le (p + length bs) (sets o p bs) (omega (arith, m, e)))
        ∙ sets-front bs o p (omega (arith, m))

-- k bytes are stored for a part of the library that has no more
pub part-stored : (s : List ℕ) (q : Place) (k p : ℕ) {o o' : List ℕ} → q.len ≤ k → p + q.len ≤ past → q.at + k ≤ length s → p + k ≤ length o
    → o' ≡ sets o p (take (q.at + k - q.at) (drop q.at s)) → Emitted (value (part_of s (value q))) (put p) o (put (p + q.len)) o'
unfolding part_of
part-stored s q k p {o} {o'} f g h l e =
    let d : List ℕ = drop q.at s in
    let m : length d ≡ length s - q.at = length-drop q.at s in
    let n : length (take q.len d) ≡ q.len = length-take-le q.len d (omega (arith, m)) in
    let rest : List ℕ = take (k - q.len) (drop q.len d) in
    let x : q.len + (k - q.len) ≡ k = omega arith in
    let y : q.at + k - q.at ≡ k = omega arith in
    let z : take k d ≡ take q.len d ++ rest = ap (λ (i : ℕ). take i d) (sym x) ∙ take-add q.len (k - q.len) d in
    let w : length (take q.len d ++ rest) ≡ k = ap length (sym z) ∙ length-take-le k d (omega (arith, m)) in
    rw (le-leb (q.at + q.len) (length s) (omega arith))
    (stored_more rest p g n (omega (arith, w)) (e ∙ ap (λ (i : ℕ). sets o p (take i d)) y ∙ ap (sets o p) z))

-- a part that is wholly inside has its length
pub part_length : (s : List ℕ) (q : Place) → q.at + q.len ≤ length s → length (part_of s (value q)) ≡ q.len
unfolding part_of
part_length s q h = rw (le-leb (q.at + q.len) (length s) h) (length-take-le q.len (drop q.at s) (simp length-drop (omega arith)))

-- the same behind its length, by the short way
pub counted-stored : (s : List ℕ) (q : Place) (p : ℕ) {r : ℕ} {o o₁ o₂ : List ℕ} → Short s q p o → o₁ ≡ sets o p (le_bytes 2 (1 + 256 * q.len))
    → o₂ ≡ sets o₁ (p + 2) (take (q.at + short - q.at) (drop q.at s)) → r ≡ p + 2 + q.len → Tried (Short s q p o) (counted_part s q) p o r o₂
unfolding counted_part
counted-stored s q p {r} {o} {o₁} {o₂} h e₁ e₂ m =
    let n : length (part_of s (value q)) ≡ q.len = part_length s q (omega arith) in
    let v : 1 + 256 * q.len ≡ 1 + 256 * (length (part_of s (value q)) % 256) = omega (arith, n) in
    let w : length o₁ ≡ length o = ap length e₁ ∙ length-sets o p (le_bytes 2 (1 + 256 * q.len)) in
    let a : Emitted (value (le_bytes 2 (1 + 256 * (length (part_of s (value q)) % 256)))) (put p) o (put (p + 2)) o₁ =
    stored p (omega arith) (length-le_bytes 2 (1 + 256 * (length (part_of s (value q)) % 256))) (e₁ ∙ ap (λ (x : ℕ). sets o p (le_bytes 2 x)) v) in
    record {
      none = λ z. absurd (omega (arith, m, z));
      done = λ _. rw m (join a (part-stored s q short (p + 2) h.few (omega arith) h.inside (omega (arith, w)) e₂));
      tries = λ _ z. omega (arith, m, z);
      only = λ _. h;
    }

-- a number that stands for a place is that place
pub place_is : (n : ℕ) {p : ℕ} → put n ≡ At p → n ≡ p
place_is n {p} = put-elim (λ t. t ≡ At p → n ≡ p) n (λ h e. cc) (λ h e. absurd (let z : ◌≡◌ {A = ℕ} 0 1 = cc in omega arith))

-- ---- bytes that go over others

-- what holds of the two outputs holds of the one that is left
over-elim : (P : List ℕ → Type 0) (bs : Bytes) (p : ℕ) (o : List ℕ) → (p + length bs ≤ length o → P (sets o p bs)) → P o → P (overwritten bs (At p) o)
unfolding overwritten
over-elim P bs p o f g = cond-elim P (leb (p + length bs) (length o)) (sets o p bs) o (λ h. f (leb-true (p + length bs) (length o) h)) (λ _. g)

pub over-room : {bs o o' : List ℕ} {p : ℕ} → Overwritten bs (At p) o o' → p + length bs ≤ length o → o' ≡ sets o p bs
unfolding overwritten
over-room {bs} {o} {o'} {p} w h = rw (le-leb (p + length bs) (length o) h) at w.over

pub over-keeps : {bs o o' : List ℕ} (t : Put) → Overwritten bs t o o' → length o' ≡ length o
unfolding overwritten
over-keeps {bs} {o} (At p) w = ap length w.over ∙ over-elim (λ z. length z ≡ length o) bs p o (λ _. length-sets o p bs) refl
over-keeps (Refused m) w = ap length w.over

-- what stands before the place is spared
over-behind : {bs o o' : List ℕ} (p n : ℕ) → n ≤ p → Overwritten bs (At p) o o' → take n o' ≡ take n o
over-behind {bs} {o} p n h w = ap (take n) w.over ∙ over-elim (λ z. take n z ≡ take n o) bs p o (λ _. sets_behind bs o n p h) refl

over-spares : {bs o o' : List ℕ} (t : Put) → Overwritten bs t o o' → spared t o' ≡ spared t o
unfolding overwritten
over-spares (At p) w = over-behind p p (omega arith) w
over-spares (Refused m) w = w.over

pub over-before : {bs o o' : List ℕ} (p n : ℕ) → n ≤ p → Overwritten bs (put p) o o' → take n o' ≡ take n o
unfolding overwritten
over-before {bs} {o} {o'} p n h = put-elim (λ t. Overwritten bs t o o' → take n o' ≡ take n o) p (λ _. over-behind p n h) (λ _ w. ap (take n) w.over)

-- the three ways of it: they are stored; there is no room for them; the place is a refusal
pub over-stored : {o o' bs : List ℕ} (p : ℕ) {n : ℕ} → p ≤ past → length bs ≡ n → p + n ≤ length o → o' ≡ sets o p bs → Overwritten bs (put p) o o'
unfolding overwritten
over-stored {o} {o'} {bs} p f g h e = rw (put-at p f) (record { over = rw (le-leb (p + length bs) (length o) (omega (arith, g))) e })

pub over-no-room : {o bs : List ℕ} (p : ℕ) {n : ℕ} → p ≤ past → length bs ≡ n → length o < p + n → Overwritten bs (put p) o o
unfolding overwritten
over-no-room {o} {bs} p f g h = rw (put-at p f) (record { over = rw (lt-leb (p + length bs) (length o) (omega (arith, g))) })

pub over-refused : {o bs : List ℕ} (p : ℕ) → past < p → Overwritten bs (put p) o o
unfolding overwritten
over-refused p h = rw (put_refused p h) (record { over = refl })

-- nothing more is emitted behind a refusal
pub refused-stays : {x : Answer Bytes} {o : List ℕ} {p : ℕ} → past < p → Emitted x (put p) o (put p) o
refused-stays {x} {o} {p} h = rw (put_refused p h) (record { moves = refl; lays = tt; spares = refl; keeps = refl })

pub refused-now : {o : List ℕ} {p n q : ℕ} → n < 256 → p ≤ past → q ≡ suc past + n → Emitted (refused n) (put p) o (put q) o
refused-now {o} {p} {n} {q} b h e =
    let k : past < q = omega (arith, e) in
    let m : (q - suc past) % 256 ≡ n = omega (arith, e) in
    rw (put-at p h, put_refused q k, m) (record { moves = refl; lays = tt; spares = refl; keeps = refl })

-- Bytes of which only the length was known when y was to be emitted behind them: a stood there, and b went over it afterwards. They
-- need to be right, as d, only where nothing was refused.
pub patched : {a b d : Bytes} {y : Answer Bytes} {t s : Put} {r : ℕ} {o o₁ o₂ o₃ : List ℕ} → length a ≡ length b → length b ≡ length d
    → (r ≤ past → b ≡ d) → Emitted (value a) t o s o₁ → Emitted y s o₁ (put r) o₂ → Overwritten b t o₂ o₃ → Emitted (value d ▸ y) t o (put r) o₃
patched {a} {b} {d} {y} {t} {s} {r} {o} {o₁} {o₂} {o₃} f g h e₁ e₂ w =
    let e : Emitted (value a ▸ y) t o (put r) o₂ = join e₁ e₂ in
    record {
      moves = e.moves ∙ moves y t;
      lays = lays y t e.keeps e.moves e.lays w;
      spares = over-spares t w ∙ e.spares;
      keeps = over-keeps t w ∙ e.keeps;
    }
  where
    moves : (y : Answer Bytes) (t : Put) → moved t (value a ▸ y) ≡ moved t (value d ▸ y)
    moves (value c) (At p) = ap (λ n. At (advance p n)) (length-append a c ∙ ap (λ n. n + length c) (f ∙ g) ∙ sym (length-append d c))
    moves (refused n) (At p) = refl
    moves y (Refused m) = refl

    lays : (y : Answer Bytes) (t : Put) → length o₂ ≡ length o → put r ≡ moved t (value a ▸ y) → Laid t (value a ▸ y) o o₂ → Overwritten b t o₂ o₃ → Laid t (value d ▸ y) o o₃
    lays (value c) (At p) l m k w = λ k₁ k₂.
        let n : length (d ++ c) ≡ length d + length c = length-append d c in
        let n₁ : length (a ++ c) ≡ length (d ++ c) = length-append a c ∙ ap (λ n. n + length c) (f ∙ g) ∙ sym n in
        let q : take (p + length (a ++ c)) o₂ ≡ take p o ++ (a ++ c) = k (omega (arith, n₁)) (omega (arith, n₁)) in
        let v : o₃ ≡ sets o₂ p b = over-room w (omega (arith, g, n, l)) in
        ap (take (p + length (d ++ c))) v
        ∙ take-sets b o₂ (p + length (d ++ c)) p (omega (arith, g, n))
        ∙ ap (λ (z : List ℕ). sets z p b) (ap (λ z. take (p + z) o₂) (sym n₁) ∙ q)
        ∙ sets-under (take p o) a b c p (length-take-le p o (omega arith)) f
        ∙ ap (λ (z : Bytes). take p o ++ (z ++ c)) (h (at_place r m))
    lays (refused n) (At p) l m k w = tt
    lays y (Refused n) l m k w = tt

-- ---- a loop: what the rest of it, emitted from here, makes of the whole

pub record Left (whole : Answer Bytes) (t₀ : Put) (o₀ : List ℕ) (rest : Answer Bytes) (t : Put) (o : List ℕ) : Type 0 where
  pub finish : (r : Put) (o' : List ℕ) → Emitted rest t o r o' → Emitted whole t₀ o₀ r o'

pub left-all : {x : Answer Bytes} {t : Put} {o : List ℕ} → Left x t o x t o
left-all = record { finish = λ r o' e. e }

pub left_less : {whole rest a rest' : Answer Bytes} {t₀ t t' : Put} {o₀ o o' : List ℕ}
    → Left whole t₀ o₀ rest t o → Emitted a t o t' o' → rest ≡ a ▸ rest' → Left whole t₀ o₀ rest' t' o'
left_less {whole} {rest} {a} {rest'} {t₀} {t} {t'} {o₀} {o} {o'} l e q =
    record { finish = λ r o'' f. l.finish r o'' (rw q (join e f)) }

pub left-none : {whole rest : Answer Bytes} {t₀ t : Put} {o₀ o : List ℕ} → Left whole t₀ o₀ rest t o → rest ≡ value [] → Emitted whole t₀ o₀ t o
left-none {whole} {rest} {t₀} {t} {o₀} {o} l q = l.finish t o (rw q (skip t o))

-- ---- what a loop has stored, and what it has still to store

-- a run from which one store is taken
pub sets-turn : (l w : List ℕ) (at b : ℕ) (bs : List ℕ) → sets l at (b ∷ bs) ≡ w → sets (set l at b) (at + 1) bs ≡ w
sets-turn l w at b bs e = let f : at + 1 ≡ suc at = omega arith in rw f e

pub le_bytes-more : (w n : ℕ) → 0 < w → le_bytes w n ≡ n % 256 ∷ le_bytes (w - 1) (n / 256)
unfolding le_bytes
le_bytes-more zero n h = absurd (omega arith)
le_bytes-more (suc w) n h = let e : suc w - 1 ≡ w = omega arith in rw e

-- a byte and a number behind it, as one number
pub byte-first : (w b n : ℕ) → b < 256 → value (le_bytes (suc w) (b + 256 * n)) ≡ value (b ∷ le_bytes w n)
unfolding le_bytes
byte-first w b n h =
    let e : (b + 256 * n) % 256 ≡ b = omega arith in
    let f : (b + 256 * n) / 256 ≡ n = omega arith in
    rw (e, f)

-- two numbers, as one
pub le_bytes-join : (m n a b : ℕ) → a < 256 ^ m → le_bytes (m + n) (a + 256 ^ m * b) ≡ le_bytes m a ++ le_bytes n b
unfolding le_bytes
le_bytes-join zero n a b h = let e : a + 256 ^ 0 * b ≡ b = omega arith in rw (zero-add, e)
le_bytes-join (suc m) n a b h =
    let p : 256 ^ suc m * b ≡ 256 * (256 ^ m * b) = rw (pow-succ', mul_assoc) in
    let q : 256 ^ suc m ≡ 256 * 256 ^ m = pow-succ' 256 m in
    let e : (a + 256 ^ suc m * b) % 256 ≡ a % 256 = omega (arith, p) in
    let f : (a + 256 ^ suc m * b) / 256 ≡ a / 256 + 256 ^ m * b = omega (arith, p) in
    let k : a / 256 < 256 ^ m = omega (arith, q, h) in
    rw (suc-add, e, f, le_bytes-join m n (a / 256) b k)

pub le_bytes-none : (w n : ℕ) → w ≤ 0 → le_bytes w n ≡ []
unfolding le_bytes
le_bytes-none zero n h = refl
le_bytes-none (suc w) n h = absurd (omega arith)

-- ---- numbers of the library

-- a number that would end past the end
pub past_end : (w : ℕ) (s : List ℕ) (at : ℕ) → length s < at + w → 0 ≡ or_zero (read w s at)
past_end w s at h = ap or_zero (read_none w s at h)

-- ---- the same by cases

-- where there is no room
pub no_room : (n m : ℕ) → leb n m ≡ false → n ≤ m → ⊥
no_room n m e h = omega (arith, leb-false n m e)

pub not-tried : {P : Type 0} {x : Answer Bytes} {to : ℕ} {o : List ℕ} → (P → ⊥) → Tried P x to o 0 o
not-tried n = record { none = λ _. refl; done = λ h. absurd (h refl); tries = λ p _. n p; only = λ h. absurd (h refl) }

pub drop_more : (l : List ℕ) (i : ℕ) → i < length l → drop i l ≡ get_or l i 0 ∷ drop (i + 1) l
drop_more l i h = rw (add-one i) (drop-cons l i 0 h)

pub drop-none : (l : List ℕ) (i : ℕ) → length l ≤ i → drop i l ≡ []
drop-none l i h = drop_of_length-le l {i = i} h

-- a copy from which one store is taken
pub copy-turn : (l w bytes : List ℕ) (at i : ℕ) → i < length bytes → sets l (at + i) (drop i bytes) ≡ w
    → sets (set l (at + i) (get_or bytes i 0)) (at + (i + 1)) (drop (i + 1) bytes) ≡ w
copy-turn l w bytes at i h e =
    let f : at + (i + 1) ≡ suc (at + i) = omega arith in
    rw f (rw (drop_more bytes i h) at e)

-- and one from which the part up to j is taken
pub copy-part : (l w bytes : List ℕ) (at i j : ℕ) → i ≤ j → j ≤ length bytes → sets l (at + i) (drop i bytes) ≡ w
    → sets (sets l (at + i) (take (j - i) (drop i bytes))) (at + j) (drop j bytes) ≡ w
copy-part l w bytes at i j g h e =
    let n : length (take (j - i) (drop i bytes)) ≡ j - i = length-take-le (j - i) (drop i bytes) (simp length-drop (omega arith)) in
    let m : at + j ≡ at + i + length (take (j - i) (drop i bytes)) = omega (arith, n) in
    let q : i + (j - i) ≡ j = omega arith in
    ap₂ (λ (x : ℕ) (y : List ℕ). sets (sets l (at + i) (take (j - i) (drop i bytes))) x y) m
    (ap (λ (x : ℕ). drop x bytes) (sym q) ∙ sym (drop-drop (j - i) i bytes))
    ∙ sym (sets-append (take (j - i) (drop i bytes)) (drop (j - i) (drop i bytes)) l (at + i))
    ∙ ap (sets l (at + i)) (take-append-drop (j - i) (drop i bytes))
    ∙ e

pub copy_done : (l w bytes : List ℕ) (at i : ℕ) → length bytes ≤ i → sets l (at + i) (drop i bytes) ≡ w → l ≡ w
copy_done l w bytes at i h e = rw (drop-none bytes i h) at e
