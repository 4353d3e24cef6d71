-- Laws of `Cursors`, a case each. Assumes nothing.
use Rattle.std.specs.Prelude.{◌≡◌, refl, Bool, true, false, cond, List, ℕ, suc, ◌+◌, ◌-◌, ◌*◌, ◌/◌, ◌%◌, ◌^◌, ◌≤◌, ◌<◌, leb, ltb, eqb, length, Option, Some, None}
use Rattle.std.proofs.Common.{◌∙◌, ap, arith}
use borrow.Author.Tests.{le-leb, lt-leb, le-ltb, lt-ltb, eq-eqb, ne_eqb, ltb-false, eqb-false}
use Rattle.util.specs.Read.{le, read, cond-elim, some_read}
use Rattle.records.specs.declared.answer.Place.{Place}
use Rattle.records.specs.Answer.{Answer, value, refused, bind}
use Rattle.records.specs.Record.{limit}
use Rattle.typelib.specs.TableLaws.{lent_fits, table-there, in-table}
use Rattle.typelib.specs.Tables.{lent, in_table}
use Rattle.cursors.specs.Cursors.{BlockAt, size_at, record_at, block_from, block_with, skip, fixed_at, param_cursor, param_at}

-- ---- records that carry their length

-- what a record that was found tells
pub record Recorded (s : List ℕ) (pos end remaining least n : ℕ) : Type 0 where
  pub some : 0 < remaining
  pub whole : least ≤ n
  pub within : pos + n ≤ length s

abbrev Records : List ℕ → ℕ → ℕ → ℕ → ℕ → ℕ → Answer ℕ → Type 0
Records s pos end remaining least n a = value n ≡ a → Recorded s pos end remaining least n

no_record : (s : List ℕ) (pos end remaining least n m : ℕ) → Records s pos end remaining least n (refused m)
no_record s pos end remaining least n m e = let z : ◌≡◌ {A = ℕ} 0 1 = cc in absurd (omega arith)

pub recorded : (s : List ℕ) (pos end remaining least n : ℕ) → value n ≡ lent s (record_at s pos end remaining least) → Recorded s pos end remaining least n
unfolding record_at lent
recorded s pos end remaining least n =
    let P : Answer ℕ → Type 0 = Records s pos end remaining least n in
    let no : (m : ℕ) → P (refused m) = no_record s pos end remaining least n in
    cond-elim P (ltb limit (length s)) _ _ (λ _. no 1) (λ _.
    cond-elim P (eqb remaining 0) _ _ (λ _. no 9) (λ h1.
    cond-elim P (leb end pos) _ _ (λ _. no 9) (λ h2.
    cond-elim P (ltb (length s) (pos + 4)) _ _ (λ _. no 9) (λ h3.
    cond-elim P (ltb (size_at s pos) least) _ _ (λ _. no 9) (λ h4.
    cond-elim P (ltb (length s) (pos + size_at s pos)) _ _ (λ _. no 9) (λ h5 e.
    let q : n ≡ size_at s pos = cc in
    record {
      some = omega (arith, eqb-false remaining 0 h1);
      whole = omega (arith, ltb-false (size_at s pos) least h4);
      within = omega (arith, ltb-false (length s) (pos + size_at s pos) h5);
    }))))))

-- ---- records of one size

module _ (s : List ℕ) (pos end size : ℕ) where
  -- by the test of where a table ends
  pub fixed_in : in_table s (record { at = 0; len = end }) (pos + size) ≡ true → value (record { at = pos; len = size }) ≡ fixed_at s pos end size
  unfolding fixed_at
  fixed_in h = rw h

  pub fixed_out : in_table s (record { at = 0; len = end }) (pos + size) ≡ false → refused 9 ≡ fixed_at s pos end size
  unfolding fixed_at
  fixed_out h = rw h

  pub fixed-there : pos + size ≤ end → pos + size ≤ length s → value (record { at = pos; len = size }) ≡ fixed_at s pos end size
  fixed-there h k = fixed_in (table-there s (record { at = 0; len = end }) (pos + size) h (omega (arith, k)))

pub record Fixed (s : List ℕ) (pos end size : ℕ) (p : Place) : Type 0 where
  pub start : p.at ≡ pos
  pub inside : pos + size ≤ length s
  pub within : pos + size ≤ end
  pub whole : p.len ≡ size

pub fixed : (s : List ℕ) (pos end size : ℕ) (p : Place) → value p ≡ lent s (fixed_at s pos end size) → Fixed s pos end size p
unfolding fixed_at lent
fixed s pos end size p =
    let P : Answer Place → Type 0 = λ a. value p ≡ a → Fixed s pos end size p in
    let no : (m : ℕ) → P (refused m) = λ m e. let z : ◌≡◌ {A = ℕ} 0 1 = cc in absurd (omega arith) in
    cond-elim P (ltb limit (length s)) _ _ (λ _. no 1) (λ _.
    cond-elim P (in_table s (record { at = 0; len = end }) (pos + size)) _ _
    (λ h e.
    let q : p ≡ record { at = pos; len = size } = cc in
    let i = in-table s (record { at = 0; len = end }) (pos + size) h in
    record {
      start = ap (λ (x : Place). x.at) q;
      inside = omega (arith, i.file);
      within = i.segment;
      whole = ap (λ (x : Place). x.len) q;
    })
    (λ _. no 9))

pub param-none : (s : List ℕ) (d : BlockAt) → d.remaining ≡ 0 → refused 9 ≡ param_at s d
unfolding param_at
param-none s d h = rw (eq-eqb d.remaining 0 h)

pub param-some : (s : List ℕ) (d : BlockAt) → (d.remaining ≡ 0 → ⊥) → lent s (fixed_at s d.pos d.end 12) ≡ lent s (param_at s d)
unfolding param_at
param-some s d h = rw (ne_eqb d.remaining 0 h)

-- the length of a record, as the code takes it from the word at pos
pub record Sized (s : List ℕ) (pos size : ℕ) : Type 0 where
  pub inside : pos + 4 ≤ length s
  pub is : size ≡ size_at s pos

pub sized : (s : List ℕ) (pos info size : ℕ) → Some info ≡ read 4 s pos → size ≡ info / 2 ^ 0 % 2 ^ 16 → Sized s pos size
sized s pos info size e h =
    let w = some_read 4 s pos info e in
    record { inside = w.inside; is = h ∙ ap (λ (n : ℕ). n / 2 ^ 0 % 2 ^ 16) w.is }

-- ---- values and refusals behind the test for over-long bytes

pub record Lent {A : Type 0} (s : List ℕ) (x : A) (a : Answer A) : Type 0 where
  pub few : length s ≤ limit
  pub is : value x ≡ a

pub lent-value : {A : Type 0} (s : List ℕ) (x : A) (a : Answer A) → value x ≡ lent s a → Lent s x a
unfolding lent
lent-value {A} s x a =
    cond-elim (λ (r : Answer A). value x ≡ r → Lent s x a) (ltb limit (length s)) (refused 1) a
    (λ _ e. let z : ◌≡◌ {A = ℕ} 0 1 = cc in absurd (omega arith))
    (λ h e. record { few = ltb-false limit (length s) h; is = e })

-- what hands a refusal on hands it on behind the test, too
pub lent-refused : {A B : Type 0} (s : List ℕ) (a : Answer A) (g : Answer A → Answer B) (n : ℕ) → refused n ≡ g (refused n) → refused n ≡ lent s a → refused n ≡ lent s (g a)
unfolding lent
lent-refused {A} {B} s a g n h = go (ltb limit (length s))
  where
    go : (b : Bool) → refused n ≡ cond b (refused 1) a → refused n ≡ cond b (refused 1) (g a)
    go true e = let q : n ≡ 1 = cc in ap refused q
    go false e = h ∙ ap g e

pub lent-bind : {A B : Type 0} (s : List ℕ) (a : Answer A) (f : A → Answer B) (n : ℕ) → refused n ≡ lent s a → refused n ≡ lent s (bind a f)
lent-bind s a f n e = lent-refused s a (λ x. bind x f) n refl e

-- ---- parameters

pub record Param (s : List ℕ) (d : BlockAt) (p : Place) : Type 0 where
  pub some : 0 < d.remaining
  pub inside : d.pos + 12 ≤ length s

pub param : (s : List ℕ) (d : BlockAt) (p : Place) → value p ≡ lent s (param_at s d) → Param s d p
unfolding param_at
param s d p e =
    let v = lent-value s p (param_at s d) e in
    cond-elim (λ (r : Answer Place). value p ≡ r → Param s d p) (eqb d.remaining 0) (refused 9) (fixed_at s d.pos d.end 12)
    (λ _ f. let z : ◌≡◌ {A = ℕ} 0 1 = cc in absurd (omega arith))
    (λ h f.
    let x = fixed s d.pos d.end 12 p (lent_fits s (fixed_at s d.pos d.end 12) (value p) v.few f) in
    record { some = omega (arith, eqb-false d.remaining 0 h); inside = x.inside })
    v.is

-- ---- blocks

module _ (s : List ℕ) (memoffset count : ℕ) where
  pub block-negative : 0x80000000 ≤ memoffset → None ≡ block_with s memoffset count
  unfolding block_with
  block-negative h = rw (le-leb 0x80000000 memoffset h)

-- a turn of the skip
pub skip-cut : (n : ℕ) (s : List ℕ) (pos : ℕ) → 0 < n → length s < pos + 4 → None ≡ skip n s pos
unfolding skip
skip-cut n s pos h k =
    let e : suc (n - 1) ≡ n = omega arith in
    let f : None ≡ skip (suc (n - 1)) s pos = rw (lt-ltb (length s) (pos + 4) k) in
    f ∙ ap (λ (m : ℕ). skip m s pos) e

pub skip-zero : (n : ℕ) (s : List ℕ) (pos : ℕ) → 0 < n → pos + 4 ≤ length s → size_at s pos ≡ 0 → Some pos ≡ skip n s pos
unfolding skip
skip-zero n s pos h k z =
    let e : suc (n - 1) ≡ n = omega arith in
    let f : Some pos ≡ skip (suc (n - 1)) s pos = rw (le-ltb (length s) (pos + 4) k, eq-eqb (size_at s pos) 0 z) in
    f ∙ ap (λ (m : ℕ). skip m s pos) e

pub skip-on : (n : ℕ) (s : List ℕ) (pos : ℕ) → 0 < n → pos + 4 ≤ length s → (size_at s pos ≡ 0 → ⊥) → skip (n - 1) s (pos + size_at s pos) ≡ skip n s pos
unfolding skip
skip-on n s pos h k z =
    let e : suc (n - 1) ≡ n = omega arith in
    let f : skip (n - 1) s (pos + size_at s pos) ≡ skip (suc (n - 1)) s pos = rw (le-ltb (length s) (pos + 4) k, ne_eqb (size_at s pos) 0 z) in
    f ∙ ap (λ (m : ℕ). skip m s pos) e

pub skip-done : (s : List ℕ) (pos : ℕ) → Some pos ≡ skip 0 s pos
unfolding skip
skip-done s pos = refl

-- ---- the same by cases

module _ (s : List ℕ) (pos end remaining least : ℕ) where
  pub record-none : remaining ≡ 0 → refused 9 ≡ record_at s pos end remaining least
  unfolding record_at
  record-none h = rw (eq-eqb remaining 0 h)

  pub record-past : (remaining ≡ 0 → ⊥) → end ≤ pos → refused 9 ≡ record_at s pos end remaining least
  unfolding record_at
  record-past h k = rw (ne_eqb remaining 0 h, le-leb end pos k)

  pub record-cut : (remaining ≡ 0 → ⊥) → pos < end → length s < pos + 4 → refused 9 ≡ record_at s pos end remaining least
  unfolding record_at
  record-cut h k l = rw (ne_eqb remaining 0 h, lt-leb end pos k, lt-ltb (length s) (pos + 4) l)

  pub record-small : (remaining ≡ 0 → ⊥) → pos < end → pos + 4 ≤ length s → size_at s pos < least → refused 9 ≡ record_at s pos end remaining least
  unfolding record_at
  record-small h k l m = rw (ne_eqb remaining 0 h, lt-leb end pos k, le-ltb (length s) (pos + 4) l, lt-ltb (size_at s pos) least m)

  pub record-long : (remaining ≡ 0 → ⊥) → pos < end → pos + 4 ≤ length s → least ≤ size_at s pos → length s < pos + size_at s pos → refused 9 ≡ record_at s pos end remaining least
  unfolding record_at
  record-long h k l m n =
      rw (
        ne_eqb remaining 0 h,
        lt-leb end pos k,
        le-ltb (length s) (pos + 4) l,
        le-ltb (size_at s pos) least m,
        lt-ltb (length s) (pos + size_at s pos) n,
      )

  pub record-there : (remaining ≡ 0 → ⊥) → pos < end → pos + 4 ≤ length s → least ≤ size_at s pos → pos + size_at s pos ≤ length s → value (size_at s pos) ≡ record_at s pos end remaining least
  unfolding record_at
  record-there h k l m n =
      rw (
        ne_eqb remaining 0 h,
        lt-leb end pos k,
        le-ltb (length s) (pos + 4) l,
        le-ltb (size_at s pos) least m,
        le-ltb (length s) (pos + size_at s pos) n,
      )

-- the length of a record, as the code takes it
pub size_is : (s : List ℕ) (pos info r : ℕ) → info ≡ le 4 s pos → r ≡ info / 2 ^ 0 % 2 ^ 16 → r ≡ size_at s pos
size_is s pos info r e h = h ∙ ap (λ (n : ℕ). n / 2 ^ 0 % 2 ^ 16) e

module _ (s : List ℕ) (memoffset count : ℕ) where
  pub block-empty : memoffset < 0x80000000 → count ≡ 0 → None ≡ block_with s memoffset count
  unfolding block_with
  block-empty h z = rw (lt-leb 0x80000000 memoffset h, eq-eqb count 0 z)

  pub block-there : (o : Option ℕ) → memoffset < 0x80000000 → (count ≡ 0 → ⊥) → o ≡ read 4 s memoffset → block_from memoffset o ≡ block_with s memoffset count
  unfolding block_with
  block-there o h z e = rw (lt-leb 0x80000000 memoffset h, ne_eqb count 0 z) (ap (block_from memoffset) e)

pub params_none : (r : Place) (n : ℕ) → r.len < 12 * n → record { pos = 0; end = 0; remaining = 0; yielded = 0 } ≡ param_cursor r n
unfolding param_cursor
params_none r n h = rw (lt-ltb r.len (12 * n) h)

pub params-there : (r : Place) (n : ℕ) → 12 * n ≤ r.len → record { pos = r.at + (r.len - 12 * n); end = r.at + r.len; remaining = n; yielded = 0 } ≡ param_cursor r n
unfolding param_cursor
params-there r n h = rw (le-ltb r.len (12 * n) h)
