-- Laws of `Tables`, a case each. Assumes nothing.
use Rattle.std.specs.Prelude.{◌≡◌, refl, Bool, true, false, ◌&&◌, List, [], ◌∷◌, ℕ, ◌+◌, ◌*◌, ◌/◌, ◌%◌, ◌^◌, ◌≤◌, ◌<◌, leb, ltb, eqb, length, get_or, ℤ, cond}
use Rattle.std.proofs.Common.{◌∙◌, ap, arith, SFits, to_z, of_z}
use Rattle.std.proofs.lemmas.Bool.{false≢true}
use Rattle.std.proofs.Math.ListN.{get_or-append}
use Rattle.std.proofs.lemmas.List.{get_or_at}
use borrow.Author.Tests.{le-leb, lt-leb, le-ltb, lt-ltb, leb-true, leb-false, ltb-false, eq-eqb, ne_eqb}
use Rattle.std.specs.Int.{w32}
use Rattle.std.proofs.lemmas.Int.{to_z-of_z}
use Rattle.util.specs.Read.{le, read, or_zero, read-zero, cond-elim}
use Rattle.records.specs.declared.answer.Place.{Place}
use Rattle.records.specs.Answer.{Answer, value, refused, map, bind}
use Rattle.records.specs.RecordLaws.{held-elim}
use Rattle.records.specs.Record.{limit, record_place, held}
use Rattle.typelib.specs.declared.TypeLib.{TypeLib}
use Rattle.typelib.specs.Tabulate.{length-tabulate, get_d_tabulate}
use Rattle.typelib.specs.Header.{word, table_at, directory_at, segment_offset, segment_length, type_count, pair_at, pairs_at, library_of}
use Rattle.typelib.specs.Tables.{lent, segment_place, segment_of, in_table, place_in, table_place, table_of}

-- ---- over-long bytes

pub lent-long : {A : Type 0} (s : List ℕ) (a : Answer A) → limit < length s → refused 1 ≡ lent s a
unfolding lent
lent-long s a h = rw (lt-ltb limit (length s) h)

pub lent_fits : {A : Type 0} (s : List ℕ) (a r : Answer A) → length s ≤ limit → r ≡ a → r ≡ lent s a
unfolding lent
lent_fits s a r h e = rw (le-ltb limit (length s) h) e

-- a table that is not empty is not missing
pub table_is : (a : Answer Place) (table : Place) → table ≡ table_of a → 0 < table.len → value table ≡ a
table_is (value p) table e h = ap value e
table_is (refused n) table e h = let z : table.len ≡ 0 = ap (λ (p : Place). p.len) e in absurd (omega (arith, h))

-- ---- places in a table

and_left : (a b : Bool) → (a && b) ≡ true → a ≡ true
and_left true b e = refl
and_left false b e = e

and_right : (a b : Bool) → (a && b) ≡ true → b ≡ true
and_right true b e = e
and_right false b e = absurd (false≢true e)

module _ (s : List ℕ) (table : Place) (end : ℕ) where
  pub table-there : end ≤ table.len → table.at + end ≤ length s → in_table s table end ≡ true
  table-there h k = rw (le-leb end table.len h, le-leb (table.at + end) (length s) k)

  -- what ends with the table is inside the segment and inside the file
  pub record InTable : Type 0 where
    pub segment : end ≤ table.len
    pub file : table.at + end ≤ length s

  pub in-table : in_table s table end ≡ true → InTable
  in-table e =
      let a : Bool = leb end table.len in
      let b : Bool = leb (table.at + end) (length s) in
      record { segment = leb-true end table.len (and_left a b e); file = leb-true (table.at + end) (length s) (and_right a b e) }

module _ (s : List ℕ) (table : Place) (offset size : ℕ) where
  pub place_out : offset < 0x80000000 → in_table s table (offset + size) ≡ false → refused 9 ≡ place_in s table offset size
  unfolding place_in
  place_out h e = rw (lt-leb 0x80000000 offset h, e)

  pub place-there : offset < 0x80000000 → in_table s table (offset + size) ≡ true → value (record { at = table.at + offset; len = size }) ≡ place_in s table offset size
  unfolding place_in
  place-there h e = rw (lt-leb 0x80000000 offset h, e)

-- ---- what a place that was found tells

pub record Found (s : List ℕ) (size : ℕ) (p : Place) : Type 0 where
  pub inside : p.at + size ≤ length s
  pub whole : p.len ≡ size

abbrev Finds : List ℕ → ℕ → Place → Answer Place → Type 0
Finds s size p a = value p ≡ a → Found s size p

nothing : (s : List ℕ) (size n : ℕ) (p : Place) → Finds s size p (refused n)
nothing s size n p e = let z : ◌≡◌ {A = ℕ} 0 1 = cc in absurd (omega arith)

pub found_in : (s : List ℕ) (table : Place) (offset size : ℕ) (p : Place) → value p ≡ place_in s table offset size → Found s size p
unfolding place_in
found_in s table offset size p =
    cond-elim (Finds s size p) (leb 0x80000000 offset) _ _ (λ _. nothing s size 9 p) (λ _.
    cond-elim (Finds s size p) (in_table s table (offset + size)) _ _ (λ h e.
    let q : p ≡ record { at = table.at + offset; len = size } = cc in
    let a : p.at ≡ table.at + offset = ap (λ (x : Place). x.at) q in
    record { inside = omega (arith, (in-table s table (offset + size) h).file); whole = ap (λ (x : Place). x.len) q })
    (λ _. nothing s size 9 p))

found-bind : (s : List ℕ) (a : Answer Place) (offset size : ℕ) (p : Place) → value p ≡ bind a (λ table. place_in s table offset size) → Found s size p
found-bind s (value table) offset size p e = found_in s table offset size p e
found-bind s (refused n) offset size p e = nothing s size n p e

pub record Here (s : List ℕ) (size : ℕ) (p : Place) : Type 0 where
  pub few : length s ≤ limit
  pub inside : p.at + size ≤ length s
  pub whole : p.len ≡ size

-- bytes that are found in a table are inside lent bytes that are not over-long
pub found : (s : List ℕ) (lib : TypeLib) (k offset size : ℕ) (p : Place) → value p ≡ table_place s lib k offset size → Here s size p
unfolding lent
found s lib k offset size p =
    cond-elim (λ (a : Answer Place). value p ≡ a → Here s size p) (ltb limit (length s)) _ _
    (λ _ e. let z : ◌≡◌ {A = ℕ} 0 1 = cc in absurd (omega arith))
    (λ h e.
    let f = found-bind s (segment_of lib k) offset size p e in
    record { few = ltb-false limit (length s) h; inside = f.inside; whole = f.whole })

-- a number that is read of such bytes
pub number-found : (w : ℕ) (s : List ℕ) (lib : TypeLib) (k offset size : ℕ) (p : Place) (i r : ℕ) → value p ≡ table_place s lib k offset size → i + w ≤ size → r ≡ or_zero (read w s (p.at + i)) → r ≡ le w s (p.at + i)
number-found w s lib k offset size p i r e l q =
    let h = found s lib k offset size p e in
    read-zero w s (p.at + i) r (omega arith) q

-- ---- signed offsets

-- a signed number and its 32-bit pattern, as a call hands it on
pub pattern : (z : ℤ) (r : ℕ) → SFits w32 z → r ≡ of_z w32 (to_z w32 (of_z w32 z)) → r ≡ of_z w32 z
pattern z r f e = e ∙ ap (of_z w32) (to_z-of_z w32 z f)

-- ---- the place of a record

pub record-inside : (fixed : ℕ) (s : List ℕ) (at len : ℕ) (p : Place) → value p ≡ record_place fixed s at len → p.at + p.len ≤ length s
record-inside fixed s at len p =
    held-elim (λ (h : Answer Unit). value p ≡ map (λ _. record { at = at; len = len }) h → p.at + p.len ≤ length s) s at len fixed
    (λ h e.
    let q : p ≡ record { at = at; len = len } = cc in
    let a : p.at ≡ at = ap (λ (x : Place). x.at) q in
    let b : p.len ≡ len = ap (λ (x : Place). x.len) q in
    omega (arith, h.inside))
    (λ n e. let z : ◌≡◌ {A = ℕ} 0 1 = cc in absurd (omega arith))

-- ---- a segment's place is small

pub record Small (p : Place) : Type 0 where
  pub start : p.at < 2 ^ 31
  pub size : p.len < 2 ^ 31

pub small : (lib : TypeLib) (k : ℕ) (p : Place) → value p ≡ segment_of lib k → Small p
unfolding segment_of segment_place
small lib k p =
    let P : Answer Place → Type 0 = λ a. value p ≡ a → Small p in
    let no : P (refused 9) = λ e. let z : ◌≡◌ {A = ℕ} 0 1 = cc in absurd (omega arith) in
    let offset : ℕ = segment_offset lib k in
    let size : ℕ = segment_length lib k in
    cond-elim P (leb 15 k) _ _ (λ _. no) (λ _.
    cond-elim P (leb 0x80000000 offset) _ _ (λ _. no) (λ h1.
    cond-elim P (eqb size 0) _ _ (λ _. no) (λ _.
    cond-elim P (leb 0x80000000 size) _ _ (λ _. no) (λ h2 f.
    let q : p ≡ record { at = offset; len = size } = cc in
    let a : p.at ≡ offset = ap (λ (x : Place). x.at) q in
    let b : p.len ≡ size = ap (λ (x : Place). x.len) q in
    record { start = omega (arith, leb-false 0x80000000 offset h1); size = omega (arith, leb-false 0x80000000 size h2) }))))

-- ---- the library that `parse` finds in bytes has the numbers of their directory

pub parsed-count : (s : List ℕ) → type_count (library_of s) ≡ word "nrtypeinfos" s
unfolding library_of
parsed-count s = get_or_at (pairs_at s (directory_at s)) (word "nrtypeinfos" s) (table_at s ∷ []) 0 30 (length-tabulate (pair_at s (directory_at s)) 30)

pub parsed-pair : (s : List ℕ) (i : ℕ) → i < 30 → get_or (library_of s).numbers i 0 ≡ pair_at s (directory_at s) i
unfolding library_of
parsed-pair s i h =
    let at : ℕ = directory_at s in
    get_or-append (pairs_at s at) (word "nrtypeinfos" s ∷ table_at s ∷ []) 0 i (omega (arith, length-tabulate (pair_at s at) 30))
    ∙ get_d_tabulate (pair_at s at) 30 i 0 h

-- segment k is the k-th entry of the directory
pub parsed-segment : (s : List ℕ) (k : ℕ) → k < 15
    → segment_of (library_of s) k ≡ segment_place (le 4 s (directory_at s + 16 * k)) (le 4 s (directory_at s + 16 * k + 4))
unfolding segment_of
parsed-segment s k h =
    let at : ℕ = directory_at s in
    let e : at + 16 * (2 * k / 2) + 4 * (2 * k % 2) ≡ at + 16 * k = omega arith in
    let f : at + 16 * ((2 * k + 1) / 2) + 4 * ((2 * k + 1) % 2) ≡ at + 16 * k + 4 = omega arith in
    rw (lt-leb 15 k h) (ap (λ x. segment_place x (segment_length (library_of s) k)) (parsed-pair s (2 * k) (omega arith) ∙ ap (λ n. le 4 s n) e)
    ∙ ap (segment_place (le 4 s (at + 16 * k))) (parsed-pair s (2 * k + 1) (omega arith) ∙ ap (λ n. le 4 s n) f))

-- ---- the same by cases

module _ (lib : TypeLib) (k : ℕ) where
  pub segment-none : 15 ≤ k → refused 9 ≡ segment_of lib k
  unfolding segment_of
  segment-none h = rw (le-leb 15 k h)

  pub segment-some : (a : Answer Place) → k < 15 → a ≡ segment_place (segment_offset lib k) (segment_length lib k) → a ≡ segment_of lib k
  unfolding segment_of
  segment-some a h e = rw (lt-leb 15 k h) e

module _ (offset size : ℕ) where
  pub segment-offset : 0x80000000 ≤ offset → refused 9 ≡ segment_place offset size
  unfolding segment_place
  segment-offset h = rw (le-leb 0x80000000 offset h)

  pub segment-empty : offset < 0x80000000 → size ≡ 0 → refused 9 ≡ segment_place offset size
  unfolding segment_place
  segment-empty h z = rw (lt-leb 0x80000000 offset h, eq-eqb size 0 z)

  pub segment-length : offset < 0x80000000 → (size ≡ 0 → ⊥) → 0x80000000 ≤ size → refused 9 ≡ segment_place offset size
  unfolding segment_place
  segment-length h z n = rw (lt-leb 0x80000000 offset h, ne_eqb size 0 z, le-leb 0x80000000 size n)

  pub segment-there : offset < 0x80000000 → (size ≡ 0 → ⊥) → size < 0x80000000 → value (record { at = offset; len = size }) ≡ segment_place offset size
  unfolding segment_place
  segment-there h z n = rw (lt-leb 0x80000000 offset h, ne_eqb size 0 z, lt-leb 0x80000000 size n)

module _ (s : List ℕ) (table : Place) (end : ℕ) where
  pub table-past : table.len < end → in_table s table end ≡ false
  table-past h = rw (lt-leb end table.len h)

  pub table-cut : end ≤ table.len → length s < table.at + end → in_table s table end ≡ false
  table-cut h k = rw (le-leb end table.len h, lt-leb (table.at + end) (length s) k)

module _ (s : List ℕ) (table : Place) (offset size : ℕ) where
  pub place-negative : 0x80000000 ≤ offset → refused 9 ≡ place_in s table offset size
  unfolding place_in
  place-negative h = rw (le-leb 0x80000000 offset h)

pub record-lent : (fixed : ℕ) (s : List ℕ) (at len : ℕ) → record_place fixed s at len ≡ lent s (record_place fixed s at len)
unfolding held lent
record-lent fixed s at len = go (ltb limit (length s))
  where
    rest : Answer Unit
    rest = cond (ltb len fixed) (refused 9) (cond (leb (at + len) (length s)) (value tt) (refused 9))

    placed : Answer Unit → Answer Place
    placed h = map (λ _. record { at = at; len = len }) h

    go : (b : Bool) → placed (cond b (refused 1) rest) ≡ cond b (refused 1) (placed (cond b (refused 1) rest))
    go true = refl
    go false = refl
