-- A row is short. Assumes nothing.
use Rattle.std.specs.Prelude.{◌≡◌, Bool, true, false, ◌&&◌, List, [], ◌∷◌, map, ℕ, zero, suc, ◌+◌, ◌*◌, ◌≤◌, T, leb, eqb, length, get_or, Ok, Err}
use Rattle.std.proofs.Common.{arith, leb→le, length-append}
use Rattle.std.proofs.Math.ListN.{get_or-map}
use Rattle.util.specs.Read.{cond-elim}
use Rattle.records.specs.Answer.{Answer, value, refused}
use Rattle.records.specs.Record.{limit}
use Rattle.records.specs.Types.{vt_of}
use Rattle.records.specs.declared.answer.Place.{Place}
use Rattle.records.specs.declared.answer.Refusal.{Refusal}
use Rattle.std.specs.declared.result.Result.{Result}
use Rattle.records.specs.declared.types.ConstValue.{ConstValue}
use Rattle.records.specs.Told.{refusal_number}
use Rattle.typelib.specs.Told.{told_imp_file_as}
use Rattle.description.specs.Format.{length-le_bytes}
use Rattle.description.specs.Description.{Shape, shapes, shape_of}
use Rattle.describe.specs.Constants.{Content, content_of, place_in}
use Rattle.rows.specs.Values.{eights, opt_place, span, content_bytes, constant}
use Rattle.rows.specs.Told.{numbers_of, bytes_of, bytes_of_as, told_row, told_row_within}
use Rattle.rows.specs.declared.row.Longs.{Longs}
use Rattle.rows.specs.declared.row.Longs.TheVariants as longs
use Rattle.rows.specs.declared.row.Row.{Row}
use Rattle.rows.specs.declared.row.Row.TheVariants as row

abbrev pub length_of : Answer (List ℕ) → ℕ
length_of (value bs) = length bs
length_of (refused n) = 0

length-eights : (xs : List ℕ) → length (eights xs) ≡ 8 * length xs
length-eights [] = omega arith
length-eights (x ∷ xs) = simp (length-append, length-le_bytes) (omega (arith, length-eights xs))

longs-short : (l : Longs) → length (numbers_of l) ≤ 5
longs-short (longs.One a) = omega arith
longs-short (longs.Two a b) = omega arith
longs-short (longs.Three a b c) = omega arith
longs-short (longs.Four a b c d) = omega arith
longs-short (longs.Five a b c d e) = omega arith

opt-short : (a : Answer Place) → length (opt_place a) ≤ 17
opt-short (value p) = omega (arith, length-eights (p.at ∷ p.len ∷ []))
opt-short (refused n) = omega arith

span-short : (a : Answer Place) → length (span a) ≤ 17
span-short (value p) = omega (arith, length-eights (p.at ∷ p.len ∷ []))
span-short (refused n) = omega arith

-- the bytes of a number, by its shape
abbrev width_of : Shape → ℕ
width_of Shape.empty = 0
width_of (Shape.number w) = w
width_of Shape.bit = 1
width_of (Shape.octets k) = 0
width_of Shape.text = 0

content-short : (h : Shape) (c : Content) → length (content_bytes h c) ≤ 17 + width_of h
content-short Shape.empty c = omega arith
content-short (Shape.number w) c = simp length-le_bytes (omega arith)
content-short Shape.bit c = simp length-le_bytes (omega arith)
content-short (Shape.octets k) c = omega (arith, span-short (place_in c))
content-short Shape.text c = omega (arith, opt-short (place_in c))

abbrev below : ℕ → List ℕ → Bool
below k [] = true
below k (x ∷ xs) = leb x k && below k xs

both : (a b : Bool) → T (a && b) → T a × T b
both true b t = (tt, t)
both false b t = absurd t

each : (k : ℕ) (l : List ℕ) (i d : ℕ) → T (below k l) → d ≤ k → get_or l i d ≤ k
each k [] i d t h = h
each k (x ∷ l) zero d t h = leb→le x k (both (leb x k) (below k l) t).0
each k (x ∷ l) (suc i) d t h = each k l i d (both (leb x k) (below k l) t).1 h

shape-short : (code : ℕ) → width_of (shape_of code) ≤ 8
shape-short code =
    cond-elim (λ h. width_of h ≤ 8) (eqb code 64) (Shape.number 8) (get_or shapes code (Shape.number 4))
    (λ _. omega arith)
    (λ _. rw (← get_or-map width_of shapes code (Shape.number 4)) (each 8 (map width_of shapes) code 4 tt (omega arith)))

constant-short : (v : ConstValue) → length (constant v) ≤ 27
unfolding constant
constant-short v =
    simp (length-append, length-le_bytes) (omega (arith, content-short (shape_of (vt_of v)) (content_of v), shape-short (vt_of v)))

-- whatever refuses the file in the row
pub bytes-short-as : {F : Type 0} (number : F → ℕ) (r : Row F) → length (bytes_of_as number r) ≤ limit
bytes-short-as number (row.Plain l) = omega (arith, length-eights (numbers_of l), longs-short l)
bytes-short-as number (row.Words a b) = simp (length-append, length-le_bytes) (omega arith)
bytes-short-as number (row.Step p n l) = omega (arith, length-eights (p.at ∷ p.len ∷ n ∷ numbers_of l), longs-short l)
bytes-short-as number (row.Chain l next yielded) = simp (length-append, length-le_bytes, length-eights) (omega (arith, longs-short l))
bytes-short-as number (row.Marked m l) = omega (arith, length-eights (numbers_of l), longs-short l)
bytes-short-as number (row.Half m a) = simp length-le_bytes (omega arith)
bytes-short-as number (row.Word m a) = simp length-le_bytes (omega arith)
bytes-short-as number (row.Import p f) = simp (length-append, length-le_bytes) (omega (arith, opt-short (told_imp_file_as number f)))
bytes-short-as number (row.Constant v) = omega (arith, constant-short v)
bytes-short-as number (row.Entry e n c) = simp (length-append, length-le_bytes) (omega arith)
bytes-short-as number (row.Figures a b c d e) = simp (length-append, length-le_bytes) (omega arith)

pub bytes-short : (r : Row Refusal) → length (bytes_of r) ≤ limit
bytes-short = bytes-short-as refusal_number

-- whatever refuses the answer, and the file in its row
pub row-short-within : {F E : Type 0} (within : F → ℕ) (number : E → ℕ) (r : Result (Row F) E) → length_of (told_row_within within number r) ≤ limit
row-short-within within number (Ok r) = bytes-short-as within r
row-short-within within number (Err e) = omega arith

pub row-short : (r : Result (Row Refusal) Refusal) → length_of (told_row r) ≤ limit
row-short = row-short-within refusal_number refusal_number
