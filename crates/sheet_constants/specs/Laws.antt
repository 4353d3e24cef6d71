-- The bytes of a constant, as they are emitted. Assumes nothing.
use Rattle.std.specs.Prelude.{◌≡◌, refl, cond, List, [], ◌∷◌, ◌++◌, map, ℕ, ◌≤◌, ◌<◌, eqb, length, get_or, ◌^◌, ℤ}
use Rattle.std.proofs.Common.{sym, ap, ◌∙◌, arith, ne_eqb}
use Rattle.std.proofs.Math.ListN.{get_or-map, get_or-eq_default}
use Rattle.util.specs.Read.{cond-elim}
use Rattle.records.specs.declared.answer.Place.{Place}
use Rattle.records.specs.declared.types.ConstValue.{ConstValue}
use Rattle.records.specs.Answer.{Answer, value, refused}
use Rattle.records.specs.Record.{part_of}
use Rattle.records.specs.Types.{vt_of}
use Rattle.records.specs.TypesLaws.{get_d_any}
use Rattle.typelib.specs.declared.TypeLib.{TypeLib}
use Rattle.constants.specs.Constants.{const_at}
use Rattle.description.specs.Format.{encode, le_bytes, opt}
use Rattle.description.specs.Description.{Bytes, Shape, shapes, shape_of}
use Rattle.description.specs.Sheet.{bit, constant}
use Rattle.description.specs.ByteLayout.{opt_none, opt-some, null-bytes, text-bytes}
use Rattle.describe.specs.Values.{bytes_in}
use Rattle.describe.specs.Constants.{Content, content_of, number_in, place_in, or_empty, constant_from, constant_of}
use Rattle.sheet_constants.specs.Bytes.{mark_of, text_bytes, value_bytes}
use Rattle.std.specs.Int.Signed.{mag}
use Rattle.std.specs.Int.{Width}
use mir.Val.{hbits, to_z, of_z}
use Rattle.std.proofs.lemmas.Int.{to_z-of_z}

-- ---- the shape of a code

-- f of the shape of a code
module _ {A : Type 0} (f : Shape → A) (code : ℕ) where
  -- in the table, which has a cell for each shape of the description's list
  pub listed : (d : A) → code < length shapes → get_or (map f shapes) code d ≡ f (shape_of code)
  listed d h =
      get_d_any (map f shapes) code d (f (Shape.number 4)) h
      ∙ get_or-map f shapes code (Shape.number 4)
      ∙ rw (ne_eqb code 64 (λ k. omega arith))

  -- and beyond it
  pub file-time : code ≡ 64 → f (Shape.number 8) ≡ f (shape_of code)
  file-time e = rw e

  pub raw : length shapes ≤ code → (code ≡ 64 → ⊥) → f (Shape.number 4) ≡ f (shape_of code)
  raw h n = rw (ne_eqb code 64 n) (ap f (sym (get_or-eq_default shapes (Shape.number 4) h)))

-- the shape that a mark is the mark of
abbrev pub marked : ℕ → Shape
marked n = cond (eqb n 0) Shape.empty (cond (eqb n 16) (Shape.octets 16) (cond (eqb n 98) Shape.bit (cond (eqb n 116) Shape.text (Shape.number n))))

-- it is that of the code: seen at all shapes of the list at once
pub mark-is : (code : ℕ) {mark : ℕ} → mark ≡ mark_of (shape_of code) → marked mark ≡ shape_of code
mark-is code e =
    ap marked e
    ∙ cond-elim (λ h. marked (mark_of h) ≡ h) (eqb code 64) (Shape.number 8) (get_or shapes code (Shape.number 4))
    (λ _. refl)
    (λ _. sym (get_or-map (λ h. marked (mark_of h)) shapes code (Shape.number 4)))

-- a mark that is none of these is that of a number
pub mark-other : (n : ℕ) → (n ≡ 0 → ⊥) → (n ≡ 16 → ⊥) → (n ≡ 98 → ⊥) → (n ≡ 116 → ⊥) → Shape.number n ≡ marked n
mark-other n a b c d = rw (ne_eqb n 0 a, ne_eqb n 16 b, ne_eqb n 98 c, ne_eqb n 116 d)

-- ---- a text

pub null-laid : (s : List ℕ) {a : Answer Place} {n : ℕ} → a ≡ refused n → value (0 ∷ []) ≡ value (text_bytes s a)
unfolding text_bytes
null-laid s e = rw e (ap value (sym null-bytes))

pub text-laid : (s : List ℕ) {a : Answer Place} {p : Place} {bs : Bytes} → a ≡ value p → bs ≡ part_of s (value p)
    → value (1 ∷ (le_bytes 4 (length bs) ++ bs)) ≡ value (text_bytes s a)
unfolding text_bytes
text-laid s {a} {p} {bs} e h = rw (e, h) (ap value (sym (text-bytes (part_of s (value p)))))

-- ---- a value, by each shape

-- the bytes at a place that was refused are none
part-or-empty : (s : List ℕ) (a : Answer Place) → part_of s a ≡ or_empty (bytes_in s a)
unfolding part_of
part-or-empty s (value p) = refl
part-or-empty s (refused n) = refl

module _ (s : List ℕ) (c : Content) {h : Shape} where
  pub empty-laid : h ≡ Shape.empty → value [] ≡ value (value_bytes s c h)
  unfolding value_bytes
  empty-laid e = rw e

  pub number-laid : {n w : ℕ} → h ≡ Shape.number w → n ≡ number_in c → value (le_bytes w n) ≡ value (value_bytes s c h)
  unfolding value_bytes
  number-laid e k = rw (e, k)

  pub bit-laid : {n : ℕ} → h ≡ Shape.bit → n ≡ number_in c → value (le_bytes 1 n) ≡ value (value_bytes s c h)
  unfolding value_bytes bit
  bit-laid e k = rw (e, k)

  pub octets-laid : {k : ℕ} {a : Answer Place} {bs : Bytes} → h ≡ Shape.octets k → a ≡ place_in c → bs ≡ part_of s a
      → value bs ≡ value (value_bytes s c h)
  unfolding value_bytes
  octets-laid {k} {a} {bs} e f g = rw (e, g, f) (ap value (part-or-empty s (place_in c)))

  pub shown-laid : {a : Answer Place} → h ≡ Shape.text → a ≡ place_in c → value (text_bytes s a) ≡ value (value_bytes s c h)
  unfolding value_bytes text_bytes
  shown-laid e f = rw (e, f)

-- ---- a constant

pub constant-laid : (s : List ℕ) (v : ConstValue) {code : ℕ} {c : Content} {h : Shape}
    → code ≡ vt_of v → c ≡ content_of v → h ≡ shape_of code
    → value (le_bytes 2 code ++ value_bytes s c h) ≡ value (encode constant (constant_from s v))
unfolding constant constant_from value_bytes
constant-laid s v e f g = rw (g, f, e)

module _ (s : List ℕ) (lib : TypeLib) (word : ℕ) where
  pub none-laid : {n : ℕ} → refused n ≡ const_at s lib word → value (0 ∷ []) ≡ value (encode (opt constant) (constant_of s lib word))
  unfolding constant_of
  none-laid e = rw (sym e) (ap value (sym (opt_none constant)))

  pub some-laid : {v : ConstValue} → value v ≡ const_at s lib word
      → value (1 ∷ encode constant (constant_from s v)) ≡ value (encode (opt constant) (constant_of s lib word))
  unfolding constant_of
  some-laid {v} e = rw (sym e) (ap value (sym (opt-some constant (constant_from s v))))

-- ---- the same by cases

-- of a constant that a match took apart
pub content-is : {v w : ConstValue} → v ≡ w → content_of w ≡ content_of v
content-is e = ap content_of (sym e)

-- a signed number, which a call takes by its bits
pub signed-digits : (w : Width) (x : ℤ) {n : ℕ} → mag x < 2 ^ hbits w → n ≡ of_z w (to_z w (of_z w x))
    → Content.digits n ≡ Content.digits (of_z w x)
signed-digits w x h e = ap Content.digits (e ∙ ap (of_z w) (to_z-of_z w x (record { sfits = h })))
