-- The laws of values' bytes. Assumes nothing.
use Rattle.std.specs.Prelude.{◌≡◌, refl, List, [], ◌∷◌, ◌++◌, ℕ, ◌<◌, ◌^◌, ℤ}
use Rattle.std.proofs.Common.{sym, ap, ◌∙◌, append-nil, append_assoc}
use Rattle.std.specs.Int.Signed.{mag}
use Rattle.std.specs.Int.{Width, w32}
use mir.Val.{hbits, to_z, of_z}
use Rattle.std.proofs.lemmas.Int.{to_z-of_z}
use Rattle.records.specs.Answer.{Answer, value}
use Rattle.records.specs.Types.{vt_of}
use Rattle.records.specs.declared.answer.Place.{Place}
use Rattle.records.specs.declared.name.NameEntry.{NameEntry}
use Rattle.records.specs.declared.types.ConstValue.{ConstValue}
use Rattle.typelib.specs.References.{external}
use Rattle.description.specs.Format.{le_bytes}
use Rattle.description.specs.Description.{Shape, shape_of}
use Rattle.describe.specs.Constants.{Content, content_of, number_in, place_in}
use Rattle.rows.specs.Values.{eights, place, opt_place, span, reference, content_bytes, constant, name_entry}
use Rattle.rows.specs.Told.{numbers_of}
use Rattle.rows.specs.declared.row.Longs.{Longs}
use Rattle.rows.specs.declared.row.Longs.TheVariants as longs

-- what is told of a value that a match took apart
pub shown : {E A : Type 0} (told : E → A) {r e : E} → r ≡ e → told e ≡ told r
shown told h = ap told (sym h)

-- the bits of a signed number that a call took by its bits
pub back : (w : Width) (x : ℤ) {n : ℕ} → mag x < 2 ^ hbits w → n ≡ of_z w (to_z w (of_z w x)) → n ≡ of_z w x
back w x h e = e ∙ ap (of_z w) (to_z-of_z w x (record { sfits = h }))

-- ---- numbers in eight bytes

pub eights-append : (xs ys : List ℕ) → eights xs ++ eights ys ≡ eights (xs ++ ys)
eights-append [] ys = refl
eights-append (x ∷ xs) ys = append_assoc (le_bytes 8 x) (eights xs) (eights ys) ∙ ap (λ (l : List ℕ). le_bytes 8 x ++ l) (eights-append xs ys)

abbrev pub long_bytes : Longs → Answer (List ℕ)
long_bytes l = value (eights (numbers_of l))

pub two-longs : (a b : ℕ) → value (le_bytes 8 a ++ le_bytes 8 b) ≡ value (eights (a ∷ b ∷ []))
two-longs a b = ap (λ (l : List ℕ). value (le_bytes 8 a ++ l)) (sym (append-nil (le_bytes 8 b)))

pub one : {l : Longs} {a : ℕ} → l ≡ longs.One a → value (le_bytes 8 a) ≡ long_bytes l
one {l} {a} h = ap value (sym (append-nil (le_bytes 8 a))) ∙ shown long_bytes h

pub four : {l : Longs} {a b c d : ℕ} → l ≡ longs.Four a b c d → value (eights (a ∷ b ∷ []) ++ eights (c ∷ d ∷ [])) ≡ long_bytes l
four {l} {a} {b} {c} {d} h = ap value (eights-append (a ∷ b ∷ []) (c ∷ d ∷ [])) ∙ shown long_bytes h

pub five : {l : Longs} {a b c d e : ℕ} → l ≡ longs.Five a b c d e
    → value (le_bytes 8 a ++ (eights (b ∷ c ∷ []) ++ eights (d ∷ e ∷ []))) ≡ long_bytes l
five {l} {a} {b} {c} {d} {e} h =
    ap (λ (k : List ℕ). value (le_bytes 8 a ++ k)) (eights-append (b ∷ c ∷ []) (d ∷ e ∷ [])) ∙ shown long_bytes h

-- a record's place, its number and the numbers of a cursor
pub step-laid : (p : Place) (n : ℕ) (l : Longs) → value (eights (p.at ∷ p.len ∷ n ∷ []) ++ eights (numbers_of l)) ≡ value (eights (p.at ∷ p.len ∷ n ∷ numbers_of l))
step-laid p n l = ap value (eights-append (p.at ∷ p.len ∷ n ∷ []) (numbers_of l))

-- ---- references and constants

pub import-laid : (info : Place) {x y : Answer Place} → x ≡ y → value (2 ∷ (place info ++ opt_place x)) ≡ value (reference (external info y))
import-laid info e = ap (λ (a : Answer Place). value (2 ∷ (place info ++ opt_place a))) e

module _ {h : Shape} (c : Content) where
  pub empty-laid : h ≡ Shape.empty → value [] ≡ value (content_bytes h c)
  empty-laid e = rw e

  pub number-laid : {n w : ℕ} → h ≡ Shape.number w → n ≡ number_in c → value (le_bytes w n) ≡ value (content_bytes h c)
  number-laid e k = rw (e, k)

  pub bit-laid : {n : ℕ} → h ≡ Shape.bit → n ≡ number_in c → value (le_bytes 1 n) ≡ value (content_bytes h c)
  bit-laid e k = rw (e, k)

  pub octets-laid : {k : ℕ} (x : Answer Place) → h ≡ Shape.octets k → x ≡ place_in c → value (span x) ≡ value (content_bytes h c)
  octets-laid x e k = rw (e, k)

  pub text-laid : (x : Answer Place) → h ≡ Shape.text → x ≡ place_in c → value (opt_place x) ≡ value (content_bytes h c)
  text-laid x e k = rw (e, k)

pub constant-laid : (v : ConstValue) {code : ℕ} (h : Shape) (c : Content) → code ≡ vt_of v → h ≡ shape_of code → c ≡ content_of v
    → value (le_bytes 2 code ++ content_bytes h c) ≡ value (constant v)
unfolding constant
constant-laid v h c e k m = rw (k, m, e)

-- ---- the entry of a name

pub entry-laid : (e : NameEntry) {h k : ℕ} → h ≡ of_z w32 e.hreftype → k ≡ of_z w32 e.next_hash
    → value (eights (e.offset ∷ e.text.at ∷ e.text.len ∷ []) ++ (le_bytes 4 h ++ (le_bytes 4 k ++ (le_bytes 1 e.flags ++ le_bytes 2 e.hashcode)))) ≡ value (name_entry e)
entry-laid e p q = rw (p, q)
