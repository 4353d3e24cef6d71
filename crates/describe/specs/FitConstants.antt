-- Constants that are taken from bytes fit the sheet. Assumes nothing.
use Rattle.std.specs.Prelude.{◌≡◌, Bool, Float, not, ◌&&◌, List, [], ◌∷◌, ℕ, zero, suc, ◌+◌, ◌*◌, ◌^◌, ◌≤◌, ◌<◌, T, eqb, length, get_or}
use Rattle.std.proofs.Math.Path.{refl}
use Rattle.std.proofs.Common.{sym, ◌∙◌, ap, mod-lt, arith, lit<, pow_pos}
use Rattle.std.proofs.Math.Bool.{true, false}
use Rattle.std.proofs.Math.Nat.{pow-le-pow_right, lt_of_lt_of_le}
use Rattle.std.specs.Float.{Format}
use Rattle.std.specs.Float.Ieee.{binary32, binary64, top}
use borrow.Author.Tests.{leb-false, eqb-true, ne_eqb}
use mir.Syntax.{Width, w8, w16, w32, w64}
use mir.Val.{bits, to_z, of_z}
use mir.ValLaws.{of_z-to_z}
use Rattle.util.specs.Read.{le, le-lt, cond-elim}
use Rattle.util.specs.declared.Real.{Real}
use Rattle.util.specs.declared.Real.TheVariants.{Number, Nan}
use Rattle.util.specs.Real.{real_of, bits_back}
use Rattle.util.specs.Real as real
use Rattle.records.specs.declared.answer.Place.{Place}
use Rattle.records.specs.declared.types.ConstValue.{ConstValue}
use Rattle.records.specs.declared.types.ConstValue.TheVariants as const
use Rattle.records.specs.Record.{bits_of}
use Rattle.records.specs.Types.{vt_of}
use Rattle.typelib.specs.declared.TypeLib.{TypeLib}
use Rattle.typelib.specs.Tables.{negative, table_place}
use Rattle.typelib.specs.TableLaws.{found as found-place}
use Rattle.constants.specs.Constants.{low, r4_as, r8_as, date_as, constant_of, among, inline_codes, inline_code, inline_of, stored_width, text_behind, value_at, stored_at}
use Rattle.description.specs.Format.{Fits, opt, counted}
use Rattle.description.specs.Format.IfAny.{missing}
use Rattle.description.specs.Format.IfAny.{found as present}
use Rattle.description.specs.Description.{Shape, shapes, shape_of}
use Rattle.description.specs.Sheet.{u32, constant}
use Rattle.description.specs.Sheet as sheet
use Rattle.description.specs.Fit.{bit-fits, opt-fits}
use Rattle.describe.specs.Values.{Octets}
use Rattle.describe.specs.Answers.{IfValue, gives, refuses, told, anything, answers-bind, answers-map, answers-lent, if-found}
use Rattle.describe.specs.FitValues.{part_length, part-each, counted-part}
use Rattle.describe.specs.Constants.{Content, digits, content_of, value_of, constant_from}
use Rattle.describe.specs.Constants as describes

-- ---- codes and their shapes

-- of two numbers only one of which is on a list
differ : (ks : List ℕ) (n k : ℕ) → (among n ks ≡ among k ks → ⊥) → eqb n k ≡ false
differ ks n k h = ne_eqb n k (λ e. h (ap (λ (x : ℕ). among x ks) e))

never : true ≡ false → ⊥
never e = let z : ◌≡◌ {A = ℕ} 0 1 = cc in omega arith

both : (a b : Bool) → T (a && b) → T a × T b
both true b t = (tt, t)
both false b t = absurd t

-- the codes that have a case of their own: texts, decimals, and those that are numbers or nothing
abbrev known : List ℕ
known = 8 ∷ 14 ∷ 0 ∷ 1 ∷ 2 ∷ 3 ∷ 4 ∷ 5 ∷ 6 ∷ 7 ∷ 10 ∷ 11 ∷ 16 ∷ 17 ∷ 18 ∷ 19 ∷ 20 ∷ 21 ∷ 22 ∷ 23 ∷ 24 ∷ 25 ∷ 64 ∷ []

-- whether a shape is four bytes, where the code is not known
abbrev four : Bool → Shape → Bool
four true h = true
four false (Shape.number w) = eqb w 4
four false (Shape.octets k) = false
four false Shape.empty = false
four false Shape.bit = false
four false Shape.text = false

four_is : (h : Shape) → T (four false h) → h ≡ Shape.number 4
four_is (Shape.number w) t = ap Shape.number (eqb-true w 4 (through (eqb w 4) t))
  where
    through : (b : Bool) → T b → b ≡ true
    through true t = refl
    through false t = absurd t
four_is (Shape.octets k) t = absurd t
four_is Shape.empty t = absurd t
four_is Shape.bit t = absurd t
four_is Shape.text t = absurd t

-- the rule of the table: a code that is not known has four bytes
abbrev rule : ℕ → List Shape → Bool
rule i [] = true
rule i (h ∷ hs) = four (among i known) h && rule (suc i) hs

rule-at : (i : ℕ) (hs : List Shape) (k n : ℕ) → i + k ≡ n → T (rule i hs) → among n known ≡ false → get_or hs k (Shape.number 4) ≡ Shape.number 4
rule-at i [] k n q t e = refl
rule-at i (h ∷ hs) zero n q t e =
    let p : i ≡ n = omega arith in
    let f : among i known ≡ false = ap (λ (x : ℕ). among x known) p ∙ e in
    four_is h (rw f at (both (four (among i known) h) (rule (suc i) hs) t).0)
rule-at i (h ∷ hs) (suc k) n q t e =
    rule-at (suc i) hs k n (omega arith) (both (four (among i known) h) (rule (suc i) hs) t).1 e

shape-raw : (vt : ℕ) → among vt known ≡ false → shape_of vt ≡ Shape.number 4
shape-raw vt e =
    let f : eqb vt 64 ≡ false = differ known vt 64 (λ q. never (sym q ∙ e)) in
    rw f (rule-at 0 shapes vt vt (omega arith) tt e)

-- ---- a constant that holds a number

-- the bits of a signed number
pub signed_lt : (w : Width) (n : ℕ) → n < 2 ^ bits w → of_z w (to_z w n) < 2 ^ bits w
signed_lt w n h = rw (of_z-to_z w n (record { fits = h })) h

low-lt : (k v : ℕ) → low k v < 2 ^ k
low-lt k v = mod-lt v (pow_pos k)

module _ (s : List ℕ) where
  abbrev Fitted : ConstValue → Type 0
  Fitted v = Fits constant (constant_from s v)

  number_at : (h : Shape) (c : Content) (w n : ℕ) → h ≡ Shape.number w → c ≡ digits n → n < 256 ^ w → Fits (sheet.value h) (value_of s c h)
  number_at h c w n e f k = rw (e, f) k

  raw-fits : (vt v : ℕ) → vt < 256 ^ 2 → among vt known ≡ false → Fitted (const.Raw vt (to_z w32 (low 32 v)))
  unfolding constant constant_from vt_of content_of
  raw-fits vt v h e = (h, number_at (shape_of vt) _ 4 _ (shape-raw vt e) refl (signed_lt w32 (low 32 v) (low-lt 32 v)))

  -- a float, by its bits
  r4-fits : (r : Real Float ℕ) → real.bits_of binary32 r < 256 ^ 4 → Fitted (r4_as r)
  unfolding constant constant_from vt_of content_of real.bits_of
  r4-fits (Number x) h = (lit< tt, h)
  r4-fits (Nan n) h = (lit< tt, h)

  r8-fits : (r : Real Float ℕ) → real.bits_of binary64 r < 256 ^ 8 → Fitted (r8_as r)
  unfolding constant constant_from vt_of content_of real.bits_of
  r8-fits (Number x) h = (lit< tt, h)
  r8-fits (Nan n) h = (lit< tt, h)

  date-fits : (r : Real Float ℕ) → real.bits_of binary64 r < 256 ^ 8 → Fitted (date_as r)
  unfolding constant constant_from vt_of content_of real.bits_of
  date-fits (Number x) h = (lit< tt, h)
  date-fits (Nan n) h = (lit< tt, h)

  real-lt : (f : Format) (n : ℕ) → n < 2 * top f → real.bits_of f (real_of f n) < 2 * top f
  real-lt f n h = rw (bits_back f n h) h

  truth-fits : (b : Bool) → Fitted (const.Bool b)
  unfolding constant constant_from vt_of content_of
  truth-fits true = (lit< tt, bit-fits 1 (lit< tt))
  truth-fits false = (lit< tt, bit-fits 0 (lit< tt))

  -- ---- a number as a value of a code

  constant-fits : (vt v : ℕ) → vt < 256 ^ 2 → eqb vt 8 ≡ false → eqb vt 14 ≡ false → v < 2 ^ 64 → Fitted (constant_of vt v)
  unfolding constant_of constant constant_from vt_of content_of
  constant-fits vt v h text decimal k =
      let word = signed_lt w32 (low 32 v) (low-lt 32 v) in
      let long = signed_lt w64 v k in
      cond-elim Fitted (eqb vt 0) _ _ (λ _. (lit< tt, tt)) (λ e0.
      cond-elim Fitted (eqb vt 1) _ _ (λ _. (lit< tt, tt)) (λ e1.
      cond-elim Fitted (eqb vt 2) _ _ (λ _. (lit< tt, signed_lt w16 (low 16 v) (low-lt 16 v))) (λ e2.
      cond-elim Fitted (eqb vt 3) _ _ (λ _. (lit< tt, word)) (λ e3.
      cond-elim Fitted (eqb vt 4) _ _ (λ _. r4-fits (real_of binary32 (low 32 v)) (real-lt binary32 (low 32 v) (low-lt 32 v))) (λ e4.
      cond-elim Fitted (eqb vt 5) _ _ (λ _. r8-fits (real_of binary64 v) (real-lt binary64 v k)) (λ e5.
      cond-elim Fitted (eqb vt 6) _ _ (λ _. (lit< tt, long)) (λ e6.
      cond-elim Fitted (eqb vt 7) _ _ (λ _. date-fits (real_of binary64 v) (real-lt binary64 v k)) (λ e7.
      cond-elim Fitted (eqb vt 10) _ _ (λ _. (lit< tt, word)) (λ e10.
      cond-elim Fitted (eqb vt 11) _ _ (λ _. truth-fits (not (eqb v 0))) (λ e11.
      cond-elim Fitted (eqb vt 16) _ _ (λ _. (lit< tt, signed_lt w8 (low 8 v) (low-lt 8 v))) (λ e16.
      cond-elim Fitted (eqb vt 17) _ _ (λ _. (lit< tt, low-lt 8 v)) (λ e17.
      cond-elim Fitted (eqb vt 18) _ _ (λ _. (lit< tt, low-lt 16 v)) (λ e18.
      cond-elim Fitted (eqb vt 19) _ _ (λ _. (lit< tt, low-lt 32 v)) (λ e19.
      cond-elim Fitted (eqb vt 20) _ _ (λ _. (lit< tt, long)) (λ e20.
      cond-elim Fitted (eqb vt 21) _ _ (λ _. (lit< tt, k)) (λ e21.
      cond-elim Fitted (eqb vt 22) _ _ (λ _. (lit< tt, word)) (λ e22.
      cond-elim Fitted (eqb vt 23) _ _ (λ _. (lit< tt, low-lt 32 v)) (λ e23.
      cond-elim Fitted (eqb vt 24) _ _ (λ _. (lit< tt, tt)) (λ e24.
      cond-elim Fitted (eqb vt 25) _ _ (λ _. (lit< tt, word)) (λ e25.
      cond-elim Fitted (eqb vt 64) _ _ (λ _. (lit< tt, k)) (λ e64.
      raw-fits vt v h (rw (text, decimal, e0, e1, e2, e3, e4, e5, e6, e7, e10, e11, e16, e17, e18, e19, e20, e21, e22, e23, e24, e25, e64)))))))))))))))))))))))

-- ---- texts, decimals, and the constant that a word is or names

-- but for decimals a stored value has at most eight bytes
width-most : (vt : ℕ) → eqb vt 14 ≡ false → stored_width vt ≤ 8
unfolding stored_width
width-most vt d =
    let P : ℕ → Type 0 = λ w. w ≤ 8 in
    cond-elim P (among vt (0 ∷ 1 ∷ 24 ∷ [])) 0 _ (λ _. omega arith) (λ _.
    cond-elim P (eqb vt 11) 2 _ (λ _. omega arith) (λ _.
    cond-elim P (among vt (5 ∷ 6 ∷ 7 ∷ 20 ∷ 21 ∷ 64 ∷ [])) 8 _ (λ _. omega arith) (λ _.
    cond-elim P (eqb vt 14) 16 4 (λ e. absurd (never (sym e ∙ d))) (λ _. omega arith))))

-- an inline code is no text's and no decimal's
record Inline (vt : ℕ) : Type 0 where
  pub small : vt < 256 ^ 2
  pub text : eqb vt 8 ≡ false
  pub decimal : eqb vt 14 ≡ false

inline : (n : ℕ) → n < 256 ^ 2 → Inline (inline_code n)
unfolding inline_code
inline n h =
    cond-elim Inline (among n inline_codes) n 3
    (λ e. record {
      small = h;
      text = differ inline_codes n 8 (λ q. never (sym e ∙ q));
      decimal = differ inline_codes n 14 (λ q. never (sym e ∙ q));
    })
    (λ _. record { small = lit< tt; text = refl; decimal = refl })

module _ (s : List ℕ) (octets : Octets s) (lib : TypeLib) where
  text-fits : (p : Place) → p.len < 256 ^ 4 → Fitted s (const.Bstr p)
  unfolding constant constant_from vt_of content_of
  text-fits p h = (lit< tt, opt-fits (counted u32) (present (counted-part s octets 4 p h)))

  null-fits : Fitted s const.NullBstr
  unfolding constant constant_from vt_of content_of
  null-fits = (lit< tt, opt-fits (counted u32) missing)

  decimal-fits : (p : Place) → p.at + p.len ≤ length s → p.len ≡ 16 → Fitted s (const.Decimal p)
  unfolding constant constant_from vt_of content_of
  decimal-fits p h e = (lit< tt, (part_length s p h ∙ e, part-each s octets p))

  behind-fits : (offset n : ℕ) → IfValue (Fitted s) (text_behind s lib offset n)
  unfolding text_behind
  behind-fits offset n =
      cond-elim (IfValue (Fitted s)) (eqb n 0xffffffff) _ _ (λ _. gives null-fits) (λ _.
      cond-elim (IfValue (Fitted s)) (negative n) _ _ (λ _. refuses tt) (λ h.
      answers-map (λ p. const.Bstr (record { at = p.at + 6; len = n })) (anything (table_place s lib 11 offset (6 + n))) (λ p _.
      text-fits (record { at = p.at + 6; len = n }) (omega (arith, leb-false 0x80000000 n h)))))

  sixteen : (vt at : ℕ) → vt ≡ 14 → at + stored_width vt ≤ length s → at + 16 ≤ length s
  unfolding stored_width
  sixteen vt at e h = rw e at h

  value-fits : (offset vt at : ℕ) → vt < 256 ^ 2 → at + stored_width vt ≤ length s → IfValue (Fitted s) (value_at s lib offset vt at)
  unfolding value_at
  value-fits offset vt at h inside =
      cond-elim (IfValue (Fitted s)) (eqb vt 8) _ _ (λ _. behind-fits offset (le 4 s at)) (λ t.
      cond-elim (IfValue (Fitted s)) (eqb vt 14) _ _
      (λ e. gives (decimal-fits (record { at = at; len = 16 }) (sixteen vt at (eqb-true vt 14 e) inside) refl))
      (λ d.
      let v : le (stored_width vt) s at < 256 ^ 8 =
      lt_of_lt_of_le (le-lt (stored_width vt) s at octets) (pow-le-pow_right (lit< tt) (width-most vt d)) in
      gives (constant-fits s vt (le (stored_width vt) s at) h t d v)))

  stored-fits : (offset : ℕ) → IfValue (Fitted s) (stored_at s lib offset)
  stored-fits offset =
      answers-bind (anything (table_place s lib 11 offset 2)) (λ p _.
      let vt : ℕ = le 2 s p.at in
      answers-bind (told (table_place s lib 11 offset (2 + stored_width vt)) (λ q e. found-place s lib 11 offset (2 + stored_width vt) q e)) (λ q f.
      value-fits offset vt (q.at + 2) (le-lt 2 s p.at octets) (omega (arith, f.inside))))

  inline-fits : (word : ℕ) → Fitted s (inline_of word)
  inline-fits word =
      let i : Inline (inline_code (bits_of 26 5 word)) = inline (bits_of 26 5 word) (omega arith) in
      constant-fits s (inline_code (bits_of 26 5 word)) (bits_of 0 26 word) i.small i.text i.decimal (omega arith)

  pub const_fits : (word : ℕ) → Fits (opt constant) (describes.constant_of s lib word)
  unfolding describes.constant_of
  const_fits word =
      opt-fits constant (if-found (answers-map (constant_from s)
      (answers-lent s _ tt (λ _.
      cond-elim (IfValue (Fitted s)) (negative word) _ _ (λ _. gives (inline-fits word)) (λ _. stored-fits word)))
      (λ v h. h)))
