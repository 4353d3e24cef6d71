-- A field of a record that is held is what its reading answers, over the width and the offset; and a field is below its width's
-- power of 256. Assumes nothing.
use Rattle.std.specs.Prelude.{◌≡◌, refl, Bool, true, false, cond, List, [], ◌∷◌, ℕ, ◌+◌, ◌^◌, ◌≤◌, ◌<◌, leb, length}
use Rattle.std.proofs.Common.{sym, ◌∙◌, ap, arith, lit<}
use Prim.Native.String.{String}
use Rattle.std.proofs.Math.Nat.{one-le-pow}
use lib.Text.{eqt}
use Rattle.util.specs.Read.{le, read, or_zero, le-lt, cond-elim, read_some}
use Rattle.records.specs.declared.answer.Place.{Place}
use Rattle.records.specs.Answer.{value, map}
use Rattle.records.specs.Layout.{Layout, size_of, offset_of, width_of}
use Rattle.records.specs.Record.{field_place, field_at, field}
use Rattle.records.specs.RecordLaws.{held-inside, Holds, place-some}
use Rattle.describe.specs.Values.{Octets, field_of}

-- ---- what the reading answers

-- w bytes at an offset inside the record
pub number_is : (w fixed offset : ℕ) (s : List ℕ) (at len : ℕ) → Holds s at len fixed → offset + w ≤ len
    → field_at w fixed offset s at len ≡ value (or_zero (read w s (at + offset)))
number_is w fixed offset s at len h k =
    let p : value (record { at = at + offset; len = w }) ≡ field_place w fixed offset s at len =
    place-some w fixed offset s at len (held-inside s at len fixed h.few h.whole h.inside) k in
    ap (map (λ (q : Place). le w s q.at)) (sym p)
    ∙ ap (λ o. value (or_zero o)) (read_some w s (at + offset) (le w s (at + offset)) (omega arith) refl)

-- every field lies inside its layout
pub within : (l : Layout) (name : String) → offset_of l name + width_of l name ≤ size_of l
within [] name = omega arith
within (f ∷ fs) name = by (eqt f.name name) (within fs name)
  where
    by : (b : Bool) → offset_of fs name + width_of fs name ≤ size_of fs
        → cond b 0 (f.width + offset_of fs name) + cond b f.width (width_of fs name) ≤ f.width + size_of fs
    by true h = omega arith
    by false h = omega arith

-- the field of that name
pub field_is : (l : Layout) (name : String) (s : List ℕ) (at len : ℕ) → Holds s at len (size_of l)
    → field l name s at len ≡ value (field_of l name s at)
field_is l name s at len h =
    number_is (width_of l name) (size_of l) (offset_of l name) s at len h (omega (arith, within l name, h.whole))

-- ---- bounds

module _ (s : List ℕ) (octets : Octets s) where
  pub number_lt : (w at : ℕ) → or_zero (read w s at) < 256 ^ w
  unfolding read
  number_lt w at =
      cond-elim (λ o. or_zero o < 256 ^ w) (leb (at + w) (length s)) _ _
      (λ _. le-lt w s at octets)
      (λ _. one-le-pow w 256 (lit< tt))

  pub field_lt : (l : Layout) (name : String) (at : ℕ) → field_of l name s at < 256 ^ width_of l name
  field_lt l name at = number_lt (width_of l name) (at + offset_of l name)
