-- Numbers, bytes, names and GUIDs that are taken from bytes fit their formats. Assumes nothing.
use Rattle.std.proofs.Math.Path.{◌≡◌}
use Rattle.std.proofs.Common.{◌∙◌, of_z, get_or-drop}
use mathlib.Core.List.{List, [], ◌∷◌}
use Rattle.std.specs.Prelude.{ℕ, zero, suc, ◌+◌, ◌^◌, ◌≤◌, ◌<◌, leb, ℤ, take, drop}
use native.Mathlib.Omega.{arith}
use mir.Syntax.{w32}
use Rattle.std.proofs.Math.ListN.{length, length-drop}
use Rattle.std.proofs.Math.Seq.{length-take-le}
use borrow.Author.Tests.{le-leb, leb-true}
use Rattle.util.specs.Read.{le, read, le-lt, cond-elim}
use Rattle.records.specs.declared.answer.Place.{Place}
use Rattle.records.specs.Answer.{Answer, value, or_nine}
use Rattle.records.specs.Record.{part_of}
use Rattle.typelib.specs.declared.TypeLib.{TypeLib}
use Rattle.typelib.specs.Names.{name_behind, name_bytes, guid_place}
use Rattle.typelib.specs.Tables.{table_place}
use Rattle.typelib.specs.TableLaws.{found as found-place}
use Rattle.description.specs.Format.{Fits, Each, counted, number, opt}
use Rattle.description.specs.Sheet.{guid, name}
use Rattle.description.specs.Fit.{opt-fits, counted-fits}
use Rattle.describe.specs.Values.{Octets, bytes_in}
use Rattle.describe.specs.Answers.{IfValue, told, anything, answers-bind, answers-map, if-found}
use Rattle.describe.specs.References.{guid_of}
use Rattle.describe.specs.Members.{name_of, name_by}

-- ---- bytes

octets-drop : (n : ℕ) (s : List ℕ) → Octets s → Octets (drop n s)
octets-drop n s h i = rw (get_or-drop n s i 0) (h (n + i))

each_take : (n : ℕ) (s : List ℕ) → Octets s → Each (λ b. b < 256) (take n s)
each_take zero s h = tt
each_take (suc n) [] h = tt
each_take (suc n) (x ∷ xs) h = (h 0, each_take n xs (λ i. h (suc i)))

module _ (s : List ℕ) where
  -- the bytes of a place are at most its length, and at most all
  pub part-most : (p : Place) → (length (part_of s (value p)) ≤ p.len) × (length (part_of s (value p)) ≤ length s)
  unfolding part_of
  part-most p =
      cond-elim (λ bs. (length bs ≤ p.len) × (length bs ≤ length s)) (leb (p.at + p.len) (length s))
      (take p.len (drop p.at s)) []
      (λ h.
      let l : length (take p.len (drop p.at s)) ≡ p.len =
      length-take-le p.len (drop p.at s) (simp length-drop (omega (arith, leb-true (p.at + p.len) (length s) h))) in
      (omega arith, omega (arith, leb-true (p.at + p.len) (length s) h)))
      (λ _. (omega arith, omega arith))

  -- and as many as its length where it lies inside
  pub part_length : (p : Place) → p.at + p.len ≤ length s → length (part_of s (value p)) ≡ p.len
  unfolding part_of
  part_length p h =
      rw (le-leb (p.at + p.len) (length s) h) (length-take-le p.len (drop p.at s) (simp length-drop (omega arith)))

  module _ (octets : Octets s) where
    pub part-each : (p : Place) → Each (λ b. b < 256) (part_of s (value p))
    unfolding part_of
    part-each p =
        cond-elim (Each (λ b. b < 256)) (leb (p.at + p.len) (length s)) _ _
        (λ _. each_take p.len (drop p.at s) (octets-drop p.at s octets))
        (λ _. tt)

    -- a place whose length w bytes hold
    pub counted-part : (w : ℕ) (p : Place) → p.len < 256 ^ w → Fits (counted (number w)) (part_of s (value p))
    counted-part w p h = counted-fits (number w) (part_of s (value p)) (omega (arith, (part-most p).0)) (part-each p)

    -- a word that may be missing
    pub word_fits : (at : ℕ) → IfValue (λ n. n < 256 ^ 4) (or_nine (read 4 s at))
    unfolding read
    word_fits at =
        cond-elim (λ o. IfValue (λ n. n < 256 ^ 4) (or_nine o)) (leb (at + 4) (length s)) _ _
        (λ _. told _ (λ n e. let q : n ≡ le 4 s at = cc in rw q (le-lt 4 s at octets)))
        (λ _. told _ (λ n e. absurd (let z : ◌≡◌ {A = ℕ} 0 1 = cc in omega arith)))

    -- ---- GUIDs and names

    module _ (lib : TypeLib) where
      guid-bytes : (x : ℕ) → IfValue (Fits guid) (bytes_in s (guid_place s lib x))
      unfolding guid
      guid-bytes x =
          answers-map _ (told (guid_place s lib x) (λ p e. found-place s lib 5 x 16 p e)) (λ p h.
          (part_length p (omega (arith, h.inside, h.whole)) ∙ h.whole, part-each p))

      pub guid-fits : (x : ℕ) → Fits (opt guid) (guid_of s lib x)
      unfolding guid_of
      guid-fits x = opt-fits guid (if-found (guid-bytes x))

      behind-short : (x n : ℕ) → n < 256 ^ 1 → IfValue (λ p. p.len < 256 ^ 1) (name_behind s lib x n)
      behind-short x n h = answers-map (λ p. record { at = p.at + 12; len = n }) (anything (table_place s lib 7 x (12 + n))) (λ _ _. h)

      name-short : (x : ℕ) → IfValue (λ p. p.len < 256 ^ 1) (name_bytes s lib x)
      name-short x =
          answers-bind (anything (table_place s lib 7 x 12)) (λ intro _.
          behind-short x (le 1 s (intro.at + 8)) (le-lt 1 s (intro.at + 8) octets))

      name-bytes : (x : ℕ) → IfValue (Fits name) (bytes_in s (name_bytes s lib x))
      unfolding name
      name-bytes x = answers-map _ (name-short x) (counted-part 1)

      pub name-fits : (x : ℕ) → Fits (opt name) (name_of s lib x)
      unfolding name_of
      name-fits x = opt-fits name (if-found (name-bytes x))

      pub name-by-fits : (a : Answer ℤ) → Fits (opt name) (name_by s lib a)
      unfolding name_by
      name-by-fits a = opt-fits name (if-found (answers-bind (anything a) (λ x _. name-bytes (of_z w32 x))))
