-- What holds of each case of a resolved reference and of a type's description holds of what the readings answer.
-- Assumes nothing.
use Rattle.std.specs.Prelude.{◌≡◌, List, ltb, eqb, ℤ}
use Prim.Native.Nat.{ℕ, ◌+◌, ◌-◌, ◌/◌, ◌%◌, ◌^◌, ◌<◌}
use Rattle.std.proofs.Common.{arith, ltb-true, to_z}
use mir.Syntax.{w32}
use Rattle.util.specs.Read.{le, cond-elim}
use Rattle.records.specs.declared.answer.Place.{Place}
use Rattle.records.specs.declared.types.TypeDescription.{TypeDescription}
use Rattle.records.specs.declared.types.TypeDescription.TheVariants as type
use Rattle.records.specs.Answer.{value, refused}
use Rattle.records.specs.Layout.{size_of, offset_of, imp_info}
use Rattle.records.specs.Record.{bits_of}
use Rattle.typelib.specs.declared.TypeLib.{TypeLib}
use Rattle.typelib.specs.Header.{type_count}
use Rattle.typelib.specs.Tables.{lent, negative, table_place}
use Rattle.typelib.specs.References.{Resolved, internal_index, imp_file_at, in_this_file, cleared, resolved_at, href_resolved}
use Rattle.typelib.specs.References.{internal as here, external}
use Rattle.typelib.specs.Descriptors.{type_desc_at, array_desc_at, description_of, type_description}
use Rattle.describe.specs.Answers.{IfValue, gives, refuses, told, anything, answers-bind, answers-map, answers-lent}

module _ (s : List ℕ) (lib : TypeLib) where
  -- ---- references

  module _ (P : Resolved → Type 0) (internal : (i : ℕ) → i < type_count lib → P (here i))
      (imported : (p : Place) (offset : ℕ) → value p ≡ table_place s lib 1 offset (size_of imp_info) → P (external p (imp_file_at s lib (le 4 s (p.at + offset_of imp_info "oImpFile"))))) where
    index-case : (h : ℕ) → IfValue (λ i. P (here i)) (internal_index (type_count lib) h)
    unfolding internal_index
    index-case h =
        cond-elim (IfValue (λ i. P (here i))) (ltb (h / 100) (type_count lib)) (value (h / 100)) (refused 9)
        (λ e. gives (internal (h / 100) (ltb-true (h / 100) (type_count lib) e)))
        (λ _. refuses tt)

    at-case : (h : ℕ) → IfValue P (resolved_at s lib h)
    unfolding resolved_at
    at-case h =
        cond-elim (IfValue P) (in_this_file h) _ _
        (λ _. answers-map here (index-case h) (λ i k. k))
        (λ _.
        answers-map (λ p. external p (imp_file_at s lib (le 4 s (p.at + 4))))
        (told {P = λ p. value p ≡ table_place s lib 1 (h - h % 4) 12} (table_place s lib 1 (h - h % 4) 12) (λ p e. e)) (λ p e.
        imported p (h - h % 4) e))

    pub resolved-cases : (h : ℕ) → IfValue P (href_resolved s lib h)
    resolved-cases h =
        answers-lent s _ tt (λ _.
        cond-elim (IfValue P) (negative h) _ _ (λ _. refuses tt) (λ _. at-case (cleared h)))

  -- ---- descriptions: a code has twelve bits

  module _ (P : TypeDescription → Type 0) (base : (code : ℕ) → code < 2 ^ 12 → P (type.Base code)) (pointer : (z : ℤ) → P (type.Pointer z)) (safe_array : (z : ℤ) → P (type.SafeArray z))
      (c_array : (p : Place) (offset : ℕ) → value p ≡ array_desc_at s lib offset → P (type.CArray (record { at = p.at; len = p.len })))
      (userDefined : (z : ℤ) → P (type.UserDefined z)) where
    code-case : (code second : ℕ) → code < 2 ^ 12 → IfValue P (description_of s lib code second)
    unfolding description_of
    code-case code second h =
        cond-elim (IfValue P) (eqb code 26) _ _ (λ _. gives (pointer (to_z w32 second))) (λ _.
        cond-elim (IfValue P) (eqb code 27) _ _ (λ _. gives (safe_array (to_z w32 second))) (λ _.
        cond-elim (IfValue P) (eqb code 28) _ _
        (λ _.
        let offset : ℕ = bits_of 0 16 second in
        answers-map (λ p. type.CArray (record { at = p.at; len = p.len }))
        (told {P = λ p. value p ≡ array_desc_at s lib offset} (array_desc_at s lib offset) (λ p e. e)) (λ p e. c_array p offset e)) (λ _.
        cond-elim (IfValue P) (eqb code 29) _ _ (λ _. gives (userDefined (to_z w32 second))) (λ _. gives (base code h)))))

    pub description-cases : (field : ℕ) → IfValue P (lent s (type_description s lib field))
    unfolding type_description
    description-cases field =
        answers-lent s _ tt (λ _.
        cond-elim (IfValue P) (negative field) _ _
        (λ _. gives (base (bits_of 0 12 field) (omega arith)))
        (λ _. answers-bind (anything (type_desc_at s lib field)) (λ w _.
        code-case (bits_of 0 12 w.first) w.second (omega arith))))
