-- Types that are taken from bytes fit the sheet. Assumes nothing.
use Rattle.std.specs.Prelude.{◌≡◌, refl, List, [], ◌∷◌, length}
use Rattle.std.proofs.Common.{ap}
use mathlib.Core.List as list
use Prim.Native.Nat.{ℕ, zero, suc, ◌+◌, ◌^◌, ◌≤◌, ◌<◌}
use native.Mathlib.Omega.{arith}
use Rattle.std.proofs.lemmas.List.{length-map}
use Rattle.records.specs.declared.answer.Place.{Place}
use Rattle.records.specs.declared.typeinfo.TypeInfoEntry.{TypeInfoEntry}
use Rattle.records.specs.Layout.{type_info_base, ref_record}
use Rattle.typelib.specs.declared.TypeLib.{TypeLib}
use Rattle.typelib.specs.Header.{type_count}
use Rattle.impltypes.specs.Chain.{ChainAt, over_impl_types, impl_types_of, records_from}
use Rattle.impltypes.specs.ChainLaws.{records-length, walk-took, walk-most}
use Rattle.typelib.specs.TypeInfos.{typeinfo_of}
use Rattle.description.specs.Format.{Fits, Each}
use Rattle.description.specs.Format as format
use Rattle.description.specs.Description.{BaseShape, base_shape_of}
use Rattle.description.specs.Description.BaseShape.{absent, parent, impl_types, aliased}
use Rattle.description.specs.Sheet.{Edition, u32, impl_type, base, type_info}
use Rattle.description.specs.Fit.{list-fits}
use Rattle.describe.specs.Values.{Octets, field_of}
use Rattle.describe.specs.Types.{impl_type_at, impl_types_at, base_of, kind_at, type_with, type_at, type_of, types_from}
use Rattle.describe.specs.FieldLaws.{field_lt}
use Rattle.describe.specs.Answers.{IfValue, gives, told, anything, answers-bind, answers-map}
use Rattle.describe.specs.FitValues.{guid-fits, name-fits}
use Rattle.describe.specs.FitReferences.{reference-fits}
use Rattle.describe.specs.FitTrees.{tree-fits}
use Rattle.describe.specs.FitMembers.{functions-fit, variables-fit}

each_map : {A B : Type 0} (P : B → Type 0) (f : A → B) → ((a : A) → P (f a)) → (xs : List A) → Each P (list.map f xs)
each_map P f h [] = tt
each_map P f h (x ∷ xs) = (h x, each_map P f h xs)

-- the walk's records are fewer than four bytes count
chain-short : (s : List ℕ) (c : ChainAt) → IfValue (λ ps. length ps < 256 ^ 4) (records_from s c)
chain-short s c =
    told (records_from s c) (λ ps e.
    let w = records-length s c ps e in
    omega (arith, walk-most s c (length ps) w, ((walk-took s c (length ps)).0 w).0))

pub types-length : (s : List ℕ) (lib : TypeLib) (k i : ℕ) → length (types_from s lib k i) ≡ k
unfolding types_from
types-length s lib zero i = refl
types-length s lib (suc k) i = ap suc (types-length s lib k (i + 1))

module _ (s : List ℕ) (octets : Octets s) (lib : TypeLib) (e : Edition) (room : type_count lib ≤ 256 ^ e.index_width) where
  abbrev n : ℕ
  n = type_count lib

  -- ---- the base

  impl_type-fits : (p : Place) → Fits (impl_type e n) (impl_type_at s lib p)
  unfolding impl_type
  impl_type-fits p = (
    reference-fits s octets lib e room (field_of ref_record "reftype" s p.at),
    field_lt s octets ref_record "flags" p.at,
  )

  impl_types-fit : (ti : TypeInfoEntry) → IfValue (Fits (format.list u32 (impl_type e n))) (impl_types_at s lib ti)
  unfolding impl_types_at
  impl_types-fit ti =
      answers-bind (anything (impl_types_of s lib ti)) (λ c _.
      answers-map (list.map (impl_type_at s lib)) (chain-short s (over_impl_types.stands c)) (λ ps h.
      list-fits (impl_type e n) u32 (list.map (impl_type_at s lib) ps)
      (rw (length-map ps (impl_type_at s lib)) h) (each_map (Fits (impl_type e n)) (impl_type_at s lib) impl_type-fits ps)))

  base-fits : (ti : TypeInfoEntry) (h : BaseShape) → IfValue (Fits (base e n h)) (base_of s lib ti h)
  base-fits ti absent = gives tt
  base-fits ti parent = gives (reference-fits s octets lib e room (field_of type_info_base "datatype1" s ti.at))
  base-fits ti impl_types = impl_types-fit ti
  base-fits ti aliased = tree-fits s octets lib e room (field_of type_info_base "datatype1" s ti.at)

  -- ---- the type

  at-fits : (ti : TypeInfoEntry) → IfValue (Fits (type_info e n)) (type_at s lib ti)
  unfolding type_at type_info
  at-fits ti =
      let at : ℕ = ti.at in
      answers-bind (base-fits ti (base_shape_of (kind_at s at))) (λ under b.
      answers-bind (functions-fit s octets lib e room ti) (λ functions f.
      answers-map (type_with s lib at under functions) (variables-fit s octets lib e room ti) (λ variables v. (
        (omega arith, omega arith),
        (
          field_lt s octets type_info_base "flags" at,
          (
            field_lt s octets type_info_base "version" at,
            (
              guid-fits s octets lib (field_of type_info_base "posguid" s at),
              (name-fits s octets lib (field_of type_info_base "NameOffset" s at), (omega arith, (omega arith, (b, (f, v))))),
            ),
          ),
        ),
      ))))

  type-fits : (i : ℕ) → IfValue (Fits (type_info e n)) (type_of s lib i)
  unfolding type_of
  type-fits i = answers-bind (anything (typeinfo_of s lib i)) (λ p _. at-fits (record { at = p.at; len = p.len }))

  pub types-fit : (k i : ℕ) → Each (IfValue (Fits (type_info e n))) (types_from s lib k i)
  unfolding types_from
  types-fit zero i = tt
  types-fit (suc k) i = (type-fits i, types-fit k (i + 1))
