-- Types with their bases (document 01, "The sheet (added)"). Assumes nothing.
use Rattle.std.specs.Prelude.{List, [], ◌∷◌, ℕ, zero, suc, ◌+◌}
use mathlib.Core.List as list
use Rattle.records.specs.declared.answer.Place.{Place}
use Rattle.records.specs.declared.typeinfo.TypeInfoEntry.{TypeInfoEntry}
use Rattle.records.specs.Answer.{Answer, value, map, bind}
use Rattle.records.specs.Layout.{type_info_base, ref_record}
use Rattle.records.specs.Record.{bits_of}
use Rattle.typelib.specs.declared.TypeLib.{TypeLib}
use Rattle.impltypes.specs.Chain.{impl_types_of, records_of}
use Rattle.typelib.specs.TypeInfos.{typeinfo_of}
use Rattle.description.specs.Description.{Function, Variable, ImplType, BaseShape, base_shape_of, Base, TypeInfo}
use Rattle.description.specs.Description.BaseShape.{absent, parent, impl_types, aliased}
use Rattle.describe.specs.Values.{field_of, all}
use Rattle.describe.specs.References.{guid_of, reference_of}
use Rattle.describe.specs.Trees.{tree_of}
use Rattle.describe.specs.Members.{name_of, functions_of, variables_of}

-- "low four bits of 0x00"
abbrev pub kind_at : List ℕ → ℕ → ℕ
kind_at s at = bits_of 0 4 (field_of type_info_base "typekind" s at)

module _ (s : List ℕ) (lib : TypeLib) where
  -- ---- the base

  -- "for each record a reference (0x00) and u32 at 0x04"
  abbrev pub impl_type_at : Place → ImplType
  impl_type_at p = record { reftype = reference_of s lib (field_of ref_record "reftype" s p.at); flags = field_of ref_record "flags" s p.at }

  -- the chain that the full walk takes; 10 where it comes round
  unfoldable pub impl_types_at : TypeInfoEntry → Answer (List ImplType)
  impl_types_at ti = bind (impl_types_of s lib ti) (λ c. map (list.map impl_type_at) (records_of s c))

  abbrev pub base_of : TypeInfoEntry → (h : BaseShape) → Answer (Base h)
  base_of ti absent = value tt
  base_of ti parent = value (reference_of s lib (field_of type_info_base "datatype1" s ti.at))
  base_of ti impl_types = impl_types_at ti
  base_of ti aliased = tree_of s lib (field_of type_info_base "datatype1" s ti.at)

  -- ---- the type

  abbrev pub type_with : (at : ℕ) → Base (base_shape_of (kind_at s at)) → List Function → List Variable → TypeInfo
  type_with at under functions variables =
      record {
        kind = kind_at s at;
        flags = field_of type_info_base "flags" s at;
        version = field_of type_info_base "version" s at;
        guid = guid_of s lib (field_of type_info_base "posguid" s at);
        name = name_of s lib (field_of type_info_base "NameOffset" s at);
        declared_functions = bits_of 0 16 (field_of type_info_base "cElement" s at);
        declared_variables = bits_of 16 16 (field_of type_info_base "cElement" s at);
        base = under;
        functions = functions;
        variables = variables;
      }

  -- the base, the functions and the variables are looked at in this order
  unfoldable pub type_at : TypeInfoEntry → Answer TypeInfo
  type_at ti =
      bind (base_of ti (base_shape_of (kind_at s ti.at))) (λ under.
      bind (all (functions_of s lib ti)) (λ functions.
      map (type_with ti.at under functions) (all (variables_of s lib ti))))

  -- type i, or 6, 7, 8
  unfoldable pub type_of : ℕ → Answer TypeInfo
  type_of i = bind (typeinfo_of s lib i) (λ p. type_at (record { at = p.at; len = p.len }))

  -- n types from type i on
  unfoldable pub types_from : ℕ → ℕ → List (Answer TypeInfo)
  types_from zero i = []
  types_from (suc n) i = type_of i ∷ types_from n (i + 1)
