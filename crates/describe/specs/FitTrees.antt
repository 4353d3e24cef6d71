-- Trees that are taken from bytes fit the sheet. Assumes nothing.
use Rattle.std.specs.Prelude.{◌≡◌, refl, List, length}
use Rattle.std.proofs.Common.{ap, arith, of_z}
use Prim.Native.Nat.{ℕ, zero, suc, ◌+◌, ◌^◌, ◌≤◌, ◌<◌}
use mir.Syntax.{w32}
use Rattle.records.specs.declared.types.TypeDescription.{TypeDescription}
use Rattle.records.specs.declared.types.TypeDescription.TheVariants as type
use Rattle.records.specs.Answer.{Answer, value, refused}
use Rattle.records.specs.Layout.{size_of, array_desc, array_bound}
use Rattle.typelib.specs.declared.TypeLib.{TypeLib}
use Rattle.typelib.specs.Header.{type_count}
use Rattle.typelib.specs.Tables.{lent}
use Rattle.typelib.specs.Descriptors.{type_description}
use Rattle.description.specs.Format.{Fits, Each, list}
use Rattle.description.specs.Description.{Tree}
use Rattle.description.specs.Description.Tree.{pointer, safe_array, c_array}
use Rattle.description.specs.Sheet.{Edition, u16, dimension, nested, tree}
use Rattle.description.specs.Fit.{list-fits, nothing-fits, base-fits, pointer-fits, safe_array-fits, c_array-fits}
use Rattle.description.specs.Fit.{reference-fits as leaf-fits}
use Rattle.describe.specs.Values.{Octets, field_of}
use Rattle.describe.specs.References.{reference_of}
use Rattle.describe.specs.Trees.{dimensions_at, dimensions_of, tree_from, nested_of, tree_of}
use Rattle.describe.specs.FieldLaws.{field_lt}
use Rattle.describe.specs.Answers.{IfValue, gives, refuses, answers-map, answers-value}
use Rattle.describe.specs.Cases.{description-cases}
use Rattle.describe.specs.FitReferences.{reference-fits}

-- ---- dimensions

dimensions-length : (s : List ℕ) (at n : ℕ) → length (dimensions_at s at n) ≡ n
unfolding dimensions_at
dimensions-length s at zero = refl
dimensions-length s at (suc n) = ap suc (dimensions-length s (at + size_of array_bound) n)

module _ (s : List ℕ) (octets : Octets s) where
  dimensions-each : (at n : ℕ) → Each (Fits dimension) (dimensions_at s at n)
  unfolding dimensions_at dimension
  dimensions-each at zero = tt
  dimensions-each at (suc n) = (
    (field_lt s octets array_bound "cElements" at, field_lt s octets array_bound "lLbound" at),
    dimensions-each (at + size_of array_bound) n,
  )

  dimensions-fit : (at : ℕ) → Fits (list u16 dimension) (dimensions_of s at)
  unfolding dimensions_of
  dimensions-fit at =
      let n : ℕ = field_of array_desc "dimensions" s at in
      let start : ℕ = at + size_of array_desc in
      list-fits dimension u16 (dimensions_at s start n)
      (rw (dimensions-length s start n) (field_lt s octets array_desc "dimensions" at))
      (dimensions-each start n)

  -- ---- one description

  module _ (lib : TypeLib) where
    -- two bytes hold the code of a base type
    abbrev Small : TypeDescription → Type 0
    Small (type.Base vt) = vt < 256 ^ 2
    Small (type.Pointer x) = Unit {0}
    Small (type.SafeArray x) = Unit {0}
    Small (type.CArray d) = Unit {0}
    Small (type.UserDefined x) = Unit {0}

    field-small : (field : ℕ) → IfValue Small (lent s (type_description s lib field))
    field-small = description-cases s lib Small (λ code h. omega arith) (λ _. tt) (λ _. tt) (λ _ _ _. tt) (λ _. tt)

    module _ (e : Edition) (room : type_count lib ≤ 256 ^ e.index_width) where
      abbrev n : ℕ
      n = type_count lib

      from-fits : (k : ℕ) (below : ℕ → Answer Tree) → ((x : ℕ) → IfValue (Fits (nested e n k)) (below x))
          → (a : Answer TypeDescription) → IfValue Small a → IfValue (Fits (nested e n (suc k))) (tree_from s lib below a)
      unfolding tree_from
      from-fits k below h (value (type.Base vt)) i = gives (base-fits e n k vt (answers-value i refl))
      from-fits k below h (value (type.Pointer x)) i = answers-map pointer (h (of_z w32 x)) (pointer-fits e n k)
      from-fits k below h (value (type.SafeArray x)) i = answers-map safe_array (h (of_z w32 x)) (safe_array-fits e n k)
      from-fits k below h (value (type.CArray d)) i =
          answers-map (c_array (dimensions_of s d.at)) (h (field_of array_desc "element type" s d.at)) (λ t f.
          c_array-fits e n k (dimensions_of s d.at) t (dimensions-fit d.at) f)
      from-fits k below h (value (type.UserDefined x)) i =
          gives (leaf-fits e n k (reference_of s lib (of_z w32 x)) (reference-fits s octets lib e room (of_z w32 x)))
      from-fits k below h (refused m) i = gives (nothing-fits e n k)

      nested-fits : (k x : ℕ) → IfValue (Fits (nested e n k)) (nested_of s lib k x)
      unfolding nested_of
      nested-fits zero x = refuses tt
      nested-fits (suc k) x = from-fits k (nested_of s lib k) (nested-fits k) (lent s (type_description s lib x)) (field-small x)

      pub tree-fits : (x : ℕ) → IfValue (Fits (tree e n)) (tree_of s lib x)
      unfolding tree
      tree-fits x = nested-fits 32 x
