-- Trees (document 01, "The sheet (added)"), one description a call of `type_description`. Assumes nothing.
use Rattle.std.specs.Prelude.{List, [], ◌∷◌, ℕ, zero, suc, ◌+◌}
use Rattle.std.specs.Int.{w32}
use Rattle.std.proofs.Common.{of_z}
use Rattle.records.specs.declared.types.TypeDescription.{TypeDescription}
use Rattle.records.specs.declared.types.TypeDescription.TheVariants as type
use Rattle.records.specs.Answer.{Answer, value, refused, map}
use Rattle.records.specs.Layout.{size_of, array_desc, array_bound}
use Rattle.typelib.specs.declared.TypeLib.{TypeLib}
use Rattle.typelib.specs.Tables.{lent}
use Rattle.typelib.specs.Descriptors.{type_description}
use Rattle.description.specs.Description.{Dimension, Tree}
use Rattle.description.specs.Description.Tree.{nothing, base, pointer, safe_array, c_array, reference}
use Rattle.describe.specs.Values.{field_of}
use Rattle.describe.specs.References.{reference_of}

-- n dimensions, the first at `at`
unfoldable pub dimensions_at : List ℕ → ℕ → ℕ → List Dimension
dimensions_at s at zero = []
dimensions_at s at (suc n) =
    record { count = field_of array_bound "cElements" s at; lower_bound = field_of array_bound "lLbound" s at }
    ∷ dimensions_at s (at + size_of array_bound) n

-- The dimensions of the array descriptor at `at`. (A descriptor that does not hold all that it counts is not found, and then
-- the tree is nothing.)
unfoldable pub dimensions_of : List ℕ → ℕ → List Dimension
dimensions_of s at = dimensions_at s (at + size_of array_desc) (field_of array_desc "dimensions" s at)

module _ (s : List ℕ) (lib : TypeLib) where
  -- one description, with the tree under it by `below`
  unfoldable pub tree_from : (ℕ → Answer Tree) → Answer TypeDescription → Answer Tree
  tree_from below (value (type.Base vt)) = value (base vt)
  tree_from below (value (type.Pointer x)) = map pointer (below (of_z w32 x))
  tree_from below (value (type.SafeArray x)) = map safe_array (below (of_z w32 x))
  tree_from below (value (type.CArray d)) = map (c_array (dimensions_of s d.at)) (below (field_of array_desc "element type" s d.at))
  tree_from below (value (type.UserDefined x)) = value (reference (reference_of s lib (of_z w32 x)))
  tree_from below (refused n) = value nothing

  -- the tree of a type field, a 32-bit pattern, that nests at most so many descriptions; more are refusal 11
  unfoldable pub nested_of : ℕ → ℕ → Answer Tree
  nested_of zero field = refused 11
  nested_of (suc k) field = tree_from (nested_of k) (lent s (type_description s lib field))

  -- "A tree nests at most 32 descriptions, the outermost and the base included."
  abbrev pub tree_of : ℕ → Answer Tree
  tree_of field = nested_of 32 field
