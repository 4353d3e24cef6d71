-- One description of a tree, and a tree below its end. There a place and whether a reference was counted are one number: the place, and
-- 2^32 more behind a reference. Assumes nothing.
use Rattle.std.specs.Prelude.{◌≡◌, List, ℕ, ◌+◌, ◌*◌, ◌/◌, ◌%◌, ◌^◌, length, Option, Some}
use Rattle.records.specs.declared.types.TypeDescription.{TypeDescription}
use Rattle.records.specs.declared.types.TypeDescription.TheVariants as type
use Rattle.records.specs.Answer.{Answer, value, refused}
use Rattle.records.specs.Record.{bits_of}
use Rattle.typelib.specs.declared.TypeLib.{TypeLib}
use Rattle.typelib.specs.Tables.{lent}
use Rattle.typelib.specs.Descriptors.{description_of, type_description}
use Rattle.emit.specs.Emit.{advance}
use Rattle.sheet_trees.specs.declared.trees.Level.{Level}
use Rattle.sheet_trees.specs.Emitted.{user_bytes}
use Rattle.sheet_trees.specs.Parts.{head_bytes, inner_of}
use Rattle.sheet_sizes.specs.Counted.{nested_counted}
use Rattle.sheet_sizes.specs.Counts.{Ending, ends, figures, ◌⊕◌}

-- how many references one description is
abbrev pub own_references : Answer TypeDescription → ℕ
own_references (value (type.Base vt)) = 0
own_references (value (type.Pointer x)) = 0
own_references (value (type.SafeArray x)) = 0
own_references (value (type.CArray d)) = 0
own_references (value (type.UserDefined x)) = 1
own_references (refused n) = 0

module _ (s : List ℕ) (lib : TypeLib) where
  -- ONE DESCRIPTION: where it ends, with its reference, and what is under it
  pub record LevelCounted (a : Answer TypeDescription) (to : ℕ) (r : Level) : Type 0 where
    pub ends : r.to ≡ advance to (length (head_bytes s lib a)) + 2 ^ 32 * own_references a
    pub under : r.inner ≡ inner_of s a

  -- by a type field, or by the words of a type descriptor
  abbrev pub FieldCounted : ℕ → ℕ → Level → Type 0
  FieldCounted field = LevelCounted (lent s (type_description s lib field))

  abbrev pub DescriptorCounted : ℕ → ℕ → ℕ → Level → Type 0
  DescriptorCounted first second = LevelCounted (description_of s lib (bits_of 0 12 first) second)

  -- a reference behind its code byte
  abbrev pub UserCounted : ℕ → ℕ → ℕ → Type 0
  UserCounted href to r = r ≡ advance to (length (user_bytes s lib href))

  -- A TREE of at most so many descriptions: where it ends, with its reference, whatever was counted before
  pub record NestedCounted (levels field to r : ℕ) : Type 0 where
    pub is : (n : ℕ) → Ending (nested_counted s lib levels field) (ends to n) (ends (r % 2 ^ 32) (advance n (r / 2 ^ 32)))

  -- A field i stands under k pointers or safe arrays, one in the other. Of nothing, nothing is said.
  pub record Under (k field : ℕ) (i : Option ℕ) : Type 0 where
    pub is : (below n : ℕ) → i ≡ Some below → nested_counted s lib (k + n) field ≡ value (figures k 0 0 0 0) ⊕ nested_counted s lib n below
