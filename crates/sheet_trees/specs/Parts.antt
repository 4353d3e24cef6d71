-- The bytes of the parts that a record's numbers name, as the emitters write them. `PartLaws` and `TreeLaws` (of proofs/) prove that
-- they are those of the formats of `description`. Assumes nothing.
use Rattle.std.specs.Prelude.{◌≡◌, Bool, List, [], ◌∷◌, ◌++◌, ℕ, ◌+◌, length, Option, Some, None}
use Rattle.std.specs.Int.{w32}
use Rattle.std.proofs.Common.{of_z}
use Rattle.records.specs.declared.answer.Place.{Place}
use Rattle.records.specs.declared.types.TypeDescription.{TypeDescription}
use Rattle.records.specs.declared.types.TypeDescription.TheVariants as type
use Rattle.records.specs.Answer.{Answer, value, refused, map}
use Rattle.records.specs.Layout.{size_of, array_desc}
use Rattle.records.specs.Record.{bits_of}
use Rattle.typelib.specs.declared.TypeLib.{TypeLib}
use Rattle.typelib.specs.Header.{type_count}
use Rattle.typelib.specs.Tables.{lent}
use Rattle.typelib.specs.References.{internal_index}
use Rattle.description.specs.Format.{encode, opt, joined, le_bytes}
use Rattle.description.specs.Description.{Bytes, Own, Import, Reference}
use Rattle.description.specs.Description.Reference.{imported}
use Rattle.description.specs.Sheet.{edition-one, own, file, dimension, reference}
use Rattle.describe.specs.Values.{found, bytes_in, field_of}
use Rattle.describe.specs.References.{file_with, reference_of}
use Rattle.describe.specs.Trees.{dimensions_at}
use Rattle.emit.specs.Emit.{Put, Emitted}

-- byte 0, or byte 1 and the bytes behind their count in w bytes
unfoldable pub opt_part : ℕ → Option Bytes → Bytes
opt_part w None = 0 ∷ []
opt_part w (Some bs) = 1 ∷ (le_bytes w (length bs) ++ bs)

-- ---- references

unfoldable pub reference_bytes : TypeLib → Reference → Bytes
reference_bytes lib r = encode (reference edition-one (type_count lib)) r

unfoldable pub internal_bytes : ℕ → ℕ → Bytes
internal_bytes bit index = 1 ∷ (le_bytes 1 bit ++ le_bytes 2 index)

-- an offset where no typeinfo is
unfoldable pub misplaced_bytes : ℕ → ℕ → Bytes
misplaced_bytes bit offset = 3 ∷ (le_bytes 1 bit ++ le_bytes 4 offset)

-- a typeinfo of this library, or nothing
abbrev pub index_bytes : ℕ → Answer ℕ → Bytes
index_bytes bit (value index) = internal_bytes bit index
index_bytes bit (refused n) = 0 ∷ []

-- the typeinfo at a byte offset, of a library of `count`
unfoldable pub here_bytes : List ℕ → ℕ → ℕ → ℕ → Bytes
here_bytes s count bit offset = index_bytes bit (lent s (internal_index count offset))

unfoldable pub own_bytes : (b : Bool) → Own b → Bytes
own_bytes b x = encode (own b) x

-- an import file whose name is at a place
unfoldable pub file_bytes : List ℕ → TypeLib → ℕ → Answer Place → Bytes
file_bytes s lib at name = encode (opt file) (found (map (file_with s lib at) (bytes_in s name)))

-- an import does not depend on the count of types
unfoldable pub import_bytes : Import → Bytes
import_bytes r = encode (reference edition-one 0) (imported r)

-- ---- trees

-- a base type, or nothing
abbrev pub base_bytes : Answer ℕ → Bytes
base_bytes (value code) = 1 ∷ le_bytes 2 code
base_bytes (refused n) = 0 ∷ []

-- a negative type field, which is a base type: its code is the low 12 bits
unfoldable pub inline_bytes : List ℕ → ℕ → Bytes
inline_bytes s field = base_bytes (lent s (value (bits_of 0 12 field)))

unfoldable pub dimensions_bytes : List ℕ → ℕ → ℕ → Bytes
dimensions_bytes s at n = joined dimension (dimensions_at s at n)

unfoldable pub array_bytes : List ℕ → ℕ → Bytes
array_bytes s at =
    4
    ∷ (le_bytes 2 (field_of array_desc "dimensions" s at)
    ++ dimensions_bytes s (at + size_of array_desc) (field_of array_desc "dimensions" s at))

-- a description without the tree under it
unfoldable pub head_bytes : List ℕ → TypeLib → Answer TypeDescription → Bytes
head_bytes s lib (value (type.Base vt)) = 1 ∷ le_bytes 2 vt
head_bytes s lib (value (type.Pointer x)) = 2 ∷ []
head_bytes s lib (value (type.SafeArray x)) = 3 ∷ []
head_bytes s lib (value (type.CArray d)) = array_bytes s d.at
head_bytes s lib (value (type.UserDefined x)) = 5 ∷ encode (reference edition-one (type_count lib)) (reference_of s lib (of_z w32 x))
head_bytes s lib (refused n) = 0 ∷ []

-- the type field of the tree under it
unfoldable pub inner_of : List ℕ → Answer TypeDescription → Option ℕ
inner_of s (value (type.Base vt)) = None
inner_of s (value (type.Pointer x)) = Some (of_z w32 x)
inner_of s (value (type.SafeArray x)) = Some (of_z w32 x)
inner_of s (value (type.CArray d)) = Some (field_of array_desc "element type" s d.at)
inner_of s (value (type.UserDefined x)) = None
inner_of s (refused n) = None

-- a C array whose descriptor was found
abbrev pub array_of : Answer Place → Answer TypeDescription
array_of = map (λ p. type.CArray (record { at = p.at; len = p.len }))

-- one description of a tree: its bytes are emitted, and i is what is under it
abbrev pub Levelled : List ℕ → TypeLib → Answer TypeDescription → Put → List ℕ → Put → List ℕ → Option ℕ → Type 0
Levelled s lib a t o u o' i = Emitted (value (head_bytes s lib a)) t o u o' × (i ≡ inner_of s a)
