-- Type descriptors and array descriptors, by their offset in a table: a 32-bit pattern. Assumes nothing.
use Rattle.std.specs.Prelude.{cond, List, [], ◌∷◌, ℕ, ◌+◌, eqb}
use Rattle.std.specs.Int.{w32}
use Rattle.std.proofs.Common.{to_z}
use Rattle.util.specs.Read.{le}
use Rattle.records.specs.declared.answer.Place.{Place}
use Rattle.records.specs.Answer.{Answer, value, map, bind}
use Rattle.records.specs.Counted.{array_desc_size}
use Rattle.records.specs.Layout.{Layout, ◌of◌, size_of, offset_of, width_of, array_desc}
use Rattle.records.specs.Record.{bits_of}
use Rattle.records.specs.Varenum.{VT_PTR, VT_SAFEARRAY, VT_CARRAY, VT_USERDEFINED}
use Rattle.records.specs.declared.types.TypeDescription.{TypeDescription}
use Rattle.records.specs.declared.types.TypeDescription.TheVariants as type
use Rattle.typelib.specs.declared.TypeLib.{TypeLib}
use Rattle.typelib.specs.declared.descriptors.WordPair.{WordPair}
use Rattle.typelib.specs.Tables.{negative, table_place}

-- an entry of the type-descriptor table, segment 9: a code in the low 12 bits of its first word, and what the code asks for
abbrev pub type_descriptor : Layout
type_descriptor = ("code" of 4) ∷ ("extra" of 4) ∷ []

abbrev pub type_desc_at : List ℕ → TypeLib → ℕ → Answer WordPair
type_desc_at s lib offset =
    map (λ p. record { first = le 4 s p.at; second = le 4 s (p.at + width_of type_descriptor "code") })
    (table_place s lib 9 offset (size_of type_descriptor))

-- an array descriptor of segment 10, with the bounds that it counts
abbrev pub array_desc_at : List ℕ → TypeLib → ℕ → Answer Place
array_desc_at s lib offset =
    bind (table_place s lib 10 offset (size_of array_desc)) (λ p.
    table_place s lib 10 offset (array_desc_size (le 2 s (p.at + offset_of array_desc "dimensions"))))

-- ---- what a type field names, one level of it

-- An entry's code, its low 12 bits, says what the second word is: a type field behind a pointer or a safe array, an array
-- descriptor's offset in the low 16 bits of a C array's, an hreftype; any other code is a base type.
unfoldable pub description_of : List ℕ → TypeLib → ℕ → ℕ → Answer TypeDescription
description_of s lib code second =
    cond (eqb code VT_PTR) (value (type.Pointer (to_z w32 second)))
    (cond (eqb code VT_SAFEARRAY) (value (type.SafeArray (to_z w32 second)))
    (cond (eqb code VT_CARRAY) (map (λ p. type.CArray (record { at = p.at; len = p.len })) (array_desc_at s lib (bits_of 0 16 second)))
    (cond (eqb code VT_USERDEFINED) (value (type.UserDefined (to_z w32 second)))
    (value (type.Base code)))))

-- a negative type field is a base type, its code in the low 12 bits; any other is the offset of an entry
unfoldable pub type_description : List ℕ → TypeLib → ℕ → Answer TypeDescription
type_description s lib field =
    cond (negative field) (value (type.Base (bits_of 0 12 field)))
    (bind (type_desc_at s lib field) (λ w. description_of s lib (bits_of 0 12 w.first) w.second))
