-- Where a reading of a table ends (document 02, §2), by worked cases as rows of one list: "for a fixed part as for a counted one".
use Rattle.std.specs.Prelude.{◌≡◌, refl, List, [], ◌∷◌, map, ℕ, ◌+◌, ◌*◌, ◌/◌, ◌%◌, set}
use Rattle.util.specs.Read.{le, read}
use Rattle.records.specs.declared.types.ConstValue.TheVariants as const
use Rattle.records.specs.Answer.{value, refused}
use Rattle.typelib.specs.declared.TypeLib.{TypeLib}
use Rattle.typelib.specs.Header.{library_of}
use Rattle.typelib.specs.Tabulate.{tabulate}
use Rattle.typelib.specs.Tables.{lent, segment_place, segment_of, place_in}
use Rattle.typelib.specs.Names.{name_bytes, string_bytes, guid_place}
use Rattle.typelib.specs.Descriptors.{array_desc_at}
use Rattle.typelib.specs.References.{imp_file_at}
use Rattle.typelib.specs.TypeInfos.{offset_word, typeinfo_in, typeinfo_of}
use Rattle.constants.specs.Constants.{stored_width, text_behind, value_at, const_at}
use Rattle.describe.specs.WorkedCases.{Reply, constant, lies, Row, ◌gives◌, zeros}

-- a number below 65,536 in the two bytes at `at`
abbrev pub stored : ℕ → ℕ → List ℕ → List ℕ
stored x at s = set (set s at (x % 256)) (at + 1) (x / 256)

-- the smallest library without types of so many bytes, with segment k of `size` bytes behind its directory, at 324
abbrev pub with_table : ℕ → ℕ → ℕ → List ℕ
with_table k bytes size = stored size (88 + 16 * k) (stored 324 (84 + 16 * k) (zeros bytes))

-- what a reading finds in such a library at an offset of the table
abbrev pub reading : {A : Type 0} → (List ℕ → TypeLib → ℕ → A) → List ℕ → ℕ → A
reading f s offset = f s (library_of s) offset

-- the smallest library of one type, with segment 0 behind its directory, at 328, and the typeinfo at an offset of it
abbrev pub typeinfo_at : ℕ → ℕ → ℕ → Reply
typeinfo_at bytes size offset =
    let s = stored size 92 (stored 328 88 (stored offset 84 (set (zeros bytes) 32 1))) in
    lies (typeinfo_of s (library_of s) 0)

abbrev pub guid_at : ℕ → ℕ → ℕ → Reply
guid_at bytes size offset = lies (reading guid_place (with_table 5 bytes size) offset)

-- at the start of a table of that size: a name and a string of 5 bytes, an import file with a name of 5, an array descriptor of one
-- dimension, a stored text of 5
abbrev pub name_in : ℕ → Reply
name_in size = lies (reading name_bytes (stored 5 332 (with_table 7 400 size)) 0)

abbrev pub string_in : ℕ → Reply
string_in size = lies (reading string_bytes (stored 5 324 (with_table 8 400 size)) 0)

abbrev pub import_file_in : ℕ → Reply
import_file_in size = lies (reading imp_file_at (stored (4 * 5) 336 (with_table 2 400 size)) 0)

abbrev pub array_in : ℕ → Reply
array_in size = lies (reading array_desc_at (stored 1 328 (with_table 10 400 size)) 0)

abbrev pub text_in : ℕ → Reply
text_in size = constant (reading const_at (stored 5 326 (stored 8 324 (with_table 11 400 size))) 0)

abbrev pub rows : List Row
rows =
    (guid_at 340 16 0 gives lies (value (record { at = 324; len = 16 })))  -- ends with its table and with the file
    ∷ (guid_at 372 16 0 gives lies (value (record { at = 324; len = 16 })))  -- ends with its table
    ∷ (guid_at 372 32 16 gives lies (value (record { at = 340; len = 16 })))
    ∷ (guid_at 372 15 0 gives lies (refused 9))  -- a byte past its table
    ∷ (guid_at 372 16 1 gives lies (refused 9))
    ∷ (guid_at 372 16 16 gives lies (refused 9))  -- at the table's very end
    ∷ (guid_at 340 48 0 gives lies (value (record { at = 324; len = 16 })))  -- the table passes the file's end, the GUID does not
    ∷ (guid_at 340 48 1 gives lies (refused 9))  -- a byte past the file's end
    ∷ (guid_at 372 1 0 gives lies (refused 9))  -- a table of one byte
    ∷ (guid_at 372 0 0 gives lies (refused 9))  -- no table
    ∷ (typeinfo_at 428 100 0 gives lies (value (record { at = 328; len = 100 })))
    ∷ (typeinfo_at 528 100 0 gives lies (value (record { at = 328; len = 100 })))
    ∷ (typeinfo_at 528 99 0 gives lies (refused 8))
    ∷ (typeinfo_at 528 100 1 gives lies (refused 8))
    ∷ (typeinfo_at 428 200 0 gives lies (value (record { at = 328; len = 100 })))
    ∷ (typeinfo_at 427 200 0 gives lies (refused 8))
    ∷ (typeinfo_at 528 1 0 gives lies (refused 8))
    ∷ (typeinfo_at 528 0 0 gives lies (refused 7))
    ∷ (name_in 17 gives lies (value (record { at = 336; len = 5 })))  -- 12 bytes of intro and 5
    ∷ (name_in 16 gives lies (refused 9))
    ∷ (string_in 7 gives lies (value (record { at = 326; len = 5 })))  -- 2 and 5
    ∷ (string_in 6 gives lies (refused 9))
    ∷ (import_file_in 20 gives lies (value (record { at = 324; len = 20 })))  -- 14 and 5, padded to four
    ∷ (import_file_in 19 gives lies (refused 9))
    ∷ (array_in 16 gives lies (value (record { at = 324; len = 16 })))  -- 8 and 8
    ∷ (array_in 15 gives lies (refused 9))
    ∷ (text_in 11 gives constant (value (const.Bstr (record { at = 330; len = 5 }))))  -- 2 of code, 4 of length and 5
    ∷ (text_in 10 gives constant (refused 9))
    ∷ []

pub ends : map (λ (r : Row). r.defined) rows ≡ map (λ (r : Row). r.said) rows
unfolding le read library_of tabulate lent segment_of segment_place place_in offset_word typeinfo_in stored_width text_behind value_at
ends = refl
