-- Names, strings and GUIDs, by their offset in a table: a 32-bit pattern. Assumes nothing.
use Rattle.std.specs.Prelude.{List, [], ◌∷◌, ℕ, ◌+◌}
use Rattle.std.specs.Int.{w32}
use Rattle.std.proofs.Common.{of_z}
use Rattle.util.specs.Read.{le}
use Rattle.records.specs.declared.answer.Place.{Place}
use Rattle.records.specs.Answer.{Answer, map, bind}
use Rattle.records.specs.Counted.{text_of}
use Rattle.records.specs.Record.{record_place, signed32}
use Rattle.records.specs.Layout.{Layout, ◌of◌, size_of, offset_of, guid}
use Rattle.typelib.specs.declared.TypeLib.{TypeLib}
use Rattle.typelib.specs.Header.{header_field}
use Rattle.typelib.specs.Tables.{lent, segment_of, table_place}

-- MSFT_NameIntro, before a name. Wine has three words: `hreftype`, `next_hash` and `namelen`, of which "only lower 8 bits are valid"
-- as the length; it names flags in the 8 bits above these. That `flags` is a byte, and `hashcode` the upper half of the word, is the
-- Rust's (name.rs).
abbrev pub name_intro : Layout
name_intro = ("hreftype" of 4) ∷ ("next_hash" of 4) ∷ ("namelen" of 1) ∷ ("flags" of 1) ∷ ("hashcode" of 2) ∷ []

-- the n bytes behind the first `head` at an offset of segment k
abbrev pub place_behind : List ℕ → TypeLib → ℕ → ℕ → ℕ → ℕ → Answer Place
place_behind s lib k offset head n = map (λ p. record { at = p.at + head; len = n }) (table_place s lib k offset (head + n))

-- a name of n bytes stands behind its intro
abbrev pub name_behind : List ℕ → TypeLib → ℕ → ℕ → Answer Place
name_behind s lib offset n = place_behind s lib 7 offset (size_of name_intro) n

-- the bytes of a name, in segment 7
abbrev pub name_bytes : List ℕ → TypeLib → ℕ → Answer Place
name_bytes s lib offset =
    bind (table_place s lib 7 offset (size_of name_intro)) (λ intro.
    name_behind s lib offset (le 1 s (intro.at + offset_of name_intro "namelen")))

-- the same, where they are text in UTF-8
abbrev pub name_text : List ℕ → TypeLib → ℕ → Answer Place
name_text s lib offset = text_of s (name_bytes s lib offset)

-- a string of segment 8: two bytes of length, and the text
abbrev pub string_behind : List ℕ → TypeLib → ℕ → ℕ → Answer Place
string_behind s lib offset n = place_behind s lib 8 offset 2 n

abbrev pub string_bytes : List ℕ → TypeLib → ℕ → Answer Place
string_bytes s lib offset = bind (table_place s lib 8 offset 2) (λ p. string_behind s lib offset (le 2 s p.at))

abbrev pub string_text : List ℕ → TypeLib → ℕ → Answer Place
string_text s lib offset = text_of s (string_bytes s lib offset)

-- a GUID of segment 5, at any offset
abbrev pub guid_place : List ℕ → TypeLib → ℕ → Answer Place
guid_place s lib offset = table_place s lib 5 offset (size_of guid)

-- ---- a segment's bytes

abbrev pub segment_bytes : List ℕ → TypeLib → ℕ → Answer Place
segment_bytes s lib k = lent s (bind (segment_of lib k) (λ p. record_place 0 s p.at p.len))

-- ---- the library's own name, GUID and help string, by their offsets in the header

abbrev pub lib_name : List ℕ → TypeLib → Answer Place
lib_name s lib = bind (signed32 (header_field "NameOffset" s)) (λ offset. name_text s lib (of_z w32 offset))

abbrev pub lib_guid : List ℕ → TypeLib → Answer Place
lib_guid s lib = bind (signed32 (header_field "posguid" s)) (λ offset. guid_place s lib (of_z w32 offset))

abbrev pub lib_helpstring : List ℕ → TypeLib → Answer Place
lib_helpstring s lib = bind (signed32 (header_field "helpstring" s)) (λ offset. string_text s lib (of_z w32 offset))
