-- Document 01, "Edges": the sheet of the library of 324 bytes, all zero but for the magic. Assumes nothing.
use Rattle.std.specs.Prelude.{◌≡◌, refl, [], ◌∷◌, None}
use Rattle.description.specs.Format.{le_bytes, opt}
use Rattle.description.specs.Description.{Library}
use Rattle.description.specs.Sheet.{edition-one, sheet_bytes, sheet_layout, contents, contents_of, bodies, header}

-- no types, two words of zero, no GUID, no name
abbrev pub smallest : Library
smallest = record { header = record { lcid = 0; version = 0; guid = None; name = None }; types = [] }

-- "000000000a00000000000000000000000000: type count, body length 10, two words, no GUID, no name"
pub smallest-sheet : sheet_bytes edition-one smallest
    ≡ 0x00 ∷ 0x00 ∷ 0x00 ∷ 0x00
    ∷ 0x0a ∷ 0x00 ∷ 0x00 ∷ 0x00
    ∷ 0x00 ∷ 0x00 ∷ 0x00 ∷ 0x00
    ∷ 0x00 ∷ 0x00 ∷ 0x00 ∷ 0x00
    ∷ 0x00
    ∷ 0x00
    ∷ []
unfolding sheet_bytes sheet_layout contents contents_of bodies header opt le_bytes
smallest-sheet = refl
