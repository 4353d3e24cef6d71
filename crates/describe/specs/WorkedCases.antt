-- The worked cases of document 01 that are to be proved, and a library beside other bytes than those it was parsed from, as rows
-- of one list.
use Rattle.std.specs.Prelude.{◌≡◌, refl, List, [], ◌∷◌, map, ℕ, ◌-◌, pos, negsuc, replicate, set, take}
use Rattle.util.specs.Read.{le, read}
use Rattle.records.specs.declared.types.ConstValue.{ConstValue}
use Rattle.records.specs.declared.types.ConstValue.TheVariants as const
use Rattle.records.specs.declared.answer.Place.{Place}
use Rattle.records.specs.Answer.{Answer, value, refused}
use Rattle.typelib.specs.Header.{parse_of, parsed, library_of}
use Rattle.typelib.specs.Tabulate.{tabulate}
use Rattle.typelib.specs.Tables.{lent, segment_place, segment_of, place_in}
use Rattle.typelib.specs.Names.{guid_place}
use Rattle.typelib.specs.TypeInfos.{offset_word, typeinfo_in, typeinfo_of}
use Rattle.typelib.specs.References.{Resolved, internal, internal_index, resolved_at, href_resolved}
use Rattle.constants.specs.Constants.{constant_of, inline_code, const_at}

-- what a case is about: the number that `parse` replies, what `const_value` answers, what `resolve_hreftype_full` answers, where a
-- record lies
pub data Reply : Type 0 where
  parse : ℕ → Reply
  constant : Answer ConstValue → Reply
  reference : Answer Resolved → Reply
  lies : Answer Place → Reply

-- what the definitions give, and what document 01 says
infix 20 ◌gives◌
pub record Row : Type 0 where
  pub defined : Reply
  pub said : Reply

abbrev pub ◌gives◌ : Reply → Reply → Row
d gives e = record { defined = d; said = e }

-- n bytes, zero but for the magic
abbrev pub zeros : ℕ → List ℕ
zeros n = take n (0x4d ∷ 0x53 ∷ 0x46 ∷ 0x54 ∷ replicate (n - 4) 0)

abbrev pub parsing : List ℕ → Reply
parsing s = parse (parsed (parse_of s)).number

-- over the smallest library
abbrev pub inlined : ℕ → Reply
inlined word = constant (const_at (zeros 324) (library_of (zeros 324)) word)

-- over the smallest library of two types
abbrev pub two : List ℕ
two = set (zeros 332) 32 2

abbrev pub referred : ℕ → Reply
referred href = reference (href_resolved two (library_of two) href)

-- a library whose segment 5 is its last sixteen bytes, and what the library of `own` finds beside `s`
abbrev pub with_guid : List ℕ
with_guid = set (set (set (zeros 340) 164 0x44) 165 0x01) 168 16

abbrev pub guid_beside : List ℕ → List ℕ → Reply
guid_beside own s = lies (guid_place s (library_of own) 0)

abbrev pub typeinfo_beside : List ℕ → List ℕ → Reply
typeinfo_beside own s = lies (typeinfo_of s (library_of own) 1)

abbrev pub rows : List Row
rows =
    (parsing (zeros 83) gives parse 2)
    ∷ (parsing (zeros 84) gives parse 5)
    ∷ (parsing (zeros 324) gives parse 0)
    ∷ (parsing (zeros 323) gives parse 5)
    ∷ (parsing (zeros 332) gives parse 0)
    ∷ (parsing two gives parse 0)
    ∷ (parsing with_guid gives parse 0)
    ∷ (parsing (set (set (set (set (zeros 324) 32 255) 33 255) 34 255) 35 255) gives parse 4)
    ∷ (inlined 0x80000000 gives constant (value const.Empty))
    ∷ (inlined 0x8800ffff gives constant (value (const.I2 (negsuc 0))))
    ∷ (inlined 0x8c00ffff gives constant (value (const.I4 (pos 65535))))
    ∷ (inlined 0xc00000ff gives constant (value (const.I1 (negsuc 0))))
    ∷ (inlined 0xffffffff gives constant (value (const.I4 (pos 67108863))))
    ∷ (referred 4 gives reference (value (internal 0)))
    ∷ (referred 100 gives reference (value (internal 1)))
    ∷ (referred 200 gives reference (refused 9))
    ∷ (guid_beside with_guid with_guid gives lies (value (record { at = 324; len = 16 })))
    ∷ (guid_beside with_guid (zeros 340) gives lies (value (record { at = 324; len = 16 })))
    ∷ (guid_beside with_guid (zeros 339) gives lies (refused 9))
    ∷ (guid_beside (zeros 340) with_guid gives lies (refused 9))
    ∷ (typeinfo_beside two (zeros 332) gives lies (refused 7))
    ∷ (typeinfo_beside two (zeros 91) gives lies (refused 6))
    ∷ (typeinfo_beside (zeros 332) two gives lies (refused 6))
    ∷ []

pub edges : map (λ (r : Row). r.defined) rows ≡ map (λ (r : Row). r.said) rows
unfolding le read parse_of library_of tabulate lent segment_of segment_place place_in offset_word typeinfo_in constant_of inline_code internal_index resolved_at
edges = refl
