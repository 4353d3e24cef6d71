-- Document 02, §4: worked cases of a reference, in whole descriptions and whole sheets, as rows of one list: document 01's four
-- references, its 4 with the bit 0x01000000, 0x02000000, −4, and 104 and 0 in a library of one type.
use Rattle.std.specs.Prelude.{◌≡◌, refl, List, [], ◌∷◌, ◌++◌, ℕ, ◌+◌, ◌-◌, ◌*◌, length, replicate, set, None}
use mathlib.Core.List as list
use Rattle.util.specs.Read.{le, read}
use Rattle.records.specs.Answer.{Answer, value, refused, map}
use Rattle.records.specs.Record.{held, field_place}
use Rattle.typelib.specs.Header.{parse_of, library_of}
use Rattle.typelib.specs.Tabulate.{tabulate}
use Rattle.typelib.specs.Tables.{lent, segment_place, segment_of, place_in}
use Rattle.typelib.specs.TypeInfos.{offset_word, typeinfo_in}
use Rattle.typelib.specs.References.{Resolved, internal_index, resolved_at, href_resolved}
use Rattle.typelib.specs.References.{internal as typeinfo}
use Rattle.cursors.specs.Cursors.{block_with}
use Rattle.description.specs.Format.{le_bytes, joined, opt}
use Rattle.description.specs.Description.{Bytes, Reference, TypeInfo, Library}
use Rattle.description.specs.Description.Reference.{unresolved, internal, misplaced}
use Rattle.description.specs.Sheet.{edition-one, u32, sheet_bytes, sheet_layout, contents, contents_of, bodies, header, type_info, reference, bit}
use Rattle.description.specs.Sheet.{internal as internal-format, misplaced as misplaced-format}
use Rattle.describe.specs.WorkedCases.{zeros}
use Rattle.describe.specs.Values.{all, numbered}
use Rattle.describe.specs.References.{guid_of, is_misplaced, reference_from, reference_of}
use Rattle.describe.specs.Members.{yields, func_records, var_records, name_of, functions_of, variables_of}
use Rattle.describe.specs.Types.{types_from, type_of, type_at}
use Rattle.describe.specs.Describe.{header_of, describe_as, describe}

-- ---- a library of `count` types, the first an interface over `href`; all else is zero

abbrev pub library : ℕ → ℕ → List ℕ
library count href =
    set (zeros 84) 32 count  -- the header, with the count at 0x20
    ++ (joined u32 (tabulate (λ i. 100 * i) count)  -- typeinfos stand every 100 bytes
    ++ (le_bytes 4 (324 + 4 * count) ++ (le_bytes 4 (100 * count) ++ replicate 232 0)  -- in segment 0, the only one
    ++ (3 ∷ (replicate 83 0 ++ (le_bytes 4 href ++ replicate 12 0))  -- kind 3, and `datatype1` at 0x54
    ++ replicate (100 * (count - 1)) 0)))

-- ---- its description, and its sheet

abbrev pub interface : Reference → TypeInfo
interface r =
    record {
      kind = 3;
      flags = 0;
      version = 0;
      guid = None;
      name = None;
      declared_functions = 0;
      declared_variables = 0;
      base = r;
      functions = [];
      variables = [];
    }

abbrev pub blank : TypeInfo
blank =
    record {
      kind = 0;
      flags = 0;
      version = 0;
      guid = None;
      name = None;
      declared_functions = 0;
      declared_variables = 0;
      base = tt;
      functions = [];
      variables = [];
    }

abbrev pub described : ℕ → Reference → Library
described count r =
    record { header = record { lcid = 0; version = 0; guid = None; name = None }; types = interface r ∷ replicate (count - 1) blank }

-- a type's body has 15 bytes before its base and 4 behind it
abbrev pub laid_out : ℕ → Bytes → Bytes
laid_out count bs =
    le_bytes 4 count
    ++ (le_bytes 4 10 ++ (joined u32 ((19 + length bs) ∷ replicate (count - 1) 19)
    ++ (replicate 10 0
    ++ (3 ∷ (replicate 14 0 ++ (bs ++ replicate 4 0))
    ++ replicate (19 * (count - 1)) 0))))

-- ---- the rows

-- a count of types and a reference; what `resolve_hreftype_full` says of it; its description, and its bytes in the sheet
pub record Row : Type 0 where
  pub count : ℕ
  pub href : ℕ
  pub resolved : Answer Resolved
  pub description : Reference
  pub bytes : Bytes

abbrev pub row : ℕ → ℕ → Answer Resolved → Reference → Bytes → Row
row count href resolved description bytes =
    record { count = count; href = href; resolved = resolved; description = description; bytes = bytes }

abbrev pub rows : List Row
rows =
    row 2 4 (value (typeinfo 0)) (misplaced (record { bit = 0; offset = 4 })) (3 ∷ 0 ∷ 4 ∷ 0 ∷ 0 ∷ 0 ∷ [])
    ∷ row 2 100 (value (typeinfo 1)) (internal (record { bit = 0; index = 1 })) (1 ∷ 0 ∷ 1 ∷ 0 ∷ [])
    ∷ row 2 200 (refused 9) unresolved (0 ∷ [])
    ∷ row 2 0x01000064 (value (typeinfo 1)) (internal (record { bit = 1; index = 1 })) (1 ∷ 1 ∷ 1 ∷ 0 ∷ [])
    ∷ row 2 0x01000004 (value (typeinfo 0)) (misplaced (record { bit = 1; offset = 4 })) (3 ∷ 1 ∷ 4 ∷ 0 ∷ 0 ∷ 0 ∷ [])
    ∷ row 2 0x02000000 (refused 9) (misplaced (record { bit = 0; offset = 0x02000000 })) (3 ∷ 0 ∷ 0 ∷ 0 ∷ 0 ∷ 2 ∷ [])
    ∷ row 2 0xfffffffc (refused 9) unresolved (0 ∷ [])  -- −4
    ∷ row 1 104 (refused 9) (misplaced (record { bit = 0; offset = 104 })) (3 ∷ 0 ∷ 104 ∷ 0 ∷ 0 ∷ 0 ∷ [])
    ∷ row 1 0 (value (typeinfo 0)) (internal (record { bit = 0; index = 0 })) (1 ∷ 0 ∷ 0 ∷ 0 ∷ [])
    ∷ []

abbrev pub Case : Type 0
Case = Answer Resolved × (Answer Library × Answer Bytes)

-- what the definitions give
abbrev pub defined : Row → Case
defined r =
    let s : List ℕ = library r.count r.href in
    (href_resolved s (library_of s) r.href, (describe edition-one s, map (sheet_bytes edition-one) (describe edition-one s)))

-- what the documents say: 01 of the resolver, 02 of description and sheet
abbrev pub said : Row → Case
said r = (r.resolved, (value (described r.count r.description), value (laid_out r.count r.bytes)))

pub misplaced-cases : list.map defined rows ≡ list.map said rows
unfolding describe describe_as header_of types_from type_of type_at all guid_of name_of functions_of variables_of numbered yields func_records var_records block_with held field_place reference_of reference_from is_misplaced parse_of library_of tabulate segment_of segment_place place_in lent le read offset_word typeinfo_in internal_index resolved_at sheet_bytes sheet_layout contents contents_of bodies header type_info reference internal-format misplaced-format bit opt le_bytes
misplaced-cases = refl
