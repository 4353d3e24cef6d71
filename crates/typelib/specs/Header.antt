-- The header of a library and its directory of segments (Wine's typelib.h), and what `parse` makes of them (document 01).
-- Assumes nothing.
use Rattle.std.specs.Prelude.{cond, List, [], ◌∷◌, ◌++◌, ℕ, ◌+◌, ◌*◌, ◌/◌, ◌%◌, leb, ltb, eqb, length, get_or, replicate}
use Prim.Native.String.{String}
use Rattle.util.specs.Read.{le}
use Rattle.records.specs.Answer.{Answer, value, refused}
use Rattle.records.specs.Layout.{Layout, ◌of◌, size_of, offset_of, width_of}
use Rattle.records.specs.Record.{limit, field, flag_set}
use Rattle.typelib.specs.declared.TypeLib.{TypeLib}
use Rattle.typelib.specs.Tabulate.{tabulate}

-- MSFT_Header
abbrev pub header : Layout
header =
    ("magic1" of 4)
    ∷ ("magic2" of 4)
    ∷ ("posguid" of 4)
    ∷ ("lcid" of 4)
    ∷ ("lcid2" of 4)
    ∷ ("varflags" of 4)
    ∷ ("version" of 4)
    ∷ ("flags" of 4)
    ∷ ("nrtypeinfos" of 4)
    ∷ ("helpstring" of 4)
    ∷ ("helpstringcontext" of 4)
    ∷ ("helpcontext" of 4)
    ∷ ("nametablecount" of 4)
    ∷ ("nametablechars" of 4)
    ∷ ("NameOffset" of 4)
    ∷ ("helpfile" of 4)
    ∷ ("CustomDataOffset" of 4)
    ∷ ("res44" of 4)
    ∷ ("res48" of 4)
    ∷ ("dispatchpos" of 4)
    ∷ ("nimpinfos" of 4)
    ∷ []

-- MSFT_SIGNATURE, and HELPDLLFLAG in `varflags`
abbrev pub signature : ℕ
signature = 0x5446534d

abbrev pub help_dll_flag : ℕ
help_dll_flag = 0x100

-- MSFT_pSeg, of which there are fifteen
abbrev pub p_seg : Layout
p_seg = ("offset" of 4) ∷ ("length" of 4) ∷ ("res08" of 4) ∷ ("res0c" of 4) ∷ []

-- the four bytes of a header field
abbrev pub word : String → List ℕ → ℕ
word name s = le 4 s (offset_of header name)

-- a reading of the header, the record at the start of the bytes
abbrev pub header_field : String → List ℕ → Answer ℕ
header_field name s = field header name s 0 (size_of header)

-- the offset table starts behind the header, four bytes later where the flag is set
abbrev pub table_at : List ℕ → ℕ
table_at s = size_of header + cond (flag_set help_dll_flag (word "varflags" s)) 4 0

-- behind one offset a typeinfo stands the directory
abbrev pub directory_at : List ℕ → ℕ
directory_at s = table_at s + 4 * word "nrtypeinfos" s

-- ---- a library: the fifteen segment pairs, the count and the table start, by value (document 01)

-- the library of thirty-two numbers, as they are lent: 2k and 2k + 1 are the offset and the length of segment k
abbrev pub library : List ℕ → TypeLib
library numbers = record { numbers = numbers }

abbrev pub segment_offset : TypeLib → ℕ → ℕ
segment_offset lib k = get_or lib.numbers (2 * k) 0

abbrev pub segment_length : TypeLib → ℕ → ℕ
segment_length lib k = get_or lib.numbers (2 * k + 1) 0

-- how many typeinfos it has, and where their offsets start
abbrev pub type_count : TypeLib → ℕ
type_count lib = get_or lib.numbers 30 0

abbrev pub table_start : TypeLib → ℕ
table_start lib = get_or lib.numbers 31 0

-- number i of the pairs: of entry i / 2 of the directory its offset or, behind that, its length
abbrev pub pair_at : List ℕ → ℕ → ℕ → ℕ
pair_at s at i = le 4 s (at + size_of p_seg * (i / 2) + width_of p_seg "offset" * (i % 2))

abbrev pub pairs_at : List ℕ → ℕ → List ℕ
pairs_at s at = tabulate (pair_at s at) 30

-- the pairs, and behind them the count and the table start
abbrev pub numbers_with : List ℕ → ℕ → ℕ → List ℕ
numbers_with pairs count table = pairs ++ (count ∷ table ∷ [])

unfoldable pub library_of : List ℕ → TypeLib
library_of s = library (numbers_with (pairs_at s (directory_at s)) (word "nrtypeinfos" s) (table_at s))

-- a library, or refusal 1 over-long, 2 short header, 3 wrong magic, 4 bad count, 5 short directory
unfoldable pub parse_of : List ℕ → Answer TypeLib
parse_of s =
    cond (ltb limit (length s)) (refused 1)
    (cond (ltb (length s) (size_of header)) (refused 2)
    (cond (eqb (word "magic1" s) signature)
    (cond (leb 0x80000000 (word "nrtypeinfos" s)) (refused 4)
    (cond (ltb (length s) (directory_at s + size_of p_seg * 15)) (refused 5) (value (library_of s))))
    (refused 3)))

-- a refusal carries its number and zeros
abbrev pub no_library : TypeLib
no_library = library (replicate 32 0)

-- a parse by its number, 0 or the refusal's, and the library, or none
pub record Parsed : Type 0 where
  pub number : ℕ
  pub lib : TypeLib

abbrev pub parsed : Answer TypeLib → Parsed
parsed (value lib) = record { number = 0; lib = lib }
parsed (refused n) = record { number = n; lib = no_library }
