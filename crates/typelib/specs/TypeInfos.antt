-- Typeinfos, by the offset table, and the arrays behind their members' records. Assumes nothing.
use Rattle.std.specs.Prelude.{cond, List, ℕ, ◌+◌, ◌*◌, leb}
use Prim.Native.String.{String}
use Rattle.std.specs.Int.{w32}
use Rattle.std.proofs.Common.{of_z}
use Rattle.util.specs.Read.{read}
use Rattle.records.specs.declared.answer.Place.{Place}
use Rattle.records.specs.declared.typeinfo.TypeInfoEntry.{TypeInfoEntry}
use Rattle.records.specs.Answer.{Answer, value, refused, map, bind, or_nine}
use Rattle.records.specs.Layout.{size_of, type_info_base}
use Rattle.records.specs.Record.{field, signed32, bits_of}
use Rattle.typelib.specs.declared.TypeLib.{TypeLib}
use Rattle.typelib.specs.Header.{type_count, table_start}
use Rattle.typelib.specs.declared.typeinfos.Counts.{Counts}
use Rattle.typelib.specs.Tables.{lent, negative, segment_of, place_in}
use Rattle.typelib.specs.Names.{name_text}

-- the value, or that refusal whatever was refused
abbrev pub refusing : {A : Type 0} → ℕ → Answer A → Answer A
refusing n (value a) = value a
refusing n (refused m) = refused n

-- ---- the offset table

-- the word of the offset table for a typeinfo: 9 where there is no such typeinfo or no such word
unfoldable pub offset_word : List ℕ → TypeLib → ℕ → Answer ℕ
offset_word s lib index = cond (leb (type_count lib) index) (refused 9) (or_nine (read 4 s (table_start lib + 4 * index)))

abbrev pub typeinfo_offset : List ℕ → TypeLib → ℕ → Answer ℕ
typeinfo_offset s lib index = lent s (offset_word s lib index)

-- where the typeinfo at an offset of segment 0 lies: 6 where the offset is negative, 7 where the segment is missing, 8 where
-- under 100 bytes are left of it or of the file
unfoldable pub typeinfo_in : List ℕ → TypeLib → ℕ → Answer Place
typeinfo_in s lib offset =
    cond (negative offset) (refused 6)
    (bind (refusing 7 (segment_of lib 0)) (λ table.
    refusing 8 (place_in s table offset (size_of type_info_base))))

-- 6 where the index is not below the count, or its word not inside the bytes
abbrev pub typeinfo_of : List ℕ → TypeLib → ℕ → Answer Place
typeinfo_of s lib index = lent s (bind (refusing 6 (offset_word s lib index)) (λ offset. typeinfo_in s lib offset))

-- ---- the block of a typeinfo's records

-- a field of a typeinfo that is given as a record
abbrev pub of_type_info : String → List ℕ → TypeInfoEntry → Answer ℕ
of_type_info name s ti = field type_info_base name s ti.at ti.len

-- the declared counts of functions and variables
abbrev pub counts_of : List ℕ → TypeInfoEntry → Answer Counts
counts_of s ti =
    bind (map (bits_of 0 16) (of_type_info "cElement" s ti)) (λ f.
    map (λ v. record { funcs = f; vars = v }) (map (bits_of 16 16) (of_type_info "cElement" s ti)))

-- the size word at a memoffset, and behind it that many bytes of records, which need not end inside the file
unfoldable pub block_at : List ℕ → ℕ → Answer Place
block_at s memoffset =
    cond (negative memoffset) (refused 9)
    (map (λ size. record { at = memoffset + 4; len = size }) (or_nine (read 4 s memoffset)))

-- ---- the arrays behind the block

-- word k behind the block
unfoldable pub aux_word : List ℕ → Place → ℕ → Answer ℕ
aux_word s block k = or_nine (read 4 s (block.at + block.len + 4 * k))

unfoldable pub aux_in : List ℕ → ℕ → ℕ → Answer ℕ
aux_in s memoffset k = bind (block_at s memoffset) (λ block. aux_word s block k)

abbrev pub aux_at : List ℕ → TypeInfoEntry → ℕ → Answer ℕ
aux_at s ti k = bind (of_type_info "memoffset" s ti) (λ memoffset. aux_in s memoffset k)

-- Behind the block stand four arrays of one word a member: the identifiers of the functions, those of the variables, the
-- name offsets of the functions, those of the variables, each as long as the declared count.
abbrev pub member_word : (Counts → ℕ) → List ℕ → TypeInfoEntry → ℕ → Answer ℕ
member_word first s ti i = bind (counts_of s ti) (λ c. aux_at s ti (first c + i))

abbrev pub func_memid : List ℕ → TypeInfoEntry → ℕ → Answer ℕ
func_memid = member_word (λ c. 0)

abbrev pub var_memid : List ℕ → TypeInfoEntry → ℕ → Answer ℕ
var_memid = member_word (λ c. c.funcs)

abbrev pub func_name_offset : List ℕ → TypeInfoEntry → ℕ → Answer ℕ
func_name_offset = member_word (λ c. c.funcs + c.vars)

abbrev pub var_name_offset : List ℕ → TypeInfoEntry → ℕ → Answer ℕ
var_name_offset = member_word (λ c. 2 * c.funcs + c.vars)

-- a missing name offset makes the member's name missing
abbrev pub func_name : List ℕ → TypeLib → TypeInfoEntry → ℕ → Answer Place
func_name s lib ti i = bind (signed32 (func_name_offset s ti i)) (λ offset. name_text s lib (of_z w32 offset))

abbrev pub var_name : List ℕ → TypeLib → TypeInfoEntry → ℕ → Answer Place
var_name s lib ti i = bind (signed32 (var_name_offset s ti i)) (λ offset. name_text s lib (of_z w32 offset))
