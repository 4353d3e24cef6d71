-- Imports, import files and hreftypes. Assumes nothing.
use Rattle.std.specs.Prelude.{Bool, cond, List, ℕ, ◌+◌, ◌-◌, ◌/◌, ◌%◌, ltb, eqb}
use Rattle.util.specs.Read.{le}
use Rattle.records.specs.declared.answer.Place.{Place}
use Rattle.records.specs.Answer.{Answer, value, refused, map, bind}
use Rattle.records.specs.Counted.{imp_file_size}
use Rattle.records.specs.Layout.{size_of, offset_of, imp_file, imp_info, type_info_base}
use Rattle.records.specs.Record.{flag_set}
use Rattle.typelib.specs.declared.TypeLib.{TypeLib}
use Rattle.typelib.specs.Header.{type_count}
use Rattle.typelib.specs.Tables.{lent, negative, table_place}

-- an import file at an offset of segment 2, with the padding behind its name
abbrev pub imp_file_at : List ℕ → TypeLib → ℕ → Answer Place
imp_file_at s lib offset =
    bind (table_place s lib 2 offset (size_of imp_file)) (λ p.
    table_place s lib 2 offset (imp_file_size (le 2 s (p.at + offset_of imp_file "size"))))

-- MSFT_HREFTYPE_INTHISFILE: the low two bits are clear
abbrev pub in_this_file : ℕ → Bool
in_this_file h = eqb (h % 4) 0

-- MSFT_HREFTYPE_INDEX: a typeinfo's index is its byte offset divided by the size of a typeinfo
abbrev pub index_of : ℕ → ℕ
index_of offset = offset / size_of type_info_base

-- the same in a library of `count` typeinfos; nothing where there are not so many
unfoldable pub internal_index : ℕ → ℕ → Answer ℕ
internal_index count offset = cond (ltb (index_of offset) count) (value (index_of offset)) (refused 9)

-- an internal reference, as it stands
unfoldable pub href_index : TypeLib → ℕ → Answer ℕ
href_index lib h =
    cond (negative h) (refused 9)
    (cond (in_this_file h) (internal_index (type_count lib) h) (refused 9))

-- what a reference comes to: a typeinfo's index, or an import record and the import file it names, if that is there
pub data Resolved : Type 0 where
  internal : ℕ → Resolved
  external : Place → Answer Place → Resolved

-- the bit of a dispatch interface's reference, and the number without it
abbrev pub dispatch_bit : ℕ
dispatch_bit = 0x01000000

abbrev pub cleared : ℕ → ℕ
cleared h = cond (flag_set dispatch_bit h) (h - dispatch_bit) h

-- an import record of segment 1, and its file
abbrev pub import_at : List ℕ → TypeLib → ℕ → Answer Resolved
import_at s lib offset =
    map (λ p. external p (imp_file_at s lib (le 4 s (p.at + offset_of imp_info "oImpFile"))))
    (table_place s lib 1 offset (size_of imp_info))

unfoldable pub resolved_at : List ℕ → TypeLib → ℕ → Answer Resolved
resolved_at s lib h = cond (in_this_file h) (map internal (internal_index (type_count lib) h)) (import_at s lib (h - h % 4))

abbrev pub href_resolved : List ℕ → TypeLib → ℕ → Answer Resolved
href_resolved s lib h = lent s (cond (negative h) (refused 9) (resolved_at s lib (cleared h)))
