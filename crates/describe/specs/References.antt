-- References (document 01, "The sheet (added)"), as `resolve_hreftype_full` resolves them, but for those that hit no typeinfo (document
-- 02, §4), which it does not tell from others. `MisplacedLaws` says how the description's reference and that resolver's answer stand to
-- each other. Assumes nothing.
use Rattle.std.specs.Prelude.{Bool, true, false, cond, not, ◌&&◌, List, ℕ, ◌+◌, ◌%◌, eqb, Option}
use Rattle.util.specs.Read.{read, or_zero}
use Rattle.records.specs.declared.answer.Place.{Place}
use Rattle.records.specs.Answer.{Answer, value, refused, map, bind}
use Rattle.records.specs.Counted.{file_name_bytes}
use Rattle.records.specs.Layout.{offset_of, imp_file, imp_info}
use Rattle.records.specs.Record.{bits_of}
use Rattle.typelib.specs.declared.TypeLib.{TypeLib}
use Rattle.typelib.specs.Names.{guid_place}
use Rattle.typelib.specs.Tables.{negative}
use Rattle.typelib.specs.References.{Resolved, in_this_file, cleared, href_resolved}
use Rattle.typelib.specs.References.{internal as here, external}
use Rattle.description.specs.Description.{Bytes, File, Own, own_is_guid, Import, Reference}
use Rattle.description.specs.Description.Reference.{unresolved, internal, imported, misplaced}
use Rattle.describe.specs.Values.{found, bytes_in, field_of}

-- "Compilers place typeinfos every 100 bytes", the size of one: "a reference not negative, with its low two bits clear, that is not a
-- multiple of 100 after the 0x01000000 bit is cleared" hits none (document 02, §4)
unfoldable pub is_misplaced : ℕ → Bool
is_misplaced h = not (negative h) && (in_this_file h && not (eqb (cleared h % 100) 0))

-- "the u32 number so cleared" of such a reference; any other has none
unfoldable pub misplaced_offset : ℕ → Answer ℕ
misplaced_offset h = cond (is_misplaced h) (value (cleared h)) (refused 9)

module _ (s : List ℕ) (lib : TypeLib) where
  -- the GUID at an offset, if there is one
  unfoldable pub guid_of : ℕ → Option Bytes
  guid_of offset = found (bytes_in s (guid_place s lib offset))

  -- "opt GUID, u32 lcid, u32 version, u16 length, file name"; the version is the word of `major` and `minor`
  abbrev pub file_with : ℕ → Bytes → File
  file_with at name =
      record {
        guid = guid_of (field_of imp_file "GUID offset" s at);
        lcid = field_of imp_file "LCID" s at;
        version = or_zero (read 4 s (at + offset_of imp_file "major"));
        name = name;
      }

  abbrev pub file_at : Place → Answer File
  file_at p = map (file_with p.at) (bytes_in s (file_name_bytes s p.at p.len))

  -- "Where the reading of .. a file name yields nothing, .. the opt file that holds it is nothing"
  unfoldable pub file_of : Answer Place → Option File
  file_of a = found (bind a file_at)

  -- "opt GUID if flags have 0x10000, else u32 at 0x08"
  abbrev pub own_of : (b : Bool) → ℕ → Own b
  own_of true x = guid_of x
  own_of false x = x

  abbrev pub import_of : ℕ → ℕ → Answer Place → Import
  import_of bit at file =
      record {
        bit = bit;
        flags = field_of imp_info "flags" s at;
        own = own_of (own_is_guid (field_of imp_info "flags" s at)) (field_of imp_info "oGuid" s at);
        file = file_of file;
      }

  unfoldable pub reference_from : ℕ → Answer Resolved → Reference
  reference_from bit (value (here i)) = internal (record { bit = bit; index = i })
  reference_from bit (value (external p file)) = imported (import_of bit p.at file)
  reference_from bit (refused n) = unresolved

  -- the reference of an hreftype, a 32-bit pattern; its bit 0x01000000 is bit 24. That it hits no typeinfo "comes before the range of
  -- the index is looked at", and so before anything that it would resolve to.
  unfoldable pub reference_of : ℕ → Reference
  reference_of h =
      cond (is_misplaced h)
      (misplaced (record { bit = bits_of 24 1 h; offset = cleared h }))
      (reference_from (bits_of 24 1 h) (href_resolved s lib h))
