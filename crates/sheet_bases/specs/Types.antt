-- The parts of a type, as the emitters write them. Assumes nothing.
use Rattle.std.specs.Prelude.{List, ◌++◌, ℕ}
use Rattle.records.specs.declared.typeinfo.TypeInfoEntry.{TypeInfoEntry}
use Rattle.records.specs.Answer.{Answer, map}
use Rattle.records.specs.Layout.{type_info_base}
use Rattle.records.specs.Record.{bits_of}
use Rattle.typelib.specs.declared.TypeLib.{TypeLib}
use Rattle.typelib.specs.Header.{type_count}
use Rattle.description.specs.Format.{encode, opt, le_bytes}
use Rattle.description.specs.Description.{Bytes}
use Rattle.description.specs.Sheet.{edition-one, u16, u32, guid, name, type_info}
use Rattle.describe.specs.Values.{field_of}
use Rattle.describe.specs.References.{guid_of}
use Rattle.describe.specs.Members.{name_of}
use Rattle.describe.specs.Types.{type_at, type_of}

-- "u8 low four bits of 0x00; u32 at 0x30, 0x38"
unfoldable pub head_bytes : List ℕ → ℕ → ℕ → Bytes
head_bytes s at kind =
    le_bytes 1 kind ++ (encode u32 (field_of type_info_base "flags" s at) ++ encode u32 (field_of type_info_base "version" s at))

-- "opt GUID (0x2C); opt name (0x34); u16 declared functions, variables"
unfoldable pub names_bytes : List ℕ → TypeLib → ℕ → Bytes
names_bytes s lib at =
    encode (opt guid) (guid_of s lib (field_of type_info_base "posguid" s at))
    ++ (encode (opt name) (name_of s lib (field_of type_info_base "NameOffset" s at))
    ++ (encode u16 (bits_of 0 16 (field_of type_info_base "cElement" s at)) ++ encode u16 (bits_of 16 16 (field_of type_info_base "cElement" s at))))

-- ---- types, whole

-- type `index` of the library, and the type at a typeinfo
abbrev pub type_emitted : List ℕ → TypeLib → ℕ → Answer Bytes
type_emitted s lib index = map (encode (type_info edition-one (type_count lib))) (type_of s lib index)

abbrev pub type_at_emitted : List ℕ → TypeLib → TypeInfoEntry → Answer Bytes
type_at_emitted s lib ti = map (encode (type_info edition-one (type_count lib))) (type_at s lib ti)
