-- The words of a member's record, as the emitters write them. Assumes nothing.
use Rattle.std.specs.Prelude.{Bool, List, ◌++◌, ◌≡◌, ℕ, ◌+◌, ◌*◌, min, length}
use Rattle.records.specs.declared.answer.Place.{Place}
use Rattle.records.specs.declared.typeinfo.TypeInfoEntry.{TypeInfoEntry}
use Rattle.records.specs.Answer.{Answer, value, refused, map, bind}
use Rattle.records.specs.Layout.{func_record}
use Rattle.typelib.specs.declared.typeinfos.Counts.{Counts}
use Rattle.typelib.specs.TypeInfos.{of_type_info, counts_of, block_at}
use Rattle.description.specs.Format.{encode}
use Rattle.description.specs.Description.{Bytes, VariableValue}
use Rattle.description.specs.Sheet.{u16, u32, variable_value}
use Rattle.describe.specs.Values.{field_of}

-- "u32 0x08, u16 0x0C, u32 0x10, u16 0x14, 0x16"
unfoldable pub function_words : List ℕ → ℕ → Bytes
function_words s at =
    encode u32 (field_of func_record "Flags" s at)
    ++ (encode u16 (field_of func_record "VtableOffset" s at)
    ++ (encode u32 (field_of func_record "FKCCIC" s at)
    ++ (encode u16 (field_of func_record "nrargs" s at) ++ encode u16 (field_of func_record "nroargs" s at))))

unfoldable pub value_bytes : (b : Bool) → VariableValue b → Bytes
value_bytes b x = encode (variable_value b) x

-- ---- the words behind the block of a type's records

abbrev pub block_end : Place → ℕ
block_end block = block.at + block.len

-- where they start
unfoldable pub words_at : List ℕ → TypeInfoEntry → Answer ℕ
words_at s ti = bind (of_type_info "memoffset" s ti) (λ memoffset. map block_end (block_at s memoffset))

-- WHERE A ROW OF THEM STARTS; one that is not there starts at the library's end, where no word is
abbrev pub row_at : List ℕ → Answer ℕ → ℕ
row_at s (value at) = min at (length s)
row_at s (refused n) = length s

-- the row of a type's members from the word on that `first` names
unfoldable pub member_row : (Counts → ℕ) → List ℕ → TypeInfoEntry → ℕ
member_row first s ti = row_at s (bind (counts_of s ti) (λ c. map (λ at. at + 4 * first c) (words_at s ti)))

-- the rows of a type's functions
pub record FuncRows (s : List ℕ) (ti : TypeInfoEntry) (memids names : ℕ) : Type 0 where
  pub memids-at : memids ≡ member_row (λ c. 0) s ti
  pub names_at : names ≡ member_row (λ c. c.funcs + c.vars) s ti
