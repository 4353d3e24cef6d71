-- A function by its identifier and the offset of its name. Assumes nothing.
use Rattle.std.specs.Prelude.{◌≡◌, List, ℕ, ℤ}
use Rattle.records.specs.declared.typeinfo.TypeInfoEntry.{TypeInfoEntry}
use Rattle.records.specs.Answer.{Answer}
use Rattle.records.specs.Record.{signed32}
use Rattle.member_records.specs.declared.func.FuncRecord.{FuncRecord}
use Rattle.typelib.specs.declared.TypeLib.{TypeLib}
use Rattle.typelib.specs.TypeInfos.{func_memid, func_name_offset}
use Rattle.describe.specs.Values.{found}
use Rattle.sheet_sizes.specs.declared.Count.{Count}
use Rattle.sheet_sizes.specs.Counted.{function_counted}
use Rattle.sheet_sizes.specs.Counts.{Counting}

-- the function of a record, with that identifier and that offset of its name: of any type, at any index, that have these two
abbrev pub FunctionCounted : List ℕ → TypeLib → Answer ℤ → Answer ℤ → FuncRecord → Count → Count → Type 0
FunctionCounted s lib memid offset func from r =
    (ti : TypeInfoEntry) (i : ℕ) → found memid ≡ found (signed32 (func_memid s ti i)) → found offset ≡ found (signed32 (func_name_offset s ti i))
    → Counting (function_counted s lib ti i func) from r
