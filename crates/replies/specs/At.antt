-- Records and cursors by the numbers that C hands in. Assumes nothing.
use Rattle.std.specs.Prelude.{ℕ}
use Rattle.member_records.specs.declared.func.FuncRecord.{FuncRecord}
use Rattle.records.specs.declared.typeinfo.TypeInfoEntry.{TypeInfoEntry}
use Rattle.impltypes.specs.declared.ImplTypeCursor.{ImplTypeCursor}
use Rattle.cursors.specs.declared.iterators.FuncCursor.{FuncCursor}
use Rattle.cursors.specs.declared.iterators.VarCursor.{VarCursor}
use Rattle.cursors.specs.declared.iterators.ParamCursor.{ParamCursor}
use Rattle.table_cursors.specs.declared.iterators.GuidCursor.{GuidCursor}
use Rattle.table_cursors.specs.declared.iterators.ImportCursor.{ImportCursor}
use Rattle.table_cursors.specs.declared.iterators.ImpFileCursor.{ImpFileCursor}
use Rattle.table_cursors.specs.declared.iterators.NameCursor.{NameCursor}
use Rattle.table_cursors.specs.declared.iterators.TypeInfoCursor.{TypeInfoCursor}

abbrev pub typeinfo_at : ℕ → ℕ → TypeInfoEntry
typeinfo_at at len = record { at = at; len = len }

abbrev pub func_at : ℕ → ℕ → FuncRecord
func_at at len = record { at = at; len = len }

abbrev pub funcs_at : ℕ → ℕ → ℕ → ℕ → FuncCursor
funcs_at pos end remaining yielded = record { pos = pos; end = end; remaining = remaining; yielded = yielded }

abbrev pub vars_at : ℕ → ℕ → ℕ → ℕ → VarCursor
vars_at pos end remaining yielded = record { pos = pos; end = end; remaining = remaining; yielded = yielded }

abbrev pub params_at : ℕ → ℕ → ℕ → ℕ → ParamCursor
params_at pos end remaining yielded = record { pos = pos; end = end; remaining = remaining; yielded = yielded }

abbrev pub guids_at : ℕ → ℕ → ℕ → GuidCursor
guids_at pos end yielded = record { pos = pos; end = end; yielded = yielded }

abbrev pub imports_at : ℕ → ℕ → ℕ → ImportCursor
imports_at pos end yielded = record { pos = pos; end = end; yielded = yielded }

abbrev pub imp_files_at : ℕ → ℕ → ℕ → ImpFileCursor
imp_files_at pos end yielded = record { pos = pos; end = end; yielded = yielded }

abbrev pub names_at : ℕ → ℕ → ℕ → ℕ → NameCursor
names_at pos end start yielded = record { pos = pos; end = end; start = start; yielded = yielded }

abbrev pub typeinfos_at : ℕ → TypeInfoCursor
typeinfos_at index = record { index = record { 0 = index } }

abbrev pub chain_at : ℕ → ℕ → ℕ → ℕ → ImplTypeCursor
chain_at at len next yielded = record { table = record { at = at; len = len }; next = next; yielded = yielded }
