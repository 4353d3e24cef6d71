-- What the emitters of this crate emit, each an answer: bytes, or the number of a refusal. Assumes nothing.
use Rattle.std.specs.Prelude.{◌≡◌, List, ℕ, ◌≤◌, ℤ, length}
use Rattle.records.specs.declared.typeinfo.TypeInfoEntry.{TypeInfoEntry}
use Rattle.records.specs.Answer.{Answer, value, map}
use Rattle.member_records.specs.declared.func.FuncRecord.{FuncRecord}
use Rattle.member_records.specs.declared.var.VarRecord.{VarRecord}
use Rattle.typelib.specs.declared.TypeLib.{TypeLib}
use Rattle.typelib.specs.Header.{type_count}
use Rattle.cursors.specs.declared.iterators.FuncCursor.{FuncCursor}
use Rattle.cursors.specs.declared.iterators.ParamCursor.{ParamCursor}
use Rattle.cursors.specs.declared.iterators.VarCursor.{VarCursor}
use Rattle.cursors.specs.Cursors.{func_step, param_step, var_step}
use Rattle.description.specs.Format.{encode, opt, list}
use Rattle.description.specs.Description.{Bytes, is_constant}
use Rattle.description.specs.Sheet.{edition-one, u16, constant, parameter, function, variable}
use Rattle.describe.specs.Values.{all, numbered}
use Rattle.describe.specs.Members.{yields, constant_by, parameter_of, parameters_of, function_of, functions_of, value_with, variable_of, variables_of}
use Rattle.emit.specs.Emit.{Emitted, put, past}
use Rattle.sheet_members.specs.declared.Listed.{Listed}
use Rattle.sheet_members.specs.Lists.{lay_all}
use Rattle.sheet_members.specs.Words.{value_bytes}

-- x was emitted, and n counted unless it was refused
abbrev pub ListPut : Answer Bytes → ℕ → ℕ → List ℕ → Listed → List ℕ → Type 0
ListPut x n to o r o' = Emitted x (put to) o (put r.to) o' × (r.to ≤ past → r.count ≡ n)

module _ (s : List ℕ) (lib : TypeLib) where
  -- ---- parameters

  abbrev pub parameter_emitted : FuncRecord → ℕ → ℕ → Answer Bytes
  parameter_emitted func index at =
      map (encode (parameter edition-one (type_count lib))) (parameter_of s lib func index (record { at = at; len = 12 }))

  -- those that a cursor yields, one behind the other
  abbrev pub parameters_from : FuncRecord → ParamCursor → Answer Bytes
  parameters_from func c =
      lay_all (parameter edition-one (type_count lib)) (numbered (parameter_of s lib func) 0 (yields (param_step s) c.remaining c))

  -- how many, and each
  abbrev pub parameters_emitted : FuncRecord → Answer Bytes
  parameters_emitted func = map (encode (list u16 (parameter edition-one (type_count lib)))) (all (parameters_of s lib func))

  -- the constant that an offset names: missing where the offset is
  abbrev pub constant_by_emitted : Answer ℤ → Answer Bytes
  constant_by_emitted offset = value (encode (opt constant) (constant_by s lib offset))

  -- ---- functions

  abbrev pub function_emitted : TypeInfoEntry → ℕ → FuncRecord → Answer Bytes
  function_emitted ti index func =
      map (encode (function edition-one (type_count lib))) (function_of s lib ti index (record { at = func.at; len = func.len }))

  abbrev pub functions_from : TypeInfoEntry → FuncCursor → Answer Bytes
  functions_from ti c =
      lay_all (function edition-one (type_count lib)) (numbered (function_of s lib ti) 0 (yields (func_step s) c.remaining c))

  abbrev pub FunctionsPut : TypeInfoEntry → FuncCursor → ℕ → List ℕ → Listed → List ℕ → Type 0
  FunctionsPut ti c = ListPut (functions_from ti c) (length (yields (func_step s) c.remaining c))

  abbrev pub functions_emitted : TypeInfoEntry → Answer Bytes
  functions_emitted ti = map (encode (list u16 (function edition-one (type_count lib)))) (all (functions_of s lib ti))

  -- ---- variables

  -- the word at 0x10: a constant where 0x0C holds 2
  abbrev pub value_emitted : ℕ → ℕ → Answer Bytes
  value_emitted varkind word = value (value_bytes (is_constant varkind) (value_with s lib (is_constant varkind) word))

  abbrev pub variable_emitted : TypeInfoEntry → ℕ → VarRecord → Answer Bytes
  variable_emitted ti index var =
      map (encode (variable edition-one (type_count lib))) (variable_of s lib ti index (record { at = var.at; len = var.len }))

  abbrev pub variables_from : TypeInfoEntry → VarCursor → Answer Bytes
  variables_from ti c =
      lay_all (variable edition-one (type_count lib)) (numbered (variable_of s lib ti) 0 (yields (var_step s) c.remaining c))

  abbrev pub VariablesPut : TypeInfoEntry → VarCursor → ℕ → List ℕ → Listed → List ℕ → Type 0
  VariablesPut ti c = ListPut (variables_from ti c) (length (yields (var_step s) c.remaining c))

  abbrev pub variables_emitted : TypeInfoEntry → Answer Bytes
  variables_emitted ti = map (encode (list u16 (variable edition-one (type_count lib)))) (all (variables_of s lib ti))
