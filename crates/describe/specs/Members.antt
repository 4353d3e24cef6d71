-- Functions with their parameters, and variables (document 01, "The sheet (added)"), as the cursors yield them.
-- Assumes nothing.
use Rattle.std.specs.Prelude.{Bool, true, false, cond, List, [], ◌∷◌, ℕ, zero, suc, ℤ, Option, None}
use Rattle.std.specs.Int.{w32}
use Rattle.std.proofs.Common.{of_z}
use Rattle.records.specs.declared.answer.Place.{Place}
use Rattle.member_records.specs.declared.func.FuncRecord.{FuncRecord}
use Rattle.records.specs.declared.typeinfo.TypeInfoEntry.{TypeInfoEntry}
use Rattle.records.specs.Answer.{Answer, value, refused, map, bind}
use Rattle.records.specs.Attributes.{default_value_offset}
use Rattle.records.specs.Layout.{parameter_info, func_record, var_record}
use Rattle.records.specs.Record.{flag_set, signed32}
use Rattle.typelib.specs.declared.TypeLib.{TypeLib}
use Rattle.cursors.specs.declared.iterators.FuncCursor.{FuncCursor}
use Rattle.cursors.specs.declared.iterators.VarCursor.{VarCursor}
use Rattle.cursors.specs.declared.iterators.ParamCursor.{ParamCursor}
use Rattle.cursors.specs.Numbers.{Step, yielded, ended}
use Rattle.cursors.specs.Cursors.{func_step, funcs_of, var_step, vars_of, param_step, params_of}
use Rattle.typelib.specs.Names.{name_bytes}
use Rattle.typelib.specs.TypeInfos.{func_memid, var_memid, func_name_offset, var_name_offset}
use Rattle.description.specs.Description.{Bytes, Tree, Constant, Parameter, Function, VariableValue, is_constant, Variable}
use Rattle.describe.specs.Values.{found, bytes_in, field_of, all, numbered}
use Rattle.describe.specs.Trees.{tree_of}
use Rattle.describe.specs.Constants.{constant_of}

-- ---- the records that a cursor yields

-- a record, and those behind it by `more`
abbrev pub onward : {C : Type 0} → (C → List Place) → Step Place C → List Place
onward more (yielded p number c) = p ∷ more c
onward more (ended n c) = []

-- at most so many, from the cursor on
unfoldable pub yields : {C : Type 0} → (C → Step Place C) → ℕ → C → List Place
yields step zero c = []
yields step (suc n) c = onward (yields step n) (step c)

-- all of them: a cursor yields no more than it has remaining (`yields-all` of `YieldLaws`)
unfoldable pub func_records : List ℕ → Answer FuncCursor → List Place
func_records s (value c) = yields (func_step s) c.remaining c
func_records s (refused n) = []

unfoldable pub var_records : List ℕ → Answer VarCursor → List Place
var_records s (value c) = yields (var_step s) c.remaining c
var_records s (refused n) = []

unfoldable pub param_records : List ℕ → Answer ParamCursor → List Place
param_records s (value c) = yields (param_step s) c.remaining c
param_records s (refused n) = []

-- PARAMFLAG_FHASDEFAULT (Microsoft's oaidl.h)
abbrev pub has_default : ℕ
has_default = 0x20

-- an identifier that a reading answers as a signed number
unfoldable pub memid_by : Answer ℤ → Option ℕ
memid_by memid = found (map (of_z w32) memid)

module _ (s : List ℕ) (lib : TypeLib) where
  -- the name at an offset, if there is one
  unfoldable pub name_of : ℕ → Option Bytes
  name_of offset = found (bytes_in s (name_bytes s lib offset))

  -- a missing name offset makes the name missing
  unfoldable pub name_by : Answer ℤ → Option Bytes
  name_by offset = found (bind offset (λ x. bytes_in s (name_bytes s lib (of_z w32 x))))

  -- ---- parameters

  abbrev pub constant_by : Answer ℤ → Option Constant
  constant_by (value z) = constant_of s lib (of_z w32 z)
  constant_by (refused n) = None

  -- "The constant is read if flag 0x20 is set at 0x08 and `default_value_offset` gives one; else nothing."
  unfoldable pub default_of : ℕ → Answer ℤ → Option Constant
  default_of flags offset = cond (flag_set has_default flags) (constant_by offset) None

  abbrev pub parameter_with : FuncRecord → ℕ → ℕ → Tree → Parameter
  parameter_with f i at datatype =
      record {
        datatype = datatype;
        name = name_of (field_of parameter_info "oName" s at);
        flags = field_of parameter_info "Flags" s at;
        default = default_of (field_of parameter_info "Flags" s at) (default_value_offset i s f.at f.len);
      }

  -- parameter i of a function
  unfoldable pub parameter_of : FuncRecord → ℕ → Place → Answer Parameter
  parameter_of f i p = map (parameter_with f i p.at) (tree_of s lib (field_of parameter_info "DataType" s p.at))

  unfoldable pub parameters_of : FuncRecord → List (Answer Parameter)
  parameters_of f = numbered (parameter_of f) 0 (param_records s (params_of s f))

  -- ---- functions

  abbrev pub function_with : TypeInfoEntry → ℕ → ℕ → Tree → List Parameter → Function
  function_with ti i at datatype parameters =
      record {
        memid = memid_by (signed32 (func_memid s ti i));
        name = name_by (signed32 (func_name_offset s ti i));
        datatype = datatype;
        flags = field_of func_record "Flags" s at;
        vtable_offset = field_of func_record "VtableOffset" s at;
        fkccic = field_of func_record "FKCCIC" s at;
        nrargs = field_of func_record "nrargs" s at;
        nroargs = field_of func_record "nroargs" s at;
        parameters = parameters;
      }

  -- function i of a type: the result's tree is looked at before the parameters
  unfoldable pub function_of : TypeInfoEntry → ℕ → Place → Answer Function
  function_of ti i p =
      bind (tree_of s lib (field_of func_record "DataType" s p.at)) (λ datatype.
      map (function_with ti i p.at datatype) (all (parameters_of (record { at = p.at; len = p.len }))))

  unfoldable pub functions_of : TypeInfoEntry → List (Answer Function)
  functions_of ti = numbered (function_of ti) 0 (func_records s (funcs_of s ti))

  -- ---- variables

  -- "then 0x10 as opt constant if 0x0C holds 2, else as u32"
  abbrev pub value_with : (b : Bool) → ℕ → VariableValue b
  value_with true x = constant_of s lib x
  value_with false x = x

  abbrev pub variable_with : TypeInfoEntry → ℕ → ℕ → Tree → Variable
  variable_with ti i at datatype =
      record {
        memid = memid_by (signed32 (var_memid s ti i));
        name = name_by (signed32 (var_name_offset s ti i));
        datatype = datatype;
        flags = field_of var_record "Flags" s at;
        varkind = field_of var_record "VarKind" s at;
        value = value_with (is_constant (field_of var_record "VarKind" s at)) (field_of var_record "OffsValue" s at);
      }

  -- variable i of a type
  unfoldable pub variable_of : TypeInfoEntry → ℕ → Place → Answer Variable
  variable_of ti i p = map (variable_with ti i p.at) (tree_of s lib (field_of var_record "DataType" s p.at))

  unfoldable pub variables_of : TypeInfoEntry → List (Answer Variable)
  variables_of ti = numbered (variable_of ti) 0 (var_records s (vars_of s ti))
