-- What the parts of a description come to, each an answer: its length and what it reads, or the number of a refusal. Assumes nothing.
use Rattle.std.specs.Prelude.{List, [], ◌∷◌, ℕ, length}
use mathlib.Core.List as lists
use Rattle.records.specs.declared.typeinfo.TypeInfoEntry.{TypeInfoEntry}
use Rattle.records.specs.Answer.{Answer, value, map}
use Rattle.member_records.specs.declared.func.FuncRecord.{FuncRecord}
use Rattle.member_records.specs.declared.var.VarRecord.{VarRecord}
use Rattle.typelib.specs.declared.TypeLib.{TypeLib}
use Rattle.typelib.specs.Header.{type_count}
use Rattle.cursors.specs.declared.iterators.FuncCursor.{FuncCursor}
use Rattle.cursors.specs.declared.iterators.ParamCursor.{ParamCursor}
use Rattle.cursors.specs.declared.iterators.VarCursor.{VarCursor}
use Rattle.cursors.specs.Cursors.{func_step, param_step, var_step}
use Rattle.impltypes.specs.declared.ImplTypeCursor.{ImplTypeCursor}
use Rattle.impltypes.specs.Chain.{records_of}
use Rattle.description.specs.Format.{encode, list}
use Rattle.description.specs.Description.{Bytes, Tree, Variable, Parameter, Function, ImplType, BaseShape, base_shape_of, Base, TypeInfo}
use Rattle.description.specs.Figures.{Figures, sum_of, tree_references, base_references, parameter_references, function_references, variable_references, type_references, type_parameters, counted_in}
use Rattle.description.specs.Sheet.{edition-one, u16, u32, header, reference, nested, tree, parameter, function, variable, impl_type, base, type_info}
use Rattle.describe.specs.Values.{all, numbered}
use Rattle.describe.specs.References.{reference_of}
use Rattle.describe.specs.Trees.{nested_of, tree_of}
use Rattle.describe.specs.Members.{yields, parameter_of, parameters_of, function_of, functions_of, variable_of, variables_of}
use Rattle.describe.specs.Types.{impl_type_at, impl_types_at, base_of, type_at, type_of, types_from}
use Rattle.describe.specs.Describe.{header_of, types_of}
use Rattle.sheet_sizes.specs.Counts.{figures, none, ◌⊕◌}

-- each answer, one behind the other, up to the first refusal
unfoldable pub count_all : {A : Type 0} → (A → Figures) → List (Answer A) → Answer Figures
count_all f [] = value none
count_all f (x ∷ xs) = map f x ⊕ count_all f xs

-- ---- by the description: of n types

module _ (n : ℕ) where
  abbrev pub nested_figures : ℕ → Tree → Figures
  nested_figures k t = figures (length (encode (nested edition-one n k) t)) 0 0 0 (tree_references t)

  abbrev pub tree_figures : Tree → Figures
  tree_figures t = figures (length (encode (tree edition-one n) t)) 0 0 0 (tree_references t)

  -- a parameter, but that it is one
  abbrev pub parameter_figures : Parameter → Figures
  parameter_figures p = figures (length (encode (parameter edition-one n) p)) 0 0 0 (parameter_references p)

  abbrev pub parameters_figures : List Parameter → Figures
  parameters_figures ps = figures (length (encode (list u16 (parameter edition-one n)) ps)) 0 (length ps) 0 (sum_of parameter_references ps)

  abbrev pub function_figures : Function → Figures
  function_figures f = figures (length (encode (function edition-one n) f)) 1 (length f.parameters) 0 (function_references f)

  abbrev pub functions_figures : List Function → Figures
  functions_figures fs =
      figures (length (encode (list u16 (function edition-one n)) fs)) (length fs) (sum_of (λ f. length f.parameters) fs) 0
      (sum_of function_references fs)

  abbrev pub variable_figures : Variable → Figures
  variable_figures v = figures (length (encode (variable edition-one n) v)) 0 0 1 (variable_references v)

  abbrev pub variables_figures : List Variable → Figures
  variables_figures vs = figures (length (encode (list u16 (variable edition-one n)) vs)) 0 0 (length vs) (sum_of variable_references vs)

  abbrev pub chain_figures : List ImplType → Figures
  chain_figures xs = figures (length (encode (list u32 (impl_type edition-one n)) xs)) 0 0 0 (length xs)

  abbrev pub base_figures : (h : BaseShape) → Base h → Figures
  base_figures h b = figures (length (encode (base edition-one n h) b)) 0 0 0 (base_references h b)

  abbrev pub type_figures : TypeInfo → Figures
  type_figures t =
      figures (length (encode (type_info edition-one n) t)) (length t.functions) (type_parameters t) (length t.variables) (type_references t)

-- ---- by the library

module _ (s : List ℕ) (lib : TypeLib) where
  unfoldable pub reference_counted : ℕ → Answer Figures
  reference_counted href = value (figures (length (encode (reference edition-one (type_count lib)) (reference_of s lib href))) 0 0 0 1)

  unfoldable pub nested_counted : ℕ → ℕ → Answer Figures
  nested_counted levels field = map (nested_figures (type_count lib) levels) (nested_of s lib levels field)

  unfoldable pub tree_counted : ℕ → Answer Figures
  tree_counted field = map (tree_figures (type_count lib)) (tree_of s lib field)

  -- ---- members

  unfoldable pub parameter_counted : FuncRecord → ℕ → ℕ → Answer Figures
  parameter_counted func index at = map (parameter_figures (type_count lib)) (parameter_of s lib func index (record { at = at; len = 12 }))

  -- those that a cursor yields, but how many they are
  unfoldable pub parameters_from : FuncRecord → ParamCursor → Answer Figures
  parameters_from func c =
      count_all (parameter_figures (type_count lib)) (numbered (parameter_of s lib func) 0 (yields (param_step s) c.remaining c))

  -- how many, and each
  unfoldable pub parameters_counted : FuncRecord → Answer Figures
  parameters_counted func = map (parameters_figures (type_count lib)) (all (parameters_of s lib func))

  unfoldable pub function_counted : TypeInfoEntry → ℕ → FuncRecord → Answer Figures
  function_counted ti index func = map (function_figures (type_count lib)) (function_of s lib ti index (record { at = func.at; len = func.len }))

  unfoldable pub functions_from : TypeInfoEntry → FuncCursor → Answer Figures
  functions_from ti c = count_all (function_figures (type_count lib)) (numbered (function_of s lib ti) 0 (yields (func_step s) c.remaining c))

  unfoldable pub functions_counted : TypeInfoEntry → Answer Figures
  functions_counted ti = map (functions_figures (type_count lib)) (all (functions_of s lib ti))

  unfoldable pub variable_counted : TypeInfoEntry → ℕ → VarRecord → Answer Figures
  variable_counted ti index var = map (variable_figures (type_count lib)) (variable_of s lib ti index (record { at = var.at; len = var.len }))

  unfoldable pub variables_from : TypeInfoEntry → VarCursor → Answer Figures
  variables_from ti c = count_all (variable_figures (type_count lib)) (numbered (variable_of s lib ti) 0 (yields (var_step s) c.remaining c))

  unfoldable pub variables_counted : TypeInfoEntry → Answer Figures
  variables_counted ti = map (variables_figures (type_count lib)) (all (variables_of s lib ti))

  -- ---- bases

  -- the chain from a cursor on, and that of a typeinfo
  unfoldable pub chain_counted : ImplTypeCursor → Answer Figures
  chain_counted c = map (chain_figures (type_count lib)) (map (lists.map (impl_type_at s lib)) (records_of s c))

  unfoldable pub impl_types_counted : TypeInfoEntry → Answer Figures
  impl_types_counted ti = map (chain_figures (type_count lib)) (impl_types_at s lib ti)

  unfoldable pub base_counted : TypeInfoEntry → ℕ → Answer Figures
  base_counted ti kind = map (base_figures (type_count lib) (base_shape_of kind)) (base_of s lib ti (base_shape_of kind))

  -- ---- types, and the library

  unfoldable pub type_at_counted : TypeInfoEntry → Answer Figures
  type_at_counted ti = map (type_figures (type_count lib)) (type_at s lib ti)

  unfoldable pub type_counted : ℕ → Answer Figures
  type_counted index = map (type_figures (type_count lib)) (type_of s lib index)

  -- n types from type i on
  unfoldable pub types_from_counted : ℕ → ℕ → Answer Figures
  types_from_counted n i = count_all (type_figures (type_count lib)) (types_from s lib n i)

  abbrev pub types_counted : Answer Figures
  types_counted = types_from_counted (type_count lib) 0

  unfoldable pub header_bytes : Bytes
  header_bytes = encode header (header_of s lib)

  -- all of the sheet, as the figures have it before any is stopped
  unfoldable pub library_counted : Answer Figures
  library_counted = map (counted_in edition-one) (map (λ types. record { header = header_of s lib; types = types }) (types_of s lib))
