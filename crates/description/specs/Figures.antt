-- THE FIGURES OF A DESCRIPTION (document 02, §5): "the sheet's length, and the number of functions, parameters, variables and references
-- it will read". Assumes nothing.
use Rattle.std.specs.Prelude.{List, [], ◌∷◌, ℕ, ◌+◌, min, length}
use Rattle.description.specs.Description.{Tree, BaseShape, base_shape_of, Base, Variable, Parameter, Function, TypeInfo, Library}
use Rattle.description.specs.Description.BaseShape.{absent, parent, impl_types, aliased}
use Rattle.description.specs.Description.Tree.{nothing, base, pointer, safe_array, c_array, reference}
use Rattle.description.specs.Sheet.{Edition, sheet_bytes}

pub record Figures : Type 0 where
  pub length : ℕ  -- in bytes
  pub functions : ℕ
  pub parameters : ℕ
  pub variables : ℕ
  pub references : ℕ

-- the sum of a number of each
unfoldable pub sum_of : {A : Type 0} → (A → ℕ) → List A → ℕ
sum_of f [] = 0
sum_of f (x ∷ xs) = f x + sum_of f xs

-- ---- "Every reference field counts, code 0 too": a tree's code 5, the base of kinds 3 and 4, each record of a chain

-- (a tree's code 0 is no reference)
unfoldable pub tree_references : Tree → ℕ
tree_references nothing = 0
tree_references (base vt) = 0
tree_references (pointer t) = tree_references t
tree_references (safe_array t) = tree_references t
tree_references (c_array ds t) = tree_references t
tree_references (reference r) = 1

unfoldable pub base_references : (s : BaseShape) → Base s → ℕ
base_references absent x = 0
base_references parent x = 1
base_references impl_types xs = length xs
base_references aliased t = tree_references t

abbrev pub parameter_references : Parameter → ℕ
parameter_references p = tree_references p.datatype

abbrev pub function_references : Function → ℕ
function_references f = tree_references f.datatype + sum_of parameter_references f.parameters

abbrev pub variable_references : Variable → ℕ
variable_references v = tree_references v.datatype

abbrev pub type_references : TypeInfo → ℕ
type_references t =
    base_references (base_shape_of t.kind) t.base
    + (sum_of function_references t.functions + sum_of variable_references t.variables)

-- ---- the figures

abbrev pub type_parameters : TypeInfo → ℕ
type_parameters t = sum_of (λ f. length f.parameters) t.functions

-- as they are
abbrev pub counted_in : Edition → Library → Figures
counted_in e d =
    record {
      length = length (sheet_bytes e d);
      functions = sum_of (λ t. length t.functions) d.types;
      parameters = sum_of type_parameters d.types;
      variables = sum_of (λ t. length t.variables) d.types;
      references = sum_of type_references d.types;
    }

-- "Any figure above 16,777,216 is given as 16,777,217."
abbrev pub given : ℕ → ℕ
given n = min n 16777217

abbrev pub each_given : Figures → Figures
each_given c =
    record {
      length = given c.length;
      functions = given c.functions;
      parameters = given c.parameters;
      variables = given c.variables;
      references = given c.references;
    }

unfoldable pub figures_in : Edition → Library → Figures
figures_in e d = each_given (counted_in e d)
