-- Each record of the description as the tuple of its fields, and each of its data types as the code of a case and the
-- case's value: the forms that the formats of `Sheet` lay out. Assumes nothing.
use Rattle.std.specs.Prelude.{◌≡◌, refl, List, [], ◌∷◌, ℕ, zero, suc, Option}
use mathlib.Core.Equiv.{Iso}
use Rattle.description.specs.Format.{At, Cases}
use Rattle.description.specs.Description.{Bytes, File, Own, own_is_guid, Import, Internal, Misplaced, Reference, Dimension, Tree, Value, shape_of, Constant, VariableValue, is_constant, Variable, Parameter, Function, ImplType, Base, base_shape_of, TypeInfo, Header, Library}
use Rattle.description.specs.Description.Reference.{unresolved, internal, imported, misplaced}
use Rattle.description.specs.Description.Tree.{nothing, base, pointer, safe_array, c_array, reference}

-- ---- records

abbrev iso : {A B : Type 0} (fun : A → B) (inv : B → A) → ((b : B) → fun (inv b) ≡ b) → ((a : A) → inv (fun a) ≡ a) → Iso A B
iso fun inv rinv linv = record { fun = fun; inv = inv; rinv = rinv; linv = linv }

abbrev pub file-fields : Iso (Option Bytes × (ℕ × (ℕ × Bytes))) File
file-fields =
    iso (λ (guid, (lcid, (version, name))). record { guid = guid; lcid = lcid; version = version; name = name })
    (λ r. (r.guid, (r.lcid, (r.version, r.name))))
    (λ _. refl) (λ _. refl)

abbrev pub import-fields : Iso (ℕ × ((flags : ℕ) × (Own (own_is_guid flags) × Option File))) Import
import-fields =
    iso (λ (bit, (flags, (own, file))). record { bit = bit; flags = flags; own = own; file = file })
    (λ r. (r.bit, (r.flags, (r.own, r.file))))
    (λ _. refl) (λ _. refl)

abbrev pub internal-fields : Iso (ℕ × ℕ) Internal
internal-fields =
    iso (λ (bit, index). record { bit = bit; index = index })
    (λ r. (r.bit, r.index))
    (λ _. refl) (λ _. refl)

abbrev pub misplaced-fields : Iso (ℕ × ℕ) Misplaced
misplaced-fields =
    iso (λ (bit, offset). record { bit = bit; offset = offset })
    (λ r. (r.bit, r.offset))
    (λ _. refl) (λ _. refl)

abbrev pub dimension-fields : Iso (ℕ × ℕ) Dimension
dimension-fields =
    iso (λ (count, lower_bound). record { count = count; lower_bound = lower_bound })
    (λ r. (r.count, r.lower_bound))
    (λ _. refl) (λ _. refl)

abbrev pub constant-fields : Iso ((code : ℕ) × Value (shape_of code)) Constant
constant-fields =
    iso (λ (code, value). record { code = code; value = value })
    (λ r. (r.code, r.value))
    (λ _. refl) (λ _. refl)

abbrev pub variable-fields : Iso (Option ℕ × (Option Bytes × (Tree × (ℕ × ((varkind : ℕ) × VariableValue (is_constant varkind)))))) Variable
variable-fields =
    iso (λ (memid, (name, (datatype, (flags, (varkind, value))))). record {
      memid = memid;
      name = name;
      datatype = datatype;
      flags = flags;
      varkind = varkind;
      value = value;
    })
    (λ r. (r.memid, (r.name, (r.datatype, (r.flags, (r.varkind, r.value))))))
    (λ _. refl) (λ _. refl)

abbrev pub parameter-fields : Iso (Tree × (Option Bytes × (ℕ × Option Constant))) Parameter
parameter-fields =
    iso (λ (datatype, (name, (flags, default))). record { datatype = datatype; name = name; flags = flags; default = default })
    (λ r. (r.datatype, (r.name, (r.flags, r.default))))
    (λ _. refl) (λ _. refl)

abbrev pub function-fields : Iso (Option ℕ × (Option Bytes × (Tree × (ℕ × (ℕ × (ℕ × (ℕ × (ℕ × List Parameter)))))))) Function
function-fields =
    iso (λ (memid, (name, (datatype, (flags, (vtable_offset, (fkccic, (nrargs, (nroargs, parameters)))))))). record {
      memid = memid;
      name = name;
      datatype = datatype;
      flags = flags;
      vtable_offset = vtable_offset;
      fkccic = fkccic;
      nrargs = nrargs;
      nroargs = nroargs;
      parameters = parameters;
    })
    (λ r. (r.memid, (r.name, (r.datatype, (r.flags, (r.vtable_offset, (r.fkccic, (r.nrargs, (r.nroargs, r.parameters)))))))))
    (λ _. refl) (λ _. refl)

abbrev pub impl_type-fields : Iso (Reference × ℕ) ImplType
impl_type-fields =
    iso (λ (reftype, flags). record { reftype = reftype; flags = flags })
    (λ r. (r.reftype, r.flags))
    (λ _. refl) (λ _. refl)

abbrev pub type_info-fields : Iso ((kind : ℕ) × (ℕ × (ℕ × (Option Bytes × (Option Bytes × (ℕ × (ℕ × (Base (base_shape_of kind) × (List Function × List Variable))))))))) TypeInfo
type_info-fields =
    iso (λ (kind, (flags, (version, (guid, (name, (declared_functions, (declared_variables, (under, (functions, variables))))))))). record {
      kind = kind;
      flags = flags;
      version = version;
      guid = guid;
      name = name;
      declared_functions = declared_functions;
      declared_variables = declared_variables;
      base = under;
      functions = functions;
      variables = variables;
    })
    (λ r. (r.kind, (r.flags, (r.version, (r.guid, (r.name, (r.declared_functions, (r.declared_variables, (r.base, (r.functions, r.variables))))))))))
    (λ _. refl) (λ _. refl)

abbrev pub header-fields : Iso (ℕ × (ℕ × (Option Bytes × Option Bytes))) Header
header-fields =
    iso (λ (lcid, (version, (guid, name))). record { lcid = lcid; version = version; guid = guid; name = name })
    (λ r. (r.lcid, (r.version, (r.guid, r.name))))
    (λ _. refl) (λ _. refl)

abbrev pub library-fields : Iso (Header × List TypeInfo) Library
library-fields =
    iso (λ (header, types). record { header = header; types = types })
    (λ r. (r.header, r.types))
    (λ _. refl) (λ _. refl)

-- ---- data types

abbrev pub reference-types : List (Type 0)
reference-types = Unit {0} ∷ Internal ∷ Import ∷ Misplaced ∷ []

abbrev pub reference-make : (code : ℕ) → At reference-types code → Reference
reference-make zero p = unresolved
reference-make (suc zero) p = internal p
reference-make (suc (suc zero)) p = imported p
reference-make (suc (suc (suc zero))) p = misplaced p
reference-make (suc (suc (suc (suc code)))) p = absurd p

abbrev pub reference-split : Reference → (code : ℕ) × At reference-types code
reference-split unresolved = (0, tt)
reference-split (internal p) = (1, p)
reference-split (imported p) = (2, p)
reference-split (misplaced p) = (3, p)

pub reference-make-split : (r : Reference) → reference-make (reference-split r).0 (reference-split r).1 ≡ r
reference-make-split unresolved = refl
reference-make-split (internal p) = refl
reference-make-split (imported p) = refl
reference-make-split (misplaced p) = refl

pub reference-split-make : (code : ℕ) (p : At reference-types code) → reference-split (reference-make code p) ≡ (code, p)
reference-split-make zero p = refl
reference-split-make (suc zero) p = refl
reference-split-make (suc (suc zero)) p = refl
reference-split-make (suc (suc (suc zero))) p = refl
reference-split-make (suc (suc (suc (suc code)))) p = absurd p

abbrev pub reference-cases : Cases Reference
reference-cases = record {
  types = reference-types;
  make = reference-make;
  split = reference-split;
  make-split = reference-make-split;
  split-make = reference-split-make;
}

abbrev pub tree-types : List (Type 0)
tree-types = Unit {0} ∷ ℕ ∷ Tree ∷ Tree ∷ (List Dimension × Tree) ∷ Reference ∷ []

abbrev pub tree-make : (code : ℕ) → At tree-types code → Tree
tree-make zero p = nothing
tree-make (suc zero) p = base p
tree-make (suc (suc zero)) p = pointer p
tree-make (suc (suc (suc zero))) p = safe_array p
tree-make (suc (suc (suc (suc zero)))) p = c_array p.0 p.1
tree-make (suc (suc (suc (suc (suc zero))))) p = reference p
tree-make (suc (suc (suc (suc (suc (suc code)))))) p = absurd p

abbrev pub tree-split : Tree → (code : ℕ) × At tree-types code
tree-split nothing = (0, tt)
tree-split (base p) = (1, p)
tree-split (pointer p) = (2, p)
tree-split (safe_array p) = (3, p)
tree-split (c_array d p) = (4, (d, p))
tree-split (reference p) = (5, p)

pub tree-make-split : (t : Tree) → tree-make (tree-split t).0 (tree-split t).1 ≡ t
tree-make-split nothing = refl
tree-make-split (base p) = refl
tree-make-split (pointer p) = refl
tree-make-split (safe_array p) = refl
tree-make-split (c_array d p) = refl
tree-make-split (reference p) = refl

pub tree-split-make : (code : ℕ) (p : At tree-types code) → tree-split (tree-make code p) ≡ (code, p)
tree-split-make zero p = refl
tree-split-make (suc zero) p = refl
tree-split-make (suc (suc zero)) p = refl
tree-split-make (suc (suc (suc zero))) p = refl
tree-split-make (suc (suc (suc (suc zero)))) p = refl
tree-split-make (suc (suc (suc (suc (suc zero))))) p = refl
tree-split-make (suc (suc (suc (suc (suc (suc code)))))) p = absurd p

abbrev pub tree-cases : Cases Tree
tree-cases = record {
  types = tree-types;
  make = tree-make;
  split = tree-split;
  make-split = tree-make-split;
  split-make = tree-split-make;
}
