-- The sheet: the description laid out in bytes (document 01, "The sheet (added)"), with the edition as a parameter.
--
-- `F & G` is F and then G; `F then λ x. G` the same, where G depends on the value x of F; `times n F` n values by F, and
-- `list N F` a count by N and as many values by F; `octets n` n bytes, and `counted N` a count by N and as many bytes;
-- `F or G or end` the cases of the codes 0, 1 and so on; `below k F` the numbers of F below k. `Format` defines them.
--
-- A format stands below those that it is made of, so document 01's list stands here from its last item to its first.
-- `ByteLayout` says of the bytes what follows from this file, from document 01's first item to its last. Assumes nothing.
use Rattle.std.specs.Prelude.{◌≡◌, Bool, true, false, ℕ, zero, suc, length, Option}
use mathlib.Core.HLevel.{Discrete, ×_discrete}
use mathlib.Core.List.{List, map, List-discrete}
use Rattle.std.proofs.Math.Decide.{ℕ_discrete}
use Rattle.description.specs.Format.{Layout, Format, encode, unit, never, number, ◌then◌, ◌&◌, via, only, below, prefixed-layout, prefixed-lawful, times, list, octets, counted, end, ◌or◌, sum, opt}
use Rattle.description.specs.Description.{Bytes, File, own_is_guid, Own, Import, Internal, Misplaced, Reference, Dimension, Tree, Shape, shape_of, Value, Constant, is_constant, VariableValue, Variable, Parameter, Function, ImplType, BaseShape, base_shape_of, Base, TypeInfo, Header, Library}
use Rattle.description.specs.Description.BaseShape.{absent, parent, impl_types, aliased}
use Rattle.description.specs.Fields.{file-fields, import-fields, internal-fields, misplaced-fields, dimension-fields, constant-fields, variable-fields, parameter-fields, function-fields, impl_type-fields, type_info-fields, header-fields, library-fields, reference-cases, tree-cases}

-- what the editions of the sheet differ in
pub record Edition : Type 0 where
  pub index_width : ℕ  -- the bytes of an internal reference's index
  pub most_types : ℕ  -- the most types that a sheet has

-- "u16 index"; refusal 13, "sheet only, above 65,535"
abbrev pub edition-one : Edition
edition-one = record { index_width = 2; most_types = 65535 }

-- ---- fields

-- "u8, u16, u32 are unsigned fields of that many bits."
abbrev pub u8 : Format ℕ
u8 = number 1

abbrev pub u16 : Format ℕ
u16 = number 2

abbrev pub u32 : Format ℕ
u32 = number 4

-- a byte that is 0 or 1: "u8 bit 0x01000000 (0 or 1)", "Bool one byte"
unfoldable pub bit : Format ℕ
bit = below 2 u8

unfoldable pub guid : Format Bytes
guid = octets 16

-- "A name is u8 length and bytes (`name_bytes`)."
unfoldable pub name : Format Bytes
name = counted u8

-- ---- "Reference: 0 nothing; 1, u8 bit 0x01000000 (0 or 1), u16 index; 2, the same u8, u32 import flags, then opt GUID if
-- flags have 0x10000, else u32 at 0x08; opt file: opt GUID, u32 lcid, u32 version, u16 length, file name." And by document 02, §4,
-- of a reference that hits no typeinfo: "code 3: the bit byte and the u32 number so cleared."

unfoldable pub file : Format File
file = via file-fields (opt guid & u32 & u32 & counted u16)

abbrev pub own : (b : Bool) → Format (Own b)
own true = opt guid
own false = u32

unfoldable pub import : Format Import
import = via import-fields (bit & u32 then λ flags. own (own_is_guid flags) & opt file)

-- the index is that of one of the n types of the sheet
unfoldable pub internal : Edition → ℕ → Format Internal
internal e n = via internal-fields (bit & below n (number e.index_width))

unfoldable pub misplaced : Format Misplaced
misplaced = via misplaced-fields (bit & u32)

unfoldable pub reference : Edition → ℕ → Format Reference
reference e n = sum reference-cases (unit or internal e n or import or misplaced or end)

-- ---- "Tree: 0 nothing; 1 base, u16; 2 pointer, tree; 3 safe array, tree; 4 C array, u16 dimensions, eight bytes each, tree of
-- the element (0x00); 5 reference. A tree nests at most 32 descriptions, the outermost and the base included. Each code byte 0
-- to 5 of a tree is one description; what a reference holds is none."

unfoldable pub dimension : Format Dimension
dimension = via dimension-fields (u32 & u32)

-- one description, and those in it by `tree`
unfoldable pub level : Edition → ℕ → Format Tree → Format Tree
level e n tree = sum tree-cases (unit or u16 or tree or tree or list u16 dimension & tree or reference e n or end)

-- at most k descriptions, one in the other
unfoldable pub nested : Edition → ℕ → ℕ → Format Tree
nested e n zero = never
nested e n (suc k) = level e n (nested e n k)

unfoldable pub tree : Edition → ℕ → Format Tree
tree e n = nested e n 32

-- ---- "Constant: u16 code of the case that was read (3 for every I4, 8 for both texts, Raw its own), then the value at its own
-- width (Bool one byte, floats as bits, Decimal 16, Raw 4). Text: byte 0 for null, or byte 1, u32 length, bytes."

abbrev pub value : (s : Shape) → Format (Value s)
value Shape.empty = unit
value (Shape.number w) = number w
value Shape.bit = bit
value (Shape.octets k) = octets k
value Shape.text = opt (counted u32)

unfoldable pub constant : Format Constant
constant = via constant-fields (u16 then λ code. value (shape_of code))

-- ---- "Variable: opt memid, opt name, tree (0x04), u32 0x08, u16 0x0C; then 0x10 as opt constant if 0x0C holds 2, else as u32."

abbrev pub variable_value : (b : Bool) → Format (VariableValue b)
variable_value true = opt constant
variable_value false = u32

unfoldable pub variable : Edition → ℕ → Format Variable
variable e n = via variable-fields (opt u32 & opt name & tree e n & u32 & u16 then λ varkind. variable_value (is_constant varkind))

-- ---- "Function: opt u32 memid, opt name, tree (0x04), u32 0x08, u16 0x0C, u32 0x10, u16 0x14, 0x16, u16 parameters yielded; each:
-- tree (0x00), opt name (0x04), u32 0x08, opt constant."

unfoldable pub parameter : Edition → ℕ → Format Parameter
parameter e n = via parameter-fields (tree e n & opt name & u32 & opt constant)

unfoldable pub function : Edition → ℕ → Format Function
function e n = via function-fields (opt u32 & opt name & tree e n & u32 & u16 & u32 & u16 & u16 & list u16 (parameter e n))

-- ---- "Type: u8 low four bits of 0x00; u32 at 0x30, 0x38; opt GUID (0x2C); opt name (0x34); u16 declared functions, variables; base;
-- u16 functions yielded and each; u16 variables yielded and each. Base: kind 5, u32 walk count and for each record a reference
-- (0x00) and u32 at 0x04; kinds 3 and 4, the reference `datatype1`; kind 6, the tree of `datatype1`; else no bytes."

unfoldable pub impl_type : Edition → ℕ → Format ImplType
impl_type e n = via impl_type-fields (reference e n & u32)

abbrev pub base : Edition → ℕ → (s : BaseShape) → Format (Base s)
base e n absent = unit
base e n parent = reference e n
base e n impl_types = list u32 (impl_type e n)
base e n aliased = tree e n

unfoldable pub type_info : Edition → ℕ → Format TypeInfo
type_info e n =
    via type_info-fields
    (below 16 u8 then λ kind.
    u32 & u32 & opt guid & opt name & u16 & u16 & base e n (base_shape_of kind) & list u16 (function e n) & list u16 (variable e n))

-- ---- "Library: u32 at 0x0C, u32 at 0x18, opt GUID (offset at 0x08), opt name (0x38)."

unfoldable pub header : Format Header
header = via header-fields (u32 & u32 & opt guid & opt name)

-- ---- "Contents first: u32 type count, u32 length of the library body, u32 length of each type's body. Bodies follow."

-- the type count, the length of the library body, the length of each type's body
abbrev pub Contents : Type 0
Contents = ℕ × (ℕ × List ℕ)

pub contents-discrete : Discrete Contents
contents-discrete = ×_discrete ℕ_discrete (×_discrete ℕ_discrete (List-discrete ℕ_discrete))

unfoldable pub contents : Edition → Format Contents
contents e = below (suc e.most_types) u32 then λ count. u32 & times count u32

unfoldable pub bodies : Edition → ℕ → Format Library
bodies e count = via library-fields (header & times count (type_info e count))

unfoldable pub contents_of : Edition → Library → Contents
contents_of e d =
    let count : ℕ = length d.types in
    (count, (length (encode header d.header), map (λ t. length (encode (type_info e count) t)) d.types))

-- the bodies of which c are the contents
abbrev pub bodies_with : Edition → Contents → Format Library
bodies_with e c = only (λ d. contents_of e d ≡ c) (λ d. contents-discrete (contents_of e d) c) (bodies e c.0)

-- the contents, and the bodies of which they are the contents
unfoldable pub sheet_layout : Edition → Layout Library
sheet_layout e = prefixed-layout (contents e) (contents_of e) (bodies_with e)

-- the bytes of a description's sheet
unfoldable pub sheet_bytes : Edition → Library → List ℕ
sheet_bytes e d = (sheet_layout e).encode d

-- the description whose sheet begins the bytes, if there is one, and the bytes behind the sheet
unfoldable pub read_sheet : Edition → List ℕ → Option (Library × List ℕ)
read_sheet e bs = (sheet_layout e).decode bs

-- THE SHEET: that layout, which is lawful, since the contents are those of the bodies
unfoldable pub sheet : Edition → Format Library
unfolding sheet_layout
sheet e = record {
  layout = sheet_layout e;
  lawful = prefixed-lawful (contents e) (contents_of e) (bodies_with e) (λ c d h. h.1);
}
