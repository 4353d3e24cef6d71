-- The bytes of a sheet, field by field: document 01, "The sheet (added)", in its order and its words, with the code that document 02
-- adds. Each law follows from the formats of `Sheet` by computation. What writes a sheet is proved by these laws. Assumes nothing.
use Rattle.std.specs.Prelude.{◌≡◌, false, List, [], ◌∷◌, ◌++◌, map, ℕ, suc, length, Option, None, Some}
use Rattle.std.proofs.Math.Path.{refl}
use Rattle.description.specs.Format.{Format, encode, number, joined, counted, opt}
use Rattle.description.specs.Description.{Bytes, File, own_is_guid, Import, Internal, Misplaced, Reference, Dimension, Tree, Shape, shape_of, Constant, is_constant, Variable, Parameter, Function, ImplType, BaseShape, base_shape_of, Base, TypeInfo, Header, Library}
use Rattle.description.specs.Sheet.{Edition, u8, u16, u32, bit, guid, name, file, own, import, internal, misplaced, reference, dimension, level, nested, tree, value, constant, variable_value, variable, parameter, function, impl_type, base, type_info, header, contents, contents_of, bodies, sheet_layout, sheet_bytes}

-- one part behind the other
abbrev pub in_order : List (List ℕ) → List ℕ
in_order [] = []
in_order (p ∷ []) = p
in_order (p ∷ (q ∷ ps)) = p ++ in_order (q ∷ ps)

-- "opt" is byte 0 for nothing, or byte 1 and the value.
module _ {A : Type 0} (F : Format A) where
  pub opt_none : encode (opt F) None ≡ 0 ∷ []
  unfolding opt
  opt_none = refl

  pub opt-some : (a : A) → encode (opt F) (Some a) ≡ 1 ∷ encode F a
  unfolding opt
  opt-some a = refl

pub guid-bytes : (g : Bytes) → encode guid g ≡ g
unfolding guid
guid-bytes g = refl

-- A name is u8 length and bytes (`name_bytes`).
pub name-bytes : (x : Bytes) → encode name x ≡ in_order (encode u8 (length x) ∷ x ∷ [])
unfolding name
name-bytes x = refl

-- Contents first: u32 type count, u32 length of the library body, u32 length of each type's body. Bodies follow.
pub sheet-bytes : (e : Edition) (d : Library) → let n : ℕ = length d.types in
    sheet_bytes e d
    ≡ in_order
    (encode u32 n
    ∷ encode u32 (length (encode header d.header))
    ∷ joined u32 (map (λ t. length (encode (type_info e n) t)) d.types)
    ∷ [])
    ++ in_order (encode header d.header ∷ joined (type_info e n) d.types ∷ [])
unfolding sheet_bytes sheet_layout contents contents_of bodies
sheet-bytes e d = refl

-- Library:
pub header-bytes : (h : Header)
    → encode header h
    ≡ in_order
    (encode u32 h.lcid  -- u32 at 0x0C,
    ∷ encode u32 h.version  -- u32 at 0x18,
    ∷ encode (opt guid) h.guid  -- opt GUID (offset at 0x08),
    ∷ encode (opt name) h.name  -- opt name (0x38).
    ∷ [])
unfolding header
header-bytes h = refl

module _ (e : Edition) (n : ℕ) where
  -- Type:
  pub type_info-bytes : (t : TypeInfo)
      → encode (type_info e n) t
      ≡ in_order
      (encode u8 t.kind  -- u8 low four bits of 0x00;
      ∷ encode u32 t.flags  -- u32 at 0x30,
      ∷ encode u32 t.version  -- 0x38;
      ∷ encode (opt guid) t.guid  -- opt GUID (0x2C);
      ∷ encode (opt name) t.name  -- opt name (0x34);
      ∷ encode u16 t.declared_functions  -- u16 declared functions,
      ∷ encode u16 t.declared_variables  -- variables;
      ∷ encode (base e n (base_shape_of t.kind)) t.base  -- base;
      ∷ in_order (encode u16 (length t.functions) ∷ joined (function e n) t.functions ∷ [])  -- u16 functions yielded and each;
      ∷ in_order (encode u16 (length t.variables) ∷ joined (variable e n) t.variables ∷ [])  -- u16 variables yielded and each.
      ∷ [])
  unfolding type_info
  type_info-bytes t = refl

  -- Base: kind 5, u32 walk count and for each record
  pub coclass-bytes : (rs : List ImplType)
      → encode (base e n (base_shape_of 5)) rs ≡ in_order (encode u32 (length rs) ∷ joined (impl_type e n) rs ∷ [])
  coclass-bytes rs = refl

  pub impl_type-bytes : (r : ImplType)
      → encode (impl_type e n) r
      ≡ in_order
      (encode (reference e n) r.reftype  -- a reference (0x00)
      ∷ encode u32 r.flags  -- and u32 at 0x04;
      ∷ [])
  unfolding impl_type
  impl_type-bytes r = refl

  -- kinds 3 and 4, the reference `datatype1`;
  pub interface-bytes : (r : Reference) → encode (base e n (base_shape_of 3)) r ≡ encode (reference e n) r
  interface-bytes r = refl

  pub dispatch-bytes : (r : Reference) → encode (base e n (base_shape_of 4)) r ≡ encode (reference e n) r
  dispatch-bytes r = refl

  -- kind 6, the tree of `datatype1`;
  pub alias-bytes : (t : Tree) → encode (base e n (base_shape_of 6)) t ≡ encode (tree e n) t
  alias-bytes t = refl

  -- else no bytes.
  pub absent-bytes : (b : Base BaseShape.absent) → encode (base e n BaseShape.absent) b ≡ []
  absent-bytes b = refl

  -- Function:
  pub function-bytes : (f : Function)
      → encode (function e n) f
      ≡ in_order
      (encode (opt u32) f.memid  -- opt u32 memid,
      ∷ encode (opt name) f.name  -- opt name,
      ∷ encode (tree e n) f.datatype  -- tree (0x04),
      ∷ encode u32 f.flags  -- u32 0x08,
      ∷ encode u16 f.vtable_offset  -- u16 0x0C,
      ∷ encode u32 f.fkccic  -- u32 0x10,
      ∷ encode u16 f.nrargs  -- u16 0x14,
      ∷ encode u16 f.nroargs  -- 0x16,
      ∷ encode u16 (length f.parameters)  -- u16 parameters yielded;
      ∷ joined (parameter e n) f.parameters  -- each:
      ∷ [])
  unfolding function
  function-bytes f = refl

  pub parameter-bytes : (p : Parameter)
      → encode (parameter e n) p
      ≡ in_order
      (encode (tree e n) p.datatype  -- tree (0x00),
      ∷ encode (opt name) p.name  -- opt name (0x04),
      ∷ encode u32 p.flags  -- u32 0x08,
      ∷ encode (opt constant) p.default  -- opt constant.
      ∷ [])
  unfolding parameter
  parameter-bytes p = refl

  -- Variable:
  pub variable-bytes : (v : Variable)
      → encode (variable e n) v
      ≡ in_order
      (encode (opt u32) v.memid  -- opt memid,
      ∷ encode (opt name) v.name  -- opt name,
      ∷ encode (tree e n) v.datatype  -- tree (0x04),
      ∷ encode u32 v.flags  -- u32 0x08,
      ∷ encode u16 v.varkind  -- u16 0x0C;
      ∷ encode (variable_value (is_constant v.varkind)) v.value  -- then 0x10
      ∷ [])
  unfolding variable
  variable-bytes v = refl

-- as opt constant if 0x0C holds 2,
pub constant_value-bytes : (c : Option Constant) → encode (variable_value (is_constant 2)) c ≡ encode (opt constant) c
constant_value-bytes c = refl

-- else as u32.
pub other_value-bytes : (x : ℕ) → encode (variable_value false) x ≡ encode u32 x
other_value-bytes x = refl

-- Constant:
pub constant-bytes : (c : Constant)
    → encode constant c
    ≡ in_order
    (encode u16 c.code  -- u16 code of the case that was read (3 for every I4, 8 for both texts, Raw its own),
    ∷ encode (value (shape_of c.code)) c.value  -- then the value at its own width.
    ∷ [])
unfolding constant
constant-bytes c = refl

-- Text: byte 0 for null,
pub null-bytes : encode (value Shape.text) None ≡ 0 ∷ []
null-bytes = opt_none (counted u32)

-- or byte 1, u32 length, bytes.
pub text-bytes : (x : Bytes) → encode (value Shape.text) (Some x) ≡ 1 ∷ in_order (encode u32 (length x) ∷ x ∷ [])
text-bytes x = opt-some (counted u32) x

pub dimension-bytes : (d : Dimension) → encode dimension d ≡ in_order (encode u32 d.count ∷ encode u32 d.lower_bound ∷ [])
unfolding dimension
dimension-bytes d = refl

module _ (e : Edition) (n : ℕ) where
  module _ (k : ℕ) where
    -- Tree: 0 nothing;
    pub nothing-bytes : encode (nested e n (suc k)) Tree.nothing ≡ 0 ∷ []
    unfolding nested level
    nothing-bytes = refl

    -- 1 base, u16;
    pub base-bytes : (vt : ℕ) → encode (nested e n (suc k)) (Tree.base vt) ≡ 1 ∷ encode u16 vt
    unfolding nested level
    base-bytes vt = refl

    -- 2 pointer, tree;
    pub pointer-bytes : (t : Tree) → encode (nested e n (suc k)) (Tree.pointer t) ≡ 2 ∷ encode (nested e n k) t
    unfolding nested level
    pointer-bytes t = refl

    -- 3 safe array, tree;
    pub safe_array-bytes : (t : Tree) → encode (nested e n (suc k)) (Tree.safe_array t) ≡ 3 ∷ encode (nested e n k) t
    unfolding nested level
    safe_array-bytes t = refl

    -- 4 C array, u16 dimensions, eight bytes each, tree of the element (0x00);
    pub c_array-bytes : (ds : List Dimension) (t : Tree)
        → encode (nested e n (suc k)) (Tree.c_array ds t)
        ≡ 4 ∷ (in_order (encode u16 (length ds) ∷ joined dimension ds ∷ []) ++ encode (nested e n k) t)
    unfolding nested level
    c_array-bytes ds t = refl

    -- 5 reference.
    pub reference-bytes : (r : Reference) → encode (nested e n (suc k)) (Tree.reference r) ≡ 5 ∷ encode (reference e n) r
    unfolding nested level
    reference-bytes r = refl

  -- A tree nests at most 32 descriptions, the outermost and the base included.
  pub tree-bytes : (t : Tree) → encode (tree e n) t ≡ encode (nested e n 32) t
  unfolding tree
  tree-bytes t = refl

  -- Reference: 0 nothing;
  pub unresolved-bytes : encode (reference e n) Reference.unresolved ≡ 0 ∷ []
  unfolding reference
  unresolved-bytes = refl

  -- 1, u8 bit 0x01000000 (0 or 1), u16 index;
  pub internal-bytes : (r : Internal)
      → encode (reference e n) (Reference.internal r)
      ≡ 1 ∷ in_order (encode u8 r.bit ∷ encode (number e.index_width) r.index ∷ [])
  unfolding reference internal bit
  internal-bytes r = refl

  -- 2,
  pub imported-bytes : (r : Import)
      → encode (reference e n) (Reference.imported r)
      ≡ 2
      ∷ in_order
      (encode u8 r.bit  -- the same u8,
      ∷ encode u32 r.flags  -- u32 import flags,
      ∷ encode (own (own_is_guid r.flags)) r.own  -- then opt GUID if flags have 0x10000, else u32 at 0x08;
      ∷ encode (opt file) r.file  -- opt file:
      ∷ [])
  unfolding reference import bit
  imported-bytes r = refl

pub file-bytes : (f : File)
    → encode file f
    ≡ in_order
    (encode (opt guid) f.guid  -- opt GUID,
    ∷ encode u32 f.lcid  -- u32 lcid,
    ∷ encode u32 f.version  -- u32 version,
    ∷ encode u16 (length f.name)  -- u16 length,
    ∷ f.name  -- file name.
    ∷ [])
unfolding file
file-bytes f = refl

-- and of a reference that hits no typeinfo, "code 3: the bit byte and the u32 number so cleared" (document 02, §4).
pub misplaced-bytes : (e : Edition) (n : ℕ) (r : Misplaced)
    → encode (reference e n) (Reference.misplaced r) ≡ 3 ∷ in_order (encode u8 r.bit ∷ encode u32 r.offset ∷ [])
unfolding reference misplaced bit
misplaced-bytes e n r = refl
