-- The description of a library: the nested value made of the fields of document 01, "The sheet (added)", and of document 02, §4.
--
-- It holds values, and neither the sheet's bytes nor lengths of bodies: numbers, missing or present (`Option`), lists, trees.
-- A number is the natural number of its bits, an integer with a sign by its two's complement and a float by its bits. So two
-- descriptions are `≡` exactly if each field is, lists of one length with equal entries in order, trees of one shape, missing
-- only against missing, floats exactly if their bits are.
--
-- The fields of a record stand in document 01's order. A type stands below those that it is made of, so document 01's list
-- stands here from its last item to its first. Offsets are document 01's, and Wine's; names are Wine's or the Rust's.
-- Assumes nothing.
use Rattle.std.specs.Prelude.{Bool, true, false, cond, List, [], ◌∷◌, ℕ, suc, ◌/◌, ◌%◌, eqb, get_or, Option}

-- the bytes of a GUID, a name, a text or a decimal
abbrev pub Bytes : Type 0
Bytes = List ℕ

-- ---- Reference

-- an import file: "opt GUID, u32 lcid, u32 version, u16 length, file name"
pub record File : Type 0 where
  pub guid : Option Bytes
  pub lcid : ℕ
  pub version : ℕ
  pub name : Bytes

-- "then opt GUID if flags have 0x10000, else u32 at 0x08"
abbrev pub own_is_guid : ℕ → Bool
own_is_guid flags = eqb (flags / 0x10000 % 2) 1

abbrev pub Own : Bool → Type 0
Own true = Option Bytes
Own false = ℕ

pub record Import : Type 0 where
  pub bit : ℕ  -- bit 0x01000000 of the reference, 0 or 1
  pub flags : ℕ
  pub own : Own (own_is_guid flags)
  pub file : Option File

pub record Internal : Type 0 where
  pub bit : ℕ  -- bit 0x01000000 of the reference, 0 or 1
  pub index : ℕ

-- a reference that hits no typeinfo: "a reference not negative, with its low two bits clear, that is not a multiple of 100 after the
-- 0x01000000 bit is cleared becomes code 3: the bit byte and the u32 number so cleared" (document 02, §4)
pub record Misplaced : Type 0 where
  pub bit : ℕ  -- bit 0x01000000 of the reference, 0 or 1
  pub offset : ℕ  -- the number so cleared: a byte offset, where no typeinfo is

pub data Reference : Type 0 where
  unresolved : Reference  -- 0 nothing
  internal : Internal → Reference  -- 1
  imported : Import → Reference  -- 2
  misplaced : Misplaced → Reference  -- 3

-- ---- Tree

-- a dimension of a C array, "eight bytes each" (SAFEARRAYBOUND of Microsoft's oaidl.h)
pub record Dimension : Type 0 where
  pub count : ℕ
  pub lower_bound : ℕ

pub data Tree : Type 0 where
  nothing : Tree  -- 0
  base : ℕ → Tree  -- 1
  pointer : Tree → Tree  -- 2
  safe_array : Tree → Tree  -- 3
  c_array : List Dimension → Tree → Tree  -- 4, dimensions and the tree of the element
  reference : Reference → Tree  -- 5

-- how many descriptions a tree nests, "the outermost and the base included. Each code byte 0 to 5 of a tree is one description;
-- what a reference holds is none."
unfoldable pub depth : Tree → ℕ
depth nothing = 1
depth (base vt) = 1
depth (pointer t) = suc (depth t)
depth (safe_array t) = suc (depth t)
depth (c_array ds t) = suc (depth t)
depth (reference r) = 1

-- ---- Constant

-- what a constant holds: nothing, a number of so many bytes, 0 or 1, so many bytes as they are, or a text, which may be null
pub data Shape : Type 0 where
  empty bit text : Shape
  number octets : ℕ → Shape

-- by the code of its case (the Rust's `ConstValue`; a code is a VARTYPE of Microsoft's wtypes.h), from 0 to 25, "at its own width
-- (Bool one byte, floats as bits, Decimal 16, Raw 4)"
abbrev pub shapes : List Shape
shapes =
    empty  -- 0 Empty
    ∷ empty  -- 1 Null
    ∷ number 2  -- 2 I2
    ∷ number 4  -- 3 I4
    ∷ number 4  -- 4 R4
    ∷ number 8  -- 5 R8
    ∷ number 8  -- 6 Cy
    ∷ number 8  -- 7 Date
    ∷ text  -- 8 Bstr, and NullBstr
    ∷ number 4  -- 9 Raw
    ∷ number 4  -- 10 Error
    ∷ bit  -- 11 Bool
    ∷ number 4  -- 12 Raw
    ∷ number 4  -- 13 Raw
    ∷ octets 16  -- 14 Decimal
    ∷ number 4  -- 15 Raw
    ∷ number 1  -- 16 I1
    ∷ number 1  -- 17 UI1
    ∷ number 2  -- 18 UI2
    ∷ number 4  -- 19 UI4
    ∷ number 8  -- 20 I8
    ∷ number 8  -- 21 UI8
    ∷ number 4  -- 22 Int
    ∷ number 4  -- 23 UInt
    ∷ empty  -- 24 Void
    ∷ number 4  -- 25 Hresult
    ∷ []

-- 64 is Filetime; every other code is Raw
abbrev pub shape_of : ℕ → Shape
shape_of code = cond (eqb code 64) (number 8) (get_or shapes code (number 4))

abbrev pub Value : Shape → Type 0
Value empty = Unit {0}
Value (number w) = ℕ
Value bit = ℕ
Value (octets k) = Bytes
Value text = Option Bytes  -- missing for null

-- "code of the case that was read (3 for every I4, 8 for both texts, Raw its own), then the value"
pub record Constant : Type 0 where
  pub code : ℕ
  pub value : Value (shape_of code)

-- ---- Variable

-- "then 0x10 as opt constant if 0x0C holds 2, else as u32"
abbrev pub is_constant : ℕ → Bool
is_constant varkind = eqb varkind 2

abbrev pub VariableValue : Bool → Type 0
VariableValue true = Option Constant
VariableValue false = ℕ

pub record Variable : Type 0 where
  pub memid : Option ℕ
  pub name : Option Bytes
  pub datatype : Tree  -- 0x04
  pub flags : ℕ  -- 0x08
  pub varkind : ℕ  -- 0x0C
  pub value : VariableValue (is_constant varkind)  -- 0x10

-- ---- Function

pub record Parameter : Type 0 where
  pub datatype : Tree  -- 0x00
  pub name : Option Bytes  -- 0x04
  pub flags : ℕ  -- 0x08
  pub default : Option Constant  -- by `default_value_offset`

pub record Function : Type 0 where
  pub memid : Option ℕ
  pub name : Option Bytes
  pub datatype : Tree  -- 0x04
  pub flags : ℕ  -- 0x08
  pub vtable_offset : ℕ  -- 0x0C
  pub fkccic : ℕ  -- 0x10
  pub nrargs : ℕ  -- 0x14
  pub nroargs : ℕ  -- 0x16
  pub parameters : List Parameter  -- those yielded

-- ---- Type

-- a record of the walk: "a reference (0x00) and u32 at 0x04"
pub record ImplType : Type 0 where
  pub reftype : Reference  -- 0x00
  pub flags : ℕ  -- 0x04

-- what the base of a type is
pub data BaseShape : Type 0 where
  absent parent impl_types aliased : BaseShape

-- by its kind, from 0 to 6: "kind 5, u32 walk count and for each record ..; kinds 3 and 4, the reference `datatype1`; kind 6, the
-- tree of `datatype1`; else no bytes"
abbrev pub base_shapes : List BaseShape
base_shapes = absent ∷ absent ∷ absent ∷ parent ∷ parent ∷ impl_types ∷ aliased ∷ []

abbrev pub base_shape_of : ℕ → BaseShape
base_shape_of kind = get_or base_shapes kind absent

abbrev pub Base : BaseShape → Type 0
Base absent = Unit {0}
Base parent = Reference
Base impl_types = List ImplType
Base aliased = Tree

pub record TypeInfo : Type 0 where
  pub kind : ℕ  -- low four bits of 0x00
  pub flags : ℕ  -- 0x30
  pub version : ℕ  -- 0x38
  pub guid : Option Bytes  -- 0x2C
  pub name : Option Bytes  -- 0x34
  pub declared_functions : ℕ
  pub declared_variables : ℕ
  pub base : Base (base_shape_of kind)
  pub functions : List Function  -- those yielded
  pub variables : List Variable  -- those yielded

-- ---- Library

pub record Header : Type 0 where
  pub lcid : ℕ  -- 0x0C
  pub version : ℕ  -- 0x18
  pub guid : Option Bytes  -- offset at 0x08
  pub name : Option Bytes  -- 0x38

pub record Library : Type 0 where
  pub header : Header
  pub types : List TypeInfo
