-- The stored records, as lists of fields with their widths in bytes. From Wine's typelib.h (INT is four bytes, INT16 two, and
-- the field names are its own), but for `imp_file` and `array_desc`, which are not in it: those follow Wine's reader
-- (typelib.c) and the Rust. An offset is the sum of the widths before it. Assumes nothing.
use Rattle.std.specs.Prelude.{cond, List, [], ◌∷◌, ℕ, ◌+◌}
use Prim.Native.String.{String}
use lib.Text.{eqt}

infix 20 ◌of◌
pub record Field : Type 0 where
  pub name : String
  pub width : ℕ

-- a field of that many bytes
abbrev pub ◌of◌ : String → ℕ → Field
n of w = record { name = n; width = w }

abbrev pub Layout : Type 0
Layout = List Field

-- the bytes of all fields
abbrev pub size_of : Layout → ℕ
size_of [] = 0
size_of (f ∷ fs) = f.width + size_of fs

-- the bytes of the fields before the one with that name
abbrev pub offset_of : Layout → String → ℕ
offset_of [] n = 0
offset_of (f ∷ fs) n = cond (eqt f.name n) 0 (f.width + offset_of fs n)

-- the bytes of the field with that name
abbrev pub width_of : Layout → String → ℕ
width_of [] n = 0
width_of (f ∷ fs) n = cond (eqt f.name n) f.width (width_of fs n)

-- GUID (Microsoft's guiddef.h)
abbrev pub guid : Layout
guid = ("Data1" of 4) ∷ ("Data2" of 2) ∷ ("Data3" of 2) ∷ ("Data4" of 8) ∷ []

-- MSFT_GuidEntry
abbrev pub guid_entry : Layout
guid_entry = ("guid" of 16) ∷ ("hreftype" of 4) ∷ ("next_hash" of 4) ∷ []

-- MSFT_ParameterInfo
abbrev pub parameter_info : Layout
parameter_info = ("DataType" of 4) ∷ ("oName" of 4) ∷ ("Flags" of 4) ∷ []

-- MSFT_RefRecord
abbrev pub ref_record : Layout
ref_record = ("reftype" of 4) ∷ ("flags" of 4) ∷ ("oCustData" of 4) ∷ ("onext" of 4) ∷ []

-- MSFT_ImpInfo
abbrev pub imp_info : Layout
imp_info = ("flags" of 4) ∷ ("oImpFile" of 4) ∷ ("oGuid" of 4) ∷ []

-- an array descriptor, before its bounds, and one bound (SAFEARRAYBOUND of Microsoft's oaidl.h)
abbrev pub array_desc : Layout
array_desc = ("element type" of 4) ∷ ("dimensions" of 2) ∷ ("flags" of 2) ∷ []

abbrev pub array_bound : Layout
array_bound = ("cElements" of 4) ∷ ("lLbound" of 4) ∷ []

-- an import file, before its name; the name's length is `size` / 4
abbrev pub imp_file : Layout
imp_file = ("GUID offset" of 4) ∷ ("LCID" of 4) ∷ ("major" of 2) ∷ ("minor" of 2) ∷ ("size" of 2) ∷ []

-- MSFT_TypeInfoBase
abbrev pub type_info_base : Layout
type_info_base =
    ("typekind" of 4)
    ∷ ("memoffset" of 4)
    ∷ ("res2" of 4)
    ∷ ("res3" of 4)
    ∷ ("res4" of 4)
    ∷ ("res5" of 4)
    ∷ ("cElement" of 4)
    ∷ ("res7" of 4)
    ∷ ("res8" of 4)
    ∷ ("res9" of 4)
    ∷ ("resA" of 4)
    ∷ ("posguid" of 4)
    ∷ ("flags" of 4)
    ∷ ("NameOffset" of 4)
    ∷ ("version" of 4)
    ∷ ("docstringoffs" of 4)
    ∷ ("helpstringcontext" of 4)
    ∷ ("helpcontext" of 4)
    ∷ ("oCustData" of 4)
    ∷ ("cImplTypes" of 2)
    ∷ ("cbSizeVft" of 2)
    ∷ ("size" of 4)
    ∷ ("datatype1" of 4)
    ∷ ("datatype2" of 4)
    ∷ ("res18" of 4)
    ∷ ("res19" of 4)
    ∷ []

-- MSFT_VarRecord, and behind it the attributes that its length leaves room for
abbrev pub var_record : Layout
var_record =
    ("Info" of 4) ∷ ("DataType" of 4) ∷ ("Flags" of 4) ∷ ("VarKind" of 2) ∷ ("vardescsize" of 2) ∷ ("OffsValue" of 4) ∷ []

abbrev pub var_attributes : Layout
var_attributes =
    ("HelpContext" of 4) ∷ ("HelpString" of 4) ∷ ("res9" of 4) ∷ ("oCustData" of 4) ∷ ("HelpStringContext" of 4) ∷ []

-- MSFT_FuncRecord, and behind it the attributes that its length leaves room for, "oArgCustData" one for each argument
abbrev pub func_record : Layout
func_record =
    ("Info" of 4)
    ∷ ("DataType" of 4)
    ∷ ("Flags" of 4)
    ∷ ("VtableOffset" of 2)
    ∷ ("funcdescsize" of 2)
    ∷ ("FKCCIC" of 4)
    ∷ ("nrargs" of 2)
    ∷ ("nroargs" of 2)
    ∷ []

abbrev pub func_attributes : Layout
func_attributes =
    ("HelpContext" of 4)
    ∷ ("oHelpString" of 4)
    ∷ ("oEntry" of 4)
    ∷ ("res9" of 4)
    ∷ ("resA" of 4)
    ∷ ("HelpStringContext" of 4)
    ∷ ("oCustData" of 4)
    ∷ ("oArgCustData" of 4)
    ∷ []
