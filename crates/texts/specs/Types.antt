-- The words for kinds of types, and the names of type codes. Both are the Rust's. Assumes nothing.
use Rattle.std.specs.Prelude.{cond, List, [], ◌∷◌, ◌++◌, ℕ, eqb}
use Prim.Native.String.{String}
use Rattle.records.specs.Varenum.{VT_EMPTY, VT_I2, VT_I4, VT_R4, VT_R8, VT_CY, VT_DATE, VT_BSTR, VT_DISPATCH, VT_ERROR, VT_BOOL, VT_VARIANT, VT_UNKNOWN}
use Rattle.records.specs.Varenum.{VT_I1, VT_UI1, VT_UI2, VT_UI4, VT_I8, VT_UI8, VT_INT, VT_UINT, VT_VOID, VT_HRESULT, VT_PTR, VT_SAFEARRAY, VT_CARRAY, VT_USERDEFINED}
use Rattle.records.specs.declared.types.TypeKind.{TypeKind}
use Rattle.records.specs.declared.types.TypeKind.TheVariants as kind
use Rattle.texts.specs.Text.{ascii, decimal}

-- ---- kinds

unfoldable pub kind_word : TypeKind → List ℕ
kind_word kind.Enum = ascii "ENUM"
kind_word kind.Record = ascii "RECORD"
kind_word kind.Module = ascii "MODULE"
kind_word kind.Interface = ascii "INTERFACE"
kind_word kind.Dispatch = ascii "DISPATCH"
kind_word kind.CoClass = ascii "COCLASS"
kind_word kind.Alias = ascii "ALIAS"
kind_word kind.Union = ascii "UNION"
kind_word (kind.Unknown n) = ascii "UNKNOWN(" ++ decimal n ++ ascii ")"

-- ---- the names of codes

infix 20 ◌named◌
pub record Named : Type 0 where
  pub code : ℕ
  pub name : String

abbrev pub ◌named◌ : ℕ → String → Named
c named n = record { code = c; name = n }

abbrev pub vt_names : List Named
vt_names =
    (VT_EMPTY named "void")
    ∷ (VT_I2 named "Integer")
    ∷ (VT_I4 named "Long")
    ∷ (VT_R4 named "Single")
    ∷ (VT_R8 named "Double")
    ∷ (VT_CY named "Currency")
    ∷ (VT_DATE named "Date")
    ∷ (VT_BSTR named "String")
    ∷ (VT_DISPATCH named "Object")
    ∷ (VT_ERROR named "SCODE")
    ∷ (VT_BOOL named "Boolean")
    ∷ (VT_VARIANT named "Variant")
    ∷ (VT_UNKNOWN named "IUnknown")
    ∷ (VT_I1 named "SignedByte")
    ∷ (VT_UI1 named "Byte")
    ∷ (VT_UI2 named "UShort")
    ∷ (VT_UI4 named "ULong")
    ∷ (VT_I8 named "LongLong")
    ∷ (VT_UI8 named "ULongLong")
    ∷ (VT_INT named "Int")
    ∷ (VT_UINT named "UInt")
    ∷ (VT_VOID named "void")
    ∷ (VT_HRESULT named "HRESULT")
    ∷ (VT_PTR named "Ptr")
    ∷ (VT_SAFEARRAY named "SafeArray")
    ∷ (VT_CARRAY named "CArray")
    ∷ (VT_USERDEFINED named "UserDefined")
    ∷ []

-- the name that a list has for a code
abbrev pub name_in : List Named → ℕ → String
name_in [] vt = "Unknown"
name_in (r ∷ rs) vt = cond (eqb r.code vt) r.name (name_in rs vt)

unfoldable pub vt_name : ℕ → List ℕ
vt_name vt = ascii (name_in vt_names vt)
