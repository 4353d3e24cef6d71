-- What `types` replies: the kinds of types and the codes of constants. Assumes nothing.
use Rattle.std.specs.Prelude.{List, [], ◌∷◌, ℕ, get_or}
use Rattle.records.specs.Varenum.{VT_EMPTY, VT_NULL, VT_I2, VT_I4, VT_R4, VT_R8, VT_CY, VT_DATE, VT_BSTR, VT_ERROR, VT_BOOL, VT_DECIMAL}
use Rattle.records.specs.Varenum.{VT_I1, VT_UI1, VT_UI2, VT_UI4, VT_I8, VT_UI8, VT_INT, VT_UINT, VT_VOID, VT_HRESULT, VT_FILETIME}
use Rattle.records.specs.declared.types.TypeKind.{TypeKind}
use Rattle.records.specs.declared.types.TypeKind.TheVariants as kind
use Rattle.records.specs.declared.types.ConstValue.{ConstValue}
use Rattle.records.specs.declared.types.ConstValue.TheVariants as const

-- ---- kinds

-- TYPEKIND, from 0 on (Microsoft's oaidl.h)
abbrev pub kinds : List TypeKind
kinds =
    kind.Enum ∷ kind.Record ∷ kind.Module ∷ kind.Interface ∷ kind.Dispatch ∷ kind.CoClass ∷ kind.Alias ∷ kind.Union ∷ []

unfoldable pub kind_of : ℕ → TypeKind
kind_of raw = get_or kinds raw (kind.Unknown raw)

-- ---- constants

-- the code of a constant's case
unfoldable pub vt_of : ConstValue → ℕ
vt_of const.Empty = VT_EMPTY
vt_of const.Null = VT_NULL
vt_of (const.I2 x) = VT_I2
vt_of (const.I4 x) = VT_I4
vt_of (const.R4 x) = VT_R4
vt_of (const.R4Nan x) = VT_R4
vt_of (const.R8 x) = VT_R8
vt_of (const.R8Nan x) = VT_R8
vt_of (const.Cy x) = VT_CY
vt_of (const.Date x) = VT_DATE
vt_of (const.DateNan x) = VT_DATE
vt_of (const.Bstr p) = VT_BSTR
vt_of const.NullBstr = VT_BSTR
vt_of (const.Error x) = VT_ERROR
vt_of (const.Bool x) = VT_BOOL
vt_of (const.I1 x) = VT_I1
vt_of (const.UI1 x) = VT_UI1
vt_of (const.UI2 x) = VT_UI2
vt_of (const.UI4 x) = VT_UI4
vt_of (const.I8 x) = VT_I8
vt_of (const.UI8 x) = VT_UI8
vt_of (const.Int x) = VT_INT
vt_of (const.UInt x) = VT_UINT
vt_of const.Void = VT_VOID
vt_of (const.Hresult x) = VT_HRESULT
vt_of (const.Decimal p) = VT_DECIMAL
vt_of (const.Filetime x) = VT_FILETIME
vt_of (const.Raw vt bits) = vt
