-- Constants (document 01, `const_value`). The codes are VARENUM's. Assumes nothing.
use Rattle.std.specs.Prelude.{Bool, Float, true, false, cond, not, List, [], ◌∷◌, ℕ, ◌+◌, ◌%◌, ◌^◌, eqb}
use Rattle.std.specs.Float.{binary32, binary64}
use Rattle.std.specs.Int.{w8, w16, w32, w64}
use Rattle.std.proofs.Common.{to_z}
use Rattle.util.specs.Read.{le}
use Rattle.util.specs.declared.Real.{Real}
use Rattle.util.specs.declared.Real.TheVariants.{Number, Nan}
use Rattle.util.specs.Real.{real_of}
use Rattle.records.specs.declared.types.ConstValue.{ConstValue}
use Rattle.records.specs.declared.types.ConstValue.TheVariants as const
use Rattle.records.specs.Answer.{Answer, value, refused, map, bind}
use Rattle.records.specs.Record.{bits_of}
use Rattle.records.specs.Varenum.{VT_EMPTY, VT_NULL, VT_I2, VT_I4, VT_R4, VT_R8, VT_CY, VT_DATE, VT_BSTR, VT_ERROR, VT_BOOL, VT_DECIMAL}
use Rattle.records.specs.Varenum.{VT_I1, VT_UI1, VT_UI2, VT_UI4, VT_I8, VT_UI8, VT_INT, VT_UINT, VT_VOID, VT_HRESULT, VT_FILETIME}
use Rattle.typelib.specs.declared.TypeLib.{TypeLib}
use Rattle.typelib.specs.Tables.{lent, negative, table_place}

-- ---- a number as a value of a code

infix 20 ◌is◌
pub record Case : Type 0 where
  pub code : ℕ
  pub constant : ConstValue

abbrev pub ◌is◌ : ℕ → ConstValue → Case
c is v = record { code = c; constant = v }

-- the constant of the case with that code, or the other one where there is none
abbrev pub select : ℕ → List Case → ConstValue → ConstValue
select vt [] other = other
select vt (c ∷ cs) other = cond (eqb vt c.code) c.constant (select vt cs other)

-- the low k bits of a number
abbrev pub low : ℕ → ℕ → ℕ
low k v = v % 2 ^ k

-- floats by their bits
abbrev pub r4_as : Real Float ℕ → ConstValue
r4_as (Number x) = const.R4 x
r4_as (Nan n) = const.R4Nan n

abbrev pub r8_as : Real Float ℕ → ConstValue
r8_as (Number x) = const.R8 x
r8_as (Nan n) = const.R8Nan n

abbrev pub date_as : Real Float ℕ → ConstValue
date_as (Number x) = const.Date x
date_as (Nan n) = const.DateNan n

abbrev pub r4_of : ℕ → ConstValue
r4_of n = r4_as (real_of binary32 n)

abbrev pub r8_of : ℕ → ConstValue
r8_of n = r8_as (real_of binary64 n)

abbrev pub date_of : ℕ → ConstValue
date_of n = date_as (real_of binary64 n)

-- a signed number is the two's complement of the bits that its type has
unfoldable pub constant_of : ℕ → ℕ → ConstValue
constant_of vt v =
    select vt
    ((VT_EMPTY is const.Empty)
    ∷ (VT_NULL is const.Null)
    ∷ (VT_I2 is const.I2 (to_z w16 (low 16 v)))
    ∷ (VT_I4 is const.I4 (to_z w32 (low 32 v)))
    ∷ (VT_R4 is r4_of (low 32 v))
    ∷ (VT_R8 is r8_of v)
    ∷ (VT_CY is const.Cy (to_z w64 v))
    ∷ (VT_DATE is date_of v)
    ∷ (VT_ERROR is const.Error (to_z w32 (low 32 v)))
    ∷ (VT_BOOL is const.Bool (not (eqb v 0)))
    ∷ (VT_I1 is const.I1 (to_z w8 (low 8 v)))
    ∷ (VT_UI1 is const.UI1 (low 8 v))
    ∷ (VT_UI2 is const.UI2 (low 16 v))
    ∷ (VT_UI4 is const.UI4 (low 32 v))
    ∷ (VT_I8 is const.I8 (to_z w64 v))
    ∷ (VT_UI8 is const.UI8 v)
    ∷ (VT_INT is const.Int (to_z w32 (low 32 v)))
    ∷ (VT_UINT is const.UInt (low 32 v))
    ∷ (VT_VOID is const.Void)
    ∷ (VT_HRESULT is const.Hresult (to_z w32 (low 32 v)))
    ∷ (VT_FILETIME is const.Filetime v)
    ∷ [])
    (const.Raw vt (to_z w32 (low 32 v)))

-- whether n is one of the list
abbrev pub among : ℕ → List ℕ → Bool
among n [] = false
among n (k ∷ ks) = cond (eqb n k) true (among n ks)

-- ---- inline

-- the codes 0 to 3, 10, 11, 16 to 19 and 22 to 25; another code gives I4
abbrev pub inline_codes : List ℕ
inline_codes =
    VT_EMPTY
    ∷ VT_NULL
    ∷ VT_I2
    ∷ VT_I4
    ∷ VT_ERROR
    ∷ VT_BOOL
    ∷ VT_I1
    ∷ VT_UI1
    ∷ VT_UI2
    ∷ VT_UI4
    ∷ VT_INT
    ∷ VT_UINT
    ∷ VT_VOID
    ∷ VT_HRESULT
    ∷ []

unfoldable pub inline_code : ℕ → ℕ
inline_code n = cond (among n inline_codes) n VT_I4

-- bits 26 to 30 are the code, and the low 26 bits the value, unsigned
abbrev pub inline_of : ℕ → ConstValue
inline_of word = constant_of (inline_code (bits_of 26 5 word)) (bits_of 0 26 word)

-- ---- stored

-- the bytes of a stored value
unfoldable pub stored_width : ℕ → ℕ
stored_width vt =
    cond (among vt (VT_EMPTY ∷ VT_NULL ∷ VT_VOID ∷ [])) 0
    (cond (eqb vt VT_BOOL) 2
    (cond (among vt (VT_R8 ∷ VT_CY ∷ VT_DATE ∷ VT_I8 ∷ VT_UI8 ∷ VT_FILETIME ∷ [])) 8
    (cond (eqb vt VT_DECIMAL) 16 4)))

-- a text of n bytes behind the code and its length: -1 is the null text, and a length below that is nothing
unfoldable pub text_behind : List ℕ → TypeLib → ℕ → ℕ → Answer ConstValue
text_behind s lib offset n =
    cond (eqb n 0xffffffff) (value const.NullBstr)
    (cond (negative n) (refused 9)
    (map (λ p. const.Bstr (record { at = p.at + 6; len = n })) (table_place s lib 11 offset (6 + n))))

-- the value at `at`, by its code
unfoldable pub value_at : List ℕ → TypeLib → ℕ → ℕ → ℕ → Answer ConstValue
value_at s lib offset vt at =
    cond (eqb vt VT_BSTR) (text_behind s lib offset (le 4 s at))
    (cond (eqb vt VT_DECIMAL) (value (const.Decimal (record { at = at; len = 16 })))
    (value (constant_of vt (le (stored_width vt) s at))))

-- it stands behind the two bytes of the code
abbrev pub value_behind : List ℕ → TypeLib → ℕ → ℕ → Answer ConstValue
value_behind s lib offset vt =
    bind (table_place s lib 11 offset (2 + stored_width vt)) (λ p. value_at s lib offset vt (p.at + 2))

-- a constant of segment 11
abbrev pub stored_at : List ℕ → TypeLib → ℕ → Answer ConstValue
stored_at s lib offset = bind (table_place s lib 11 offset 2) (λ p. value_behind s lib offset (le 2 s p.at))

-- a word that is negative is the constant, and another is its offset
abbrev pub const_at : List ℕ → TypeLib → ℕ → Answer ConstValue
const_at s lib word = lent s (cond (negative word) (value (inline_of word)) (stored_at s lib word))
