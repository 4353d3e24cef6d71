-- Constants (document 01, "The sheet (added)"), as `const_value` reads them. Assumes nothing.
use Rattle.std.specs.Prelude.{cond, List, [], ℕ, Option}
use Rattle.std.specs.Float.{binary32, binary64}
use Rattle.std.specs.Float.Ieee.{to_bits}
use Rattle.std.specs.Int.{w8, w16, w32, w64}
use Rattle.std.proofs.Common.{of_z}
use Rattle.records.specs.declared.answer.Place.{Place}
use Rattle.records.specs.declared.types.ConstValue.{ConstValue}
use Rattle.records.specs.declared.types.ConstValue.TheVariants as const
use Rattle.records.specs.Answer.{Answer, value, refused, map}
use Rattle.records.specs.Types.{vt_of}
use Rattle.typelib.specs.declared.TypeLib.{TypeLib}
use Rattle.constants.specs.Constants.{const_at}
use Rattle.description.specs.Description.{Bytes, Shape, shape_of, Value, Constant}
use Rattle.description.specs.Description.Shape.{empty, number, bit, octets, text}
use Rattle.describe.specs.Values.{found, bytes_in}

-- what a constant holds: nothing, a number, or a place in the bytes
pub data Content : Type 0 where
  bare : Content
  digits : ℕ → Content
  span : Place → Content

-- a signed number by its two's complement, a float by its bits, a truth as 0 or 1
unfoldable pub content_of : ConstValue → Content
content_of const.Empty = bare
content_of const.Null = bare
content_of (const.I2 x) = digits (of_z w16 x)
content_of (const.I4 x) = digits (of_z w32 x)
content_of (const.R4 x) = digits (to_bits binary32 x)
content_of (const.R4Nan n) = digits n
content_of (const.R8 x) = digits (to_bits binary64 x)
content_of (const.R8Nan n) = digits n
content_of (const.Cy x) = digits (of_z w64 x)
content_of (const.Date x) = digits (to_bits binary64 x)
content_of (const.DateNan n) = digits n
content_of (const.Bstr p) = span p
content_of const.NullBstr = bare
content_of (const.Error x) = digits (of_z w32 x)
content_of (const.Bool b) = digits (cond b 1 0)
content_of (const.I1 x) = digits (of_z w8 x)
content_of (const.UI1 x) = digits x
content_of (const.UI2 x) = digits x
content_of (const.UI4 x) = digits x
content_of (const.I8 x) = digits (of_z w64 x)
content_of (const.UI8 x) = digits x
content_of (const.Int x) = digits (of_z w32 x)
content_of (const.UInt x) = digits x
content_of const.Void = bare
content_of (const.Hresult x) = digits (of_z w32 x)
content_of (const.Decimal p) = span p
content_of (const.Filetime x) = digits x
content_of (const.Raw vt bits) = digits (of_z w32 bits)

abbrev pub number_in : Content → ℕ
number_in bare = 0
number_in (digits n) = n
number_in (span p) = 0

abbrev pub place_in : Content → Answer Place
place_in bare = refused 9
place_in (digits n) = refused 9
place_in (span p) = value p

abbrev pub or_empty : Answer Bytes → Bytes
or_empty (value bs) = bs
or_empty (refused n) = []

-- the value of a content, by the shape that the constant's code has
abbrev pub value_of : List ℕ → Content → (h : Shape) → Value h
value_of s c empty = tt
value_of s c (number w) = number_in c
value_of s c bit = number_in c
value_of s c (octets k) = or_empty (bytes_in s (place_in c))
value_of s c text = found (bytes_in s (place_in c))

-- "code of the case that was read (3 for every I4, 8 for both texts, Raw its own), then the value"
unfoldable pub constant_from : List ℕ → ConstValue → Constant
constant_from s v = record { code = vt_of v; value = value_of s (content_of v) (shape_of (vt_of v)) }

-- the constant that a record's word is or names, if there is one
unfoldable pub constant_of : List ℕ → TypeLib → ℕ → Option Constant
constant_of s lib word = found (map (constant_from s) (const_at s lib word))
