-- The bytes of a constant's value, by its content and its shape, and the marks of shapes. Assumes nothing.
use Rattle.std.specs.Prelude.{List, ℕ}
use Rattle.records.specs.declared.answer.Place.{Place}
use Rattle.records.specs.Answer.{Answer}
use Rattle.description.specs.Format.{encode}
use Rattle.description.specs.Description.{Bytes, Shape}
use Rattle.description.specs.Sheet.{value}
use Rattle.describe.specs.Values.{found, bytes_in}
use Rattle.describe.specs.Constants.{Content, value_of}

-- a shape in one byte: how many bytes the value has, or a letter
abbrev pub mark_of : Shape → ℕ
mark_of Shape.empty = 0
mark_of (Shape.number w) = w
mark_of Shape.bit = 98  -- b
mark_of (Shape.octets k) = k
mark_of Shape.text = 116  -- t

-- the bytes of the text at a place; null where there is none
unfoldable pub text_bytes : List ℕ → Answer Place → Bytes
text_bytes s p = encode (value Shape.text) (found (bytes_in s p))

unfoldable pub value_bytes : List ℕ → Content → Shape → Bytes
value_bytes s c h = encode (value h) (value_of s c h)
