-- THE SHEET CALL: what it replies and what it leaves in the output, from the description of the library's bytes, the sheet's bytes
-- and the output's length (document 01). Assumes nothing.
use Rattle.std.specs.Prelude.{◌≡◌, cond, ◌&&◌, List, ◌++◌, ℕ, leb, length, drop}
use Rattle.records.specs.Answer.{Answer, value, refused, map, bind}
use Rattle.records.specs.Record.{limit}
use Rattle.description.specs.Description.{Bytes}
use Rattle.description.specs.Sheet.{Edition, sheet_bytes}
use Rattle.describe.specs.Values.{Octets}
use Rattle.describe.specs.Describe.{describe}

-- the bytes, or 12 where they are more than the output's `room` or than 16,777,216
unfoldable pub within : ℕ → Bytes → Answer Bytes
within room bs = cond (leb (length bs) limit && leb (length bs) room) (value bs) (refused 12)

-- the sheet that a call with that room writes, or its refusal; 12 comes last
unfoldable pub sheet_of : Edition → List ℕ → ℕ → Answer Bytes
sheet_of e s room = bind (describe e s) (λ d. within room (sheet_bytes e d))

-- the output after it: the bytes at its front and the rest as it was; a refusal leaves all as it was
unfoldable pub written : List ℕ → Answer Bytes → List ℕ
written o (value bs) = bs ++ drop (length bs) o
written o (refused n) = o

-- a call over the library's bytes s and an output that held o: its reply r, how many bytes it wrote, and the output o' after it; the
-- bytes that it was lent are octets
pub record Call (e : Edition) (s o : List ℕ) (r : Answer ℕ) (o' : List ℕ) : Type 0 where
  pub replies : r ≡ map length (sheet_of e s (length o))
  pub leaves : o' ≡ written o (sheet_of e s (length o))
  pub octets : Octets s
