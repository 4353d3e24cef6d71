-- The sheet program (document 01, "Edges"): what it asks for, and the line that it prints of a sheet. Assumes nothing.
use Rattle.std.specs.Prelude.{◌≡◌, List, [], ◌∷◌, ℕ, ◌/◌, ◌%◌, ◌≤◌, ◌<◌, get_or, take}
use Rattle.records.specs.Answer.{Answer, refused}
use Rattle.texts.specs.Text.{ascii}
use Rattle.description.specs.Sheet.{edition-one}
use Rattle.describe.specs.Call.{Call}

-- what is replied to the first `size` bytes of the input, and the output after it: 1 where they are more than 65,536, else the
-- sheet call's
pub record Replied (input : List ℕ) (size : ℕ) (o : List ℕ) (r : Answer ℕ) (o' : List ℕ) : Type 0 where
  pub more : 65536 < size → (r ≡ refused 1) × (o' ≡ o)
  pub fewer : size ≤ 65536 → Call edition-one (take size input) o r o'

-- the lower-case digit for a number below 16
abbrev pub digit : ℕ → ℕ
digit d = get_or (ascii "0123456789abcdef") d 0

-- each byte in two digits, and a newline
unfoldable pub line_of : List ℕ → List ℕ
line_of [] = 10 ∷ []
line_of (b ∷ bs) = digit (b / 16) ∷ digit (b % 16) ∷ line_of bs
