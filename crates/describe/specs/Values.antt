-- What the fields of a description are made of: numbers and bytes that the readings find, and lists of answers.
-- Assumes nothing.
use Rattle.std.specs.Prelude.{List, [], ◌∷◌, ℕ, ◌+◌, ◌<◌, get_or, Option, Some, None}
use Prim.Native.String.{String}
use Rattle.util.specs.Read.{read, or_zero}
use Rattle.records.specs.declared.answer.Place.{Place}
use Rattle.records.specs.Answer.{Answer, value, refused, map, bind}
use Rattle.records.specs.Layout.{Layout, offset_of, width_of}
use Rattle.records.specs.Record.{part_of}
use Rattle.description.specs.Description.{Bytes}

-- each byte is below 256, as it is of every slice of bytes that is lent
abbrev pub Octets : List ℕ → Type 0
Octets s = (i : ℕ) → get_or s i 0 < 256

-- what a reading found; missing where it refused
abbrev pub found : {A : Type 0} → Answer A → Option A
found (value a) = Some a
found (refused n) = None

-- the bytes at a place that a reading found
abbrev pub bytes_in : List ℕ → Answer Place → Answer Bytes
bytes_in s = map (λ p. part_of s (value p))

-- The field of that name of the record at `at`. The record lies inside the bytes, and then this is what the reading of the
-- field answers (`field_is` of `FieldLaws`).
abbrev pub field_of : Layout → String → List ℕ → ℕ → ℕ
field_of l name s at = or_zero (read (width_of l name) s (at + offset_of l name))

-- the values of all answers, or the first refusal
abbrev pub and_then : {A : Type 0} → Answer A → Answer (List A) → Answer (List A)
and_then x xs = bind x (λ a. map (λ rest. a ∷ rest) xs)

unfoldable pub all : {A : Type 0} → List (Answer A) → Answer (List A)
all [] = value []
all (x ∷ xs) = and_then x (all xs)

-- f of each record with its number, from i on
unfoldable pub numbered : {A : Type 0} → (ℕ → Place → Answer A) → ℕ → List Place → List (Answer A)
numbered f i [] = []
numbered f i (p ∷ ps) = f i p ∷ numbered f (i + 1) ps
