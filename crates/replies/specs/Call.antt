-- What a call replies, and what it leaves in its output: the convention for C. Assumes nothing.
use Rattle.std.specs.Prelude.{Bool, cond, List, ℕ, zero, suc, ℤ, pos, neg_ℤ, length}
use Rattle.std.specs.Int.{w16, w32}
use Rattle.std.proofs.Common.{of_z}
use Rattle.records.specs.Answer.{Answer, value, refused, map}
use Rattle.records.specs.declared.types.TypeKind.{TypeKind}
use Rattle.records.specs.declared.types.TypeKind.TheVariants as kind
use Rattle.texts.specs.Text.{fitted, fronted}
use Rattle.typelib.specs.declared.TypeLib.{TypeLib}
use Rattle.typelib.specs.Header.{parse_of, parsed}

-- ---- a call that reads the library begins with `parse` (one that reads a record, a text or a cursor alone does not)

-- the number that `parse` refuses with, or 0
unfoldable pub refusal_of : List ℕ → ℕ
refusal_of s = (parsed (parse_of s)).number

-- the library that it gives
unfoldable pub library_in : List ℕ → TypeLib
library_in s = (parsed (parse_of s)).lib

-- the answer, unless a number other than 0 was refused before it
unfoldable pub after : {A : Type 0} → ℕ → Answer A → Answer A
after zero a = a
after (suc n) a = refused (suc n)

-- THE ANSWER BEHIND `parse`: where that refuses, its refusal (`past_value` and `past-refused` of `ParseLaws`)
abbrev pub past : {A : Type 0} → List ℕ → Answer A → Answer A
past s a = after (refusal_of s) a

-- the answer of a reading of the library that `parse` gives
abbrev pub in_library : {A : Type 0} → List ℕ → (TypeLib → Answer A) → Answer A
in_library s reading = past s (reading (library_in s))

-- ---- one number of at most 32 bits is replied

-- a number, or minus the number of the refusal
unfoldable pub reply : Answer ℕ → ℤ
reply (value n) = pos n
reply (refused n) = neg_ℤ (pos n)

-- the reply, unless a number other than 0 was refused before it (`behind-reply` of `CallLaws`)
unfoldable pub reply_behind : ℕ → ℤ → ℤ
reply_behind zero z = z
reply_behind (suc n) z = neg_ℤ (pos (suc n))

-- a signed number is replied by its bits, a truth as 0 or 1, a kind by its number
abbrev pub bits16 : Answer ℤ → Answer ℕ
bits16 = map (of_z w16)

abbrev pub bits32 : Answer ℤ → Answer ℕ
bits32 = map (of_z w32)

abbrev pub truth : Answer Bool → Answer ℕ
truth = map (λ b. cond b 1 0)

unfoldable pub kind_number : TypeKind → ℕ
kind_number kind.Enum = 0
kind_number kind.Record = 1
kind_number kind.Module = 2
kind_number kind.Interface = 3
kind_number kind.Dispatch = 4
kind_number kind.CoClass = 5
kind_number kind.Alias = 6
kind_number kind.Union = 7
kind_number (kind.Unknown n) = n

-- ---- any other values are laid into the output

-- what is replied, and what is left in the output
pub data Outcome : Type 0 where
  outcome : ℤ → List ℕ → Outcome

-- VALUES LAID INTO AN OUTPUT: their bytes over its front, and their number replied. A refusal leaves the output as it was; an
-- output that has no room for all of them is refusal 12.
unfoldable pub laid : Answer (List ℕ) → List ℕ → Outcome
laid a o = outcome (reply (map length (fitted a o))) (fronted (fitted a o) o)
