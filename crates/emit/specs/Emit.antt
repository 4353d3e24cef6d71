-- What an emitter does to its place and to the output. What is to be emitted is an answer: bytes, or the number of a refusal.
-- Assumes nothing.
use Rattle.std.specs.Prelude.{◌≡◌, cond, List, ◌++◌, ℕ, suc, ◌+◌, ◌*◌, ◌-◌, ◌%◌, ◌≤◌, min, max, leb, length, take}
use Rattle.std.proofs.lemmas.List.Edits.{sets}
use Rattle.records.specs.Answer.{Answer, value, refused}
use Rattle.records.specs.declared.answer.Place.{Place}
use Rattle.records.specs.Record.{limit, part_of}
use Rattle.description.specs.Format.{le_bytes}
use Rattle.description.specs.Description.{Bytes}

-- x, and y behind it unless x is a refusal
infixr 20 ◌▸◌
abbrev pub ◌▸◌ : Answer Bytes → Answer Bytes → Answer Bytes
value a ▸ value b = value (a ++ b)
value a ▸ refused n = refused n
refused n ▸ y = refused n

-- where the next byte goes, or the number of the refusal
pub data Put : Type 0 where
  At : ℕ → Put
  Refused : ℕ → Put

-- one more than the most bytes that a sheet has: no place is past it
abbrev pub past : ℕ
past = suc limit

-- The number that stands for it in the code, where one number costs less than two: a place, and past all places refusal 0 and so
-- on. (The number of a refusal is a byte.)
unfoldable pub put : ℕ → Put
put n = cond (leb n past) (At n) (Refused ((n - suc past) % 256))

-- A place n bytes on, which stops one past the limit: from there no place is within it again, and none overflows.
unfoldable pub advance : ℕ → ℕ → ℕ
advance p n = max p (min (p + n) past)

-- where an emitter of x ends that is called at t; a refusal stays
abbrev pub moved : Put → Answer Bytes → Put
moved (At p) (value bs) = At (advance p (length bs))
moved (At p) (refused n) = Refused n
moved (Refused m) x = Refused m

-- What it leaves in the output, where nothing was refused and there is room for the bytes: they stand at its place, behind what stood
-- before it. What stands behind them is left to the emitter, which may store more than it emits: the next one goes over it, and a
-- sheet ends with the output that its emitters are lent.
abbrev pub Laid : Put → Answer Bytes → List ℕ → List ℕ → Type 0
Laid (At p) (value bs) o o' = p + length bs ≤ limit → p + length bs ≤ length o → take (p + length bs) o' ≡ take p o ++ bs
Laid (At p) (refused n) o o' = Unit {0}
Laid (Refused m) x o o' = Unit {0}

-- What it leaves alone, whatever happens (a refusal, no room): what stands before its place; called at a refusal, all of the output.
abbrev pub spared : Put → List ℕ → List ℕ
spared (At p) o = take p o
spared (Refused m) o = o

-- THE CONTRACT OF EVERY EMITTER: called at the place t with the output o, it emitted x, ended at r and left o'
pub record Emitted (x : Answer Bytes) (t : Put) (o : List ℕ) (r : Put) (o' : List ℕ) : Type 0 where
  pub moves : r ≡ moved t x
  pub lays : Laid t x o o'
  pub spares : spared t o' ≡ spared t o
  pub keeps : length o' ≡ length o

-- the same with the numbers that stand for the two places in the code
abbrev pub Emits : Answer Bytes → ℕ → List ℕ → ℕ → List ℕ → Type 0
Emits x to o r o' = Emitted x (put to) o (put r) o'

-- THE OUTPUT WITH BYTES OVER what stands at a place, where there is room for them; as it was where there is none, and at a refusal
unfoldable pub overwritten : Bytes → Put → List ℕ → List ℕ
overwritten bs (At p) o = cond (leb (p + length bs) (length o)) (sets o p bs) o
overwritten bs (Refused m) o = o

pub record Overwritten (bs : Bytes) (t : Put) (o o' : List ℕ) : Type 0 where
  pub over : o' ≡ overwritten bs t o

-- a part of at most so many bytes is short
abbrev pub short : ℕ
short = 32

-- WHERE THE SHORT WAY IS TAKEN: the part of the library is short, and the longest that is would be inside the library there and, behind
-- two bytes, have room in the output and within its limit
pub record Short (s : List ℕ) (part : Place) (to : ℕ) (o : List ℕ) : Type 0 where
  pub few : part.len ≤ short
  pub within : to + (2 + short) ≤ past
  pub inside : part.at + short ≤ length s
  pub room : to + (2 + short) ≤ length o

-- x was emitted, which is so just where P; otherwise r is 0 and nothing was done
pub record Tried (P : Type 0) (x : Answer Bytes) (to : ℕ) (o : List ℕ) (r : ℕ) (o' : List ℕ) : Type 0 where
  pub none : r ≡ 0 → o' ≡ o
  pub done : (r ≡ 0 → ⊥) → Emitted x (put to) o (put r) o'
  pub tries : P → r ≡ 0 → ⊥
  pub only : (r ≡ 0 → ⊥) → P

-- byte 1, the length in one byte and the bytes at a place of the library
unfoldable pub counted_part : List ℕ → Place → Answer Bytes
counted_part s p = value (le_bytes 2 (1 + 256 * (length (part_of s (value p)) % 256))) ▸ value (part_of s (value p))

-- THE SHORT WAY WAS TRIED: the counted part was emitted just where that way is taken
abbrev pub TriedShort : List ℕ → Place → ℕ → List ℕ → ℕ → List ℕ → Type 0
TriedShort s part to o r o' = Tried (Short s part to o) (counted_part s part) to o r o'
