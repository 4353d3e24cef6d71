-- The number of a record, and steps that hand it out with the record (document 02, §10). Assumes nothing.
use Rattle.std.specs.Prelude.{◌≡◌, cond, ℕ, ◌+◌, ltb}
use Rattle.records.specs.Answer.{Answer, value, refused}

-- the largest 64-bit number
abbrev pub largest : ℕ
largest = 0xffffffffffffffff

-- THE NUMBER of a record is the count of the records before it, and stops at the largest 64-bit number
unfoldable pub number_of : ℕ → ℕ
number_of before = cond (ltb before largest) before largest

-- ---- without the number: one `next` of the source's iterators

-- a record, and where the cursor then stands; or a refusal, and where it stands: at the end, where it stood
pub data Next (R D : Type 0) : Type 0 where
  item : R → D → Next R D
  stop : ℕ → D → Next R D

-- goes on with the value, or stops where the cursor stands
abbrev pub next_by : {A R D : Type 0} → D → (A → R) → (A → D) → Answer A → Next R D
next_by d record_of next (value a) = item (record_of a) (next a)
next_by d record_of next (refused n) = stop n d

-- ---- with it

-- a record, its number and the next cursor; or a refusal and a cursor, which is the same one at the end
pub data Step (R C : Type 0) : Type 0 where
  yielded : R → ℕ → C → Step R C
  ended : ℕ → C → Step R C

-- the number n beside what `next` gives: a cursor that has yielded n records hands out the one with number n, and has then yielded one more
abbrev pub beside : {R D C : Type 0} → (D → ℕ → C) → ℕ → Next R D → Step R C
beside cursor n (item r d) = yielded r n (cursor d (number_of (n + 1)))
beside cursor n (stop m d) = ended m (cursor d n)

-- a cursor is where it stands and how many records it has yielded, and nothing else
pub record Counting (C D : Type 0) : Type 0 where
  pub stands : C → D
  pub count : C → ℕ
  pub cursor : D → ℕ → C
  pub whole : (c : C) → cursor (stands c) (count c) ≡ c
  pub stood : (d : D) (n : ℕ) → stands (cursor d n) ≡ d
  pub counted : (d : D) (n : ℕ) → count (cursor d n) ≡ n

-- A STEP is the one without numbers, with the number beside it
abbrev pub with_number : {R D C : Type 0} → Counting C D → (D → Next R D) → C → Step R C
with_number k next c = beside k.cursor (k.count c) (next (k.stands c))
