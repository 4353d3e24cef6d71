-- The tables of a library, each a segment of the file (Wine's MSFT_SegDir numbers them from 1, the Rust from 0).
-- Assumes nothing.
use Rattle.std.specs.Prelude.{Bool, cond, ◌&&◌, List, ℕ, ◌+◌, leb, ltb, eqb, length}
use Rattle.records.specs.declared.answer.Place.{Place}
use Rattle.records.specs.Answer.{Answer, value, refused, bind}
use Rattle.records.specs.Record.{limit}
use Rattle.typelib.specs.declared.TypeLib.{TypeLib}
use Rattle.typelib.specs.Header.{segment_offset, segment_length}

-- bytes above the limit are 1 to every entry
unfoldable pub lent : {A : Type 0} → List ℕ → Answer A → Answer A
lent s a = cond (ltb limit (length s)) (refused 1) a

-- a 32-bit pattern that is negative as a signed number
abbrev pub negative : ℕ → Bool
negative n = leb 0x80000000 n

-- a segment with a negative offset or a length below 1 is missing
unfoldable pub segment_place : ℕ → ℕ → Answer Place
segment_place offset size =
    cond (negative offset) (refused 9)
    (cond (eqb size 0) (refused 9)
    (cond (negative size) (refused 9)
    (value (record { at = offset; len = size }))))

-- WHERE SEGMENT k LIES, by the library's own numbers
unfoldable pub segment_of : TypeLib → ℕ → Answer Place
segment_of lib k = cond (leb 15 k) (refused 9) (segment_place (segment_offset lib k) (segment_length lib k))

-- WHERE A TABLE ENDS (document 02, §2): bytes of it end by the segment's end and by the file's, whichever is nearer. `end` is counted
-- from the table's start.
abbrev pub in_table : List ℕ → Place → ℕ → Bool
in_table s table end = leb end table.len && leb (table.at + end) (length s)

-- where the `size` bytes at `offset`, a 32-bit pattern, of a table lie
unfoldable pub place_in : List ℕ → Place → ℕ → ℕ → Answer Place
place_in s table offset size =
    cond (negative offset) (refused 9)
    (cond (in_table s table (offset + size)) (value (record { at = table.at + offset; len = size })) (refused 9))

-- the same of the table in segment k: 9 where it is missing
abbrev pub table_place : List ℕ → TypeLib → ℕ → ℕ → ℕ → Answer Place
table_place s lib k offset size = lent s (bind (segment_of lib k) (λ table. place_in s table offset size))

-- a segment's bytes; a missing one has none, so that nothing lies in it
abbrev pub table_of : Answer Place → Place
table_of (value p) = p
table_of (refused n) = record { at = 0; len = 0 }
