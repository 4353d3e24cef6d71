-- A record is a place and a length in the lent bytes; what its readings are (document 01). Assumes nothing.
use Rattle.std.specs.Prelude.{Bool, cond, List, [], ℕ, ◌+◌, ◌/◌, ◌%◌, ◌^◌, leb, ltb, eqb, ℤ, length, take, drop}
use Prim.Native.String.{String}
use Rattle.std.specs.Int.{w16, w32}
use Rattle.std.proofs.Common.{to_z}
use Rattle.util.specs.Read.{le}
use Rattle.records.specs.Answer.{Answer, value, refused, map, bind}
use Rattle.records.specs.declared.answer.Place.{Place}
use Rattle.records.specs.Layout.{Layout, size_of, offset_of, width_of}

-- the most bytes that are read (refusal 1)
abbrev pub limit : ℕ
limit = 16777216

-- the record of `len` bytes at `at` may be read: refusal 1 where more bytes than the limit are lent; 9 where the record is
-- shorter than its fixed part or not wholly inside them
unfoldable pub held : List ℕ → ℕ → ℕ → ℕ → Answer Unit
held s at len fixed =
    cond (ltb limit (length s)) (refused 1)
    (cond (ltb len fixed) (refused 9)
    (cond (leb (at + len) (length s)) (value tt) (refused 9)))

-- the place of a record whose fixed part is `fixed`
abbrev pub record_place : ℕ → List ℕ → ℕ → ℕ → Answer Place
record_place fixed s at len = map (λ _. record { at = at; len = len }) (held s at len fixed)

-- the place of the `w` bytes at `offset` of the record; 9 where they leave it
unfoldable pub field_place : ℕ → ℕ → ℕ → List ℕ → ℕ → ℕ → Answer Place
field_place w fixed offset s at len =
    bind (held s at len fixed) (λ _.
    cond (leb (offset + w) len) (value (record { at = at + offset; len = w })) (refused 9))

-- the number of those bytes, little-endian
abbrev pub field_at : ℕ → ℕ → ℕ → List ℕ → ℕ → ℕ → Answer ℕ
field_at w fixed offset s at len = map (λ p. le w s p.at) (field_place w fixed offset s at len)

-- the field of that name
abbrev pub field : Layout → String → List ℕ → ℕ → ℕ → Answer ℕ
field l name s at len = field_at (width_of l name) (size_of l) (offset_of l name) s at len

-- the place of the field of that name
abbrev pub place_of : Layout → String → List ℕ → ℕ → ℕ → Answer Place
place_of l name s at len = field_place (width_of l name) (size_of l) (offset_of l name) s at len

-- a stored number as a signed one, by two's complement
abbrev pub signed16 : Answer ℕ → Answer ℤ
signed16 = map (to_z w16)

abbrev pub signed32 : Answer ℕ → Answer ℤ
signed32 = map (to_z w32)

-- the `count` bits of a number from bit `low` up
abbrev pub bits_of : ℕ → ℕ → ℕ → ℕ
bits_of low count n = n / 2 ^ low % 2 ^ count

-- whether the bit of that mask, a power of two, is set
abbrev pub flag_set : ℕ → ℕ → Bool
flag_set mask n = eqb (n / mask % 2) 1

-- the bytes of a place: none where it is refused or not wholly inside the list
unfoldable pub part_of : List ℕ → Answer Place → List ℕ
part_of s (value p) = cond (leb (p.at + p.len) (length s)) (take p.len (drop p.at s)) []
part_of s (refused n) = []
