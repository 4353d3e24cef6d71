-- What the check replies (document 02, §3), by worked cases as rows of one list.
use Rattle.std.specs.Prelude.{◌≡◌, refl, true, false, List, [], ◌∷◌, map, ℕ}
use Rattle.std.proofs.Common.{ap}
use Rattle.utf8.specs.Utf8.{after_first, after_tail, after_byte, accepts}
use Rattle.utf8.specs.LookedLaws.{read_from}
use Rattle.utf8.specs.Looked.{checked}
use Rattle.utf8.specs.Parts.{checked_from, from_start}
use Rattle.utf8.specs.declared.TextCheck.{TextCheck}

-- bytes, and what is replied of them
pub record Row : Type 0 where
  pub bytes : List ℕ
  pub said : TextCheck

-- a valid text of n bytes; and one of which n bytes are looked at
abbrev pub valid : List ℕ → ℕ → Row
valid s n = record { bytes = s; said = record { valid = true; looked = n } }

abbrev pub not_valid : List ℕ → ℕ → Row
not_valid s n = record { bytes = s; said = record { valid = false; looked = n } }

abbrev pub rows : List Row
rows =
    valid [] 0
    ∷ valid (0x61 ∷ 0x62 ∷ 0x63 ∷ []) 3
    ∷ valid (0xc3 ∷ 0xa9 ∷ []) 2
    ∷ valid (0xed ∷ 0x9f ∷ 0xbf ∷ []) 3  -- the last character before the surrogates
    ∷ valid (0xf4 ∷ 0x8f ∷ 0xbf ∷ 0xbf ∷ []) 4  -- the last of all, 10FFFF
    ∷ not_valid (0xc3 ∷ []) 1  -- breaks off
    ∷ not_valid (0x61 ∷ 0xe2 ∷ 0x82 ∷ []) 3
    ∷ not_valid (0xf0 ∷ 0x9f ∷ 0x98 ∷ []) 3
    ∷ not_valid (0x80 ∷ 0x61 ∷ []) 1  -- a tail where a character begins
    ∷ not_valid (0x61 ∷ 0xff ∷ 0x61 ∷ []) 2
    ∷ not_valid (0xc3 ∷ 0x61 ∷ 0x61 ∷ []) 2  -- no tail where one is due
    ∷ not_valid (0xc3 ∷ 0x61 ∷ []) 2  -- the same as the last byte: looked at whole, as what breaks off
    ∷ not_valid (0xe2 ∷ 0x82 ∷ 0x61 ∷ 0x61 ∷ []) 3
    ∷ not_valid (0xf0 ∷ 0x9f ∷ 0x98 ∷ 0x61 ∷ 0x61 ∷ []) 4
    ∷ not_valid (0xc0 ∷ 0x80 ∷ []) 1  -- two bytes for what fits in one
    ∷ not_valid (0xe0 ∷ 0x9f ∷ 0xbf ∷ []) 2  -- three for what fits in two
    ∷ not_valid (0xf0 ∷ 0x8f ∷ 0xbf ∷ 0xbf ∷ []) 2  -- four for what fits in three
    ∷ not_valid (0xed ∷ 0xa0 ∷ 0x80 ∷ []) 2  -- the first surrogate
    ∷ not_valid (0xf4 ∷ 0x90 ∷ 0x80 ∷ 0x80 ∷ []) 2  -- above 10FFFF
    ∷ not_valid (0xf5 ∷ 0x80 ∷ 0x80 ∷ 0x80 ∷ []) 1
    ∷ []

by-test : (rs : List Row) → map (λ (r : Row). checked r.bytes) rs ≡ map (λ (r : Row). checked_from 0 0 r.bytes) rs
by-test [] = refl
by-test (r ∷ rs) = rw (from_start r.bytes) (ap {B = List TextCheck} (λ t. checked r.bytes ∷ t) (by-test rs))

pub cases : map (λ (r : Row). checked r.bytes) rows ≡ map (λ (r : Row). r.said) rows
unfolding checked_from read_from accepts after_byte after_first after_tail
cases = by-test rows
