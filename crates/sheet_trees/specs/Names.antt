-- Names by where their table was looked up to lie. Assumes nothing.
use Rattle.std.specs.Prelude.{◌≡◌, cond, List, ℕ, ◌+◌, ◌≤◌, ◌<◌, ltb, ℤ, Option}
use Rattle.std.specs.Int.{w32}
use Rattle.std.proofs.Common.{of_z}
use Rattle.util.specs.Read.{read, or_zero}
use Rattle.records.specs.declared.answer.Place.{Place}
use Rattle.records.specs.Answer.{Answer, value, bind}
use Rattle.typelib.specs.declared.TypeLib.{TypeLib}
use Rattle.typelib.specs.Names.{name_bytes}
use Rattle.typelib.specs.Tables.{table_place}
use Rattle.description.specs.Description.{Bytes}
use Rattle.describe.specs.Values.{found, bytes_in}
use Rattle.sheet_trees.specs.declared.names.Names.{Names}

-- The names are this library's own: at a near offset, what is no longer than the longest name (255 bytes behind an intro of 12) is
-- wholly inside the table and the file, and lies where they say.
abbrev pub Near : List ℕ → TypeLib → Names → Type 0
Near s lib t = (offset n : ℕ) → offset < t.near → n ≤ 267 → value (record { at = t.at + offset; len = n }) ≡ table_place s lib 7 offset n

-- The name at an offset, whatever the names are: behind the intro at a near offset, as long as the byte at 8 of the intro says; at any
-- other as the library has it.
unfoldable pub name_in : List ℕ → TypeLib → Names → ℕ → Answer Place
name_in s lib t offset =
    cond (ltb offset t.near)
    (value (record { at = t.at + offset + 12; len = or_zero (read 1 s (t.at + offset + 8)) }))
    (name_bytes s lib offset)

-- its bytes: missing where its offset is
unfoldable pub name_in_by : List ℕ → TypeLib → Names → Answer ℤ → Option Bytes
name_in_by s lib t offset = found (bind offset (λ x. bytes_in s (name_in s lib t (of_z w32 x))))
