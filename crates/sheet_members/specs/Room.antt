-- The parameters of a function lie in its record. Assumes nothing.
use Rattle.std.specs.Prelude.{◌≡◌, List, ℕ, ◌+◌, ◌*◌, ◌≤◌, length}
use Rattle.records.specs.Record.{limit}
use Rattle.cursors.specs.declared.iterators.ParamCursor.{ParamCursor}

-- the cursor is at the first, and all that it has remaining lie one behind the other up to its end, inside the bytes
pub record Room (s : List ℕ) (c : ParamCursor) : Type 0 where
  pub few : length s ≤ limit
  pub first : c.yielded ≡ 0
  pub whole : c.pos + 12 * c.remaining ≤ c.end
  pub inside : c.end ≤ length s
