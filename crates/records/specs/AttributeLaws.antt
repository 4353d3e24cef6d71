-- Laws of `Attributes`, a case each. Assumes nothing.
use Rattle.std.specs.Prelude.{◌≡◌, Bool, true, false, List, ℕ, ◌+◌, ◌-◌, ◌*◌, ◌/◌, ◌≤◌, ◌<◌, ℤ}
use Rattle.std.proofs.Common.{arith, to_z}
use borrow.Author.Tests.{le-leb, lt-leb, le-ltb, lt-ltb}
use Rattle.std.specs.Int.{w16}
use Rattle.records.specs.Answer.{Answer, refused}
use Rattle.records.specs.Layout.{size_of, func_record}
use Rattle.records.specs.Record.{field_at, signed32}
use Rattle.records.specs.Attributes.{attribute_at, at_least_zero, default_at, attribute_room}

module _ (fixed k count : ℕ) (s : List ℕ) (at len : ℕ) where
  pub attribute-missing : count ≤ k → refused 9 ≡ attribute_at fixed k count s at len
  unfolding attribute_at
  attribute-missing h = rw (le-leb count k h)

  pub attribute-there : (r : Answer ℤ) → k < count → r ≡ signed32 (field_at 4 fixed (fixed + 4 * k) s at len) → r ≡ attribute_at fixed k count s at len
  unfolding attribute_at
  attribute-there r h e = rw (lt-leb count k h) e

-- a 16-bit count that is not negative, and one that is
pub count-positive : (x : ℕ) → x < 0x8000 → x ≡ at_least_zero (to_z w16 x)
count-positive x h = rw (lt-ltb x 0x8000 h)

pub count-negative : (x : ℕ) → 0x8000 ≤ x → 0 ≡ at_least_zero (to_z w16 x)
count-negative x h = rw (le-ltb x 0x8000 h)

module _ (index n : ℕ) (present : Bool) (s : List ℕ) (at len : ℕ) where
  pub default-beyond : n ≤ index → refused 9 ≡ default_at index n present s at len
  unfolding default_at
  default-beyond h = rw (le-leb n index h)

  pub default-short : index < n → len < 16 * n → refused 9 ≡ default_at index n present s at len
  unfolding default_at
  default-short h k = rw (lt-leb n index h, lt-ltb len (16 * n) k)

  pub default-absent : index < n → 16 * n ≤ len → present ≡ false → refused 9 ≡ default_at index n present s at len
  unfolding default_at
  default-absent h k e = rw (lt-leb n index h, le-ltb len (16 * n) k, e)

  pub default-there : (r : Answer ℤ) → index < n → 16 * n ≤ len → present ≡ true → r ≡ signed32 (field_at 4 (size_of func_record) (len - 16 * n + 4 * index) s at len) → r ≡ default_at index n present s at len
  unfolding default_at
  default-there r h k e f = rw (lt-leb n index h, le-ltb len (16 * n) k, e) f

pub room-with : (size n r : ℕ) (d : Bool) → d ≡ true → r ≡ (size - (24 + 16 * n)) / 4 → r ≡ attribute_room size n d
unfolding attribute_room
room-with size n r d e h = rw e (omega arith)

pub room-without : (size n r : ℕ) (d : Bool) → d ≡ false → r ≡ (size - (24 + 12 * n)) / 4 → r ≡ attribute_room size n d
unfolding attribute_room
room-without size n r d e h = rw e (omega arith)
