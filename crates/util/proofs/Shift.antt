-- A shift and a mask of a 32-bit number, at every shift and count. Assumes nothing.
use mathlib.Core.Path.{◌≡◌, sym}
use Prim.Native.Nat.{ℕ, ◌-◌, ◌*◌, ◌/◌, ◌%◌, ◌^◌, ◌≤◌, ◌<◌}
use native.Mathlib.Nat.{one-mul, mod-eq_of_lt, div-eq_of_lt, zero-mod, lt_of_lt_of_le, lt_of_le_of_lt}
use lib.Bits.{bit_and, and_mask}
use lib.Pow.{pow_pos, pow_mono, pow-lt, shr_le}

-- a shift by the width or more leaves nothing
pub past : {x low : ℕ} (count : ℕ) → x < 2 ^ 32 → 32 ≤ low → 0 ≡ x / 2 ^ low % 2 ^ count
past {x} {low} count hx h =
    let e : x / 2 ^ low ≡ 0 = div-eq_of_lt (lt_of_lt_of_le hx (pow_mono h)) in
    sym (rw e (zero-mod (2 ^ count)))

-- a mask of the width or more keeps all
pub whole : {x count : ℕ} (low : ℕ) → x < 2 ^ 32 → 32 ≤ count → x / 2 ^ low ≡ x / 2 ^ low % 2 ^ count
whole {x} {count} low hx h = sym (mod-eq_of_lt (lt_of_lt_of_le (lt_of_le_of_lt (shr_le x low) hx) (pow_mono h)))

-- a power below the width, as the code makes it
pub power : {count : ℕ} → count < 32 → 1 * 2 ^ count % 4294967296 ≡ 2 ^ count
power {count} h = rw one-mul (mod-eq_of_lt (pow-lt {i = count} {j = 32} h))

pub positive : {count : ℕ} → count < 32 → 1 ≤ 1 * 2 ^ count % 4294967296
positive {count} h = rw (power h) (pow_pos count)

pub masked : {count : ℕ} (n : ℕ) → count < 32 → bit_and n (1 * 2 ^ count % 4294967296 - 1) ≡ n % 2 ^ count
masked {count} n h = rw (power h) (and_mask n count)
