-- Floats by their bits (IEEE 754). The language makes a float of a pattern only where the pattern is no NaN's, so a NaN is
-- kept as its bits. Assumes nothing.
use Rattle.std.specs.Prelude.{◌≡◌, refl, Bool, true, false, cond, not, ℕ, ◌*◌, ◌<◌, T, Float}
use Rattle.std.proofs.Common.{sym, ◌∙◌}
use Rattle.std.specs.Float.{Format}
use Rattle.util.specs.declared.Real.{Real}
use Rattle.util.specs.declared.Real.TheVariants.{Number, Nan}
use Rattle.std.specs.Float.Ieee.{of_bits, to_bits, nan_bits, is_nan, top}
use Rattle.std.specs.Float.Ieee.Bits.{nan_bits_is, to_bits-of_bits}

-- the real of a bit pattern: a float that is no NaN, or the bits of a NaN
unfoldable pub real_of : Format → ℕ → Real Float ℕ
real_of f n = cond (nan_bits f n) (Nan n) (Number (of_bits f n))

-- its bits
unfoldable pub bits_of : Format → Real Float ℕ → ℕ
bits_of f (Number x) = to_bits f x
bits_of f (Nan n) = n

back_at : (f : Format) (n : ℕ) (b : Bool) → nan_bits f n ≡ b → n < 2 * top f → bits_of f (real_of f n) ≡ n
unfolding real_of bits_of
back_at f n true e h = rw e
back_at f n false e h =
    let i : is_nan (of_bits f n) ≡ false = sym (nan_bits_is f n) ∙ e in
    let t : T (not (is_nan (of_bits f n))) = rw i tt in
    rw e (to_bits-of_bits f n h t)

-- the bits come back, at every format and every pattern
pub bits_back : (f : Format) (n : ℕ) → n < 2 * top f → bits_of f (real_of f n) ≡ n
bits_back f n h = back_at f n (nan_bits f n) refl h
