use Rattle.std.specs.Float.Ieee.{to_bits}
use Rattle.sheet_constants.proofs.Floats.{only_nan}
use Rattle.sheet_constants.proofs.bits.of_f64.Goals as goal

pub returns-then-is_nan : goal.returns-then-is_nan
unfolding to_bits
returns-then-is_nan c = rw (only_nan c.args.x c.is_nan.ensures.value c.if-is_nan.true)
