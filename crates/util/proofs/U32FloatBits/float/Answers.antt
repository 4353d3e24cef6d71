use borrow.Author.Tests.{le-ltb, lt-ltb}
use lib.Ieee.{binary32}
use Rattle.util.specs.Real.{real_of}
use lib.Ieee.Bits.{nan_bits_above}
use Rattle.util.proofs.U32FloatBits.float.Goals as goal

pub float_from_bits-result : goal.float_from_bits-result
float_from_bits-result c = rw (nan_bits_above binary32 c.args.self, le-ltb _ _ c.if-self-gt2139095040.false) tt

pub returns-then-self-gt2139095040 : goal.returns-then-self-gt2139095040
unfolding real_of
returns-then-self-gt2139095040 c = rw (nan_bits_above binary32 c.args.self, lt-ltb _ _ c.if-self-gt2139095040.true)

pub returns-else-self-gt2139095040 : goal.returns-else-self-gt2139095040
unfolding real_of
returns-else-self-gt2139095040 c = rw (nan_bits_above binary32 c.args.self, le-ltb _ _ c.if-self-gt2139095040.false)
