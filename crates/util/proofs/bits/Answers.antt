use Rattle.util.proofs.Shift.{past, whole, positive, masked}
use Rattle.util.proofs.bits.Goals as goal

pub returns-then-low-ge32 : goal.returns-then-low-ge32
returns-then-low-ge32 c = past c.args.count c.ranges.x.fits c.if-low-ge32.true

pub returns-then-count-ge32 : goal.returns-then-count-ge32
returns-then-count-ge32 c = whole c.args.low c.ranges.x.fits c.if-count-ge32.true

pub overflow_sub-result : goal.overflow_sub-result
overflow_sub-result c = positive c.if-count-ge32.false

pub returns : goal.returns
returns c = masked _ c.if-count-ge32.false
