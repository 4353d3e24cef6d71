use Rattle.replies.specs.Written.{counted, uncounted, unwritten}
use Rattle.records.specs.Told.{told_as}
use Rattle.records.specs.Answer.{refused}
use Rattle.std.proofs.Common.{arith, refl, ap}
use Rattle.replies.proofs.reply.of_written.Goals as goal

pub returns-then-n-lt9223372036854775808 : goal.returns-then-n-lt9223372036854775808
returns-then-n-lt9223372036854775808 g c = counted (told_as g.E.Refuses.number) c.if-n-lt9223372036854775808.true c.in-Ok.is refl

pub returns-else-n-lt9223372036854775808 : goal.returns-else-n-lt9223372036854775808
returns-else-n-lt9223372036854775808 g c = uncounted (told_as g.E.Refuses.number) c.if-n-lt9223372036854775808.false c.in-Ok.is refl

pub returns-in-Err : goal.returns-in-Err
returns-in-Err g c = unwritten (told_as g.E.Refuses.number) (omega arith) c.in-Err.is (ap refused c.number_of.ensures) c.minus.ensures
