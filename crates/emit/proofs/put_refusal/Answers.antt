use Rattle.emit.specs.Laws.{refused-now, refused-stays}
use native.Mathlib.Omega.{arith}
use Rattle.emit.proofs.put_refusal.Goals as goal

pub returns-then-to-le-PAST : goal.returns-then-to-le-PAST
returns-then-to-le-PAST c = λ o. refused-now (omega arith) c.if-to-le-PAST.true (omega arith)

pub returns-else-to-le-PAST : goal.returns-else-to-le-PAST
returns-else-to-le-PAST c = λ o. refused-stays c.if-to-le-PAST.false
