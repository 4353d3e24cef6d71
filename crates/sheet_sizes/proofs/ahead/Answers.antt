use Rattle.emit.specs.Laws.{advance-to}
use Rattle.emit.specs.Emit.{advance}
use Rattle.sheet_sizes.proofs.ahead.Goals.{then-n-le-PAST+else-to-n, else-n-le-PAST}
use native.Mathlib.Omega.{arith}
use Rattle.sheet_sizes.proofs.ahead.Goals as goal

pub returns-then-to-n : goal.returns-then-to-n
returns-then-to-n c = advance-to _ _ (omega arith)

pub returns : goal.returns
unfolding advance
returns c = elim c.if-n-le-PAST.branch [ then-n-le-PAST+else-to-n w ↦ omega arith | else-n-le-PAST w ↦ omega arith ]
