use Rattle.texts.specs.TextLaws.{laid_none, laid-front}
use mathlib.Core.Path.{refl}
use native.Mathlib.Omega.{arith}
use Rattle.texts.proofs.text.put.Goals as goal

pub returns-then-out-len : goal.returns-then-out-len
returns-then-out-len c = laid_none c.if-out-len.true

pub returns : goal.returns
returns c = let t = c.args.text.now in laid-front (omega arith) refl (rw c.copy_from_slice.ensures.after)
