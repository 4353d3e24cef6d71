use Rattle.emit.specs.Laws.{place_is}
use Rattle.sheet.proofs.ContentLaws.{unpatched, patched, past-never}
use native.Mathlib.Omega.{arith}
use Rattle.sheet.proofs.contents.patch.Goals as goal

pub returns-then-end-gt-PAST : goal.returns-then-end-gt-PAST
returns-then-end-gt-PAST c = unpatched _ _ (λ p q e f g. past-never _ c.if-end-gt-PAST.true f)

pub returns-then-from-end : goal.returns-then-from-end
returns-then-from-end c = patched _ _ _ (omega arith) (omega arith) c.overwrite.ensures

pub returns-else-from-end : goal.returns-else-from-end
returns-else-from-end c = unpatched _ _ (λ p q e f g. omega (arith, place_is c.args.from e, place_is c.args.end f, g, c.if-from-end.false))
