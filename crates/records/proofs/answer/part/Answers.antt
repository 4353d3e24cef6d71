use Prim.Native.Nat.{◌+◌, ◌-◌}
use Rattle.records.specs.RecordLaws.{part-refused, part-outside, part-inside}
use Rattle.records.specs.Told.{told_as}
use mathlib.Core.Path.{ap, sym}
use native.Mathlib.Omega.{arith}
use Rattle.records.proofs.answer.part.Goals as goal

pub returns-in_default : goal.returns-in_default
returns-in_default g c = part-refused _ _ _ (sym (ap (told_as g.E.Refuses.number) c.in_default.is))

pub returns-then-s-at : goal.returns-then-s-at
returns-then-s-at g c = part-outside _ _ _ (sym (ap (told_as g.E.Refuses.number) c.in-Ok.is)) (omega arith)

pub returns-then-s-at-2 : goal.returns-then-s-at-2
returns-then-s-at-2 g c = part-outside _ _ _ (sym (ap (told_as g.E.Refuses.number) c.in-Ok.is)) (omega arith)

pub returns : goal.returns
returns g c = let p = c.in-Ok.place in part-inside _ _ p (p.at + p.len - p.at) (sym (ap (told_as g.E.Refuses.number) c.in-Ok.is)) (omega arith) (omega arith)
