use native.Mathlib.Omega.{arith}
use Rattle.utf8.specs.Parts.{tail-end, tail-outside, tail-inside}
use Rattle.utf8.proofs.tail.Goals as goal

pub returns-then-s-i : goal.returns-then-s-i
returns-then-s-i c = λ then. tail-end _ _ _ _ then c.if-s-i.true

pub returns-then-b-hi : goal.returns-then-b-hi
returns-then-b-hi c = λ then. tail-inside _ _ _ _ then (omega arith) (omega arith) (omega arith)

pub returns-else-lo-b : goal.returns-else-lo-b
returns-else-lo-b c = λ then. tail-outside _ _ _ _ then (omega arith) c.else-lo-b.either
