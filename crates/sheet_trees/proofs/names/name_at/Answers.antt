use Rattle.std.proofs.Common.{arith}
use Rattle.sheet_trees.proofs.NameLaws.{near-in, far-in, near-name}
use Rattle.sheet_trees.proofs.names.name_at.Goals as goal

pub returns-then-offset-names : goal.returns-then-offset-names
returns-then-offset-names c = record { result_value = near-in _ _ _ _ _ c.if-offset-names.true c.or_zero-len.ensures; near_name = λ near. near-name _ _ _ _ _ near c.if-offset-names.true (omega arith) c.or_zero-len.ensures }

pub returns : goal.returns
returns c = record { result_value = far-in _ _ _ _ c.if-offset-names.false c.name_at.ensures; near_name = λ _. c.name_at.ensures }
