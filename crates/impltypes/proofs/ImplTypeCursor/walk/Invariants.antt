use Rattle.impltypes.specs.ChainLaws.{Stands}
use Rattle.impltypes.proofs.ImplTypeCursor.walk.Given as goal

abbrev pub invariant-loop-n : goal.invariant-loop-n
invariant-loop-n l = Stands l.s (record { table = l.self.table; next = l.self.next }) l.n l.offset
