use Rattle.std.specs.Prelude.{◌≡◌, replicate}
use Rattle.typelib.specs.Tabulate.{filled}
use Rattle.typelib.specs.Header.{pair_at}
use Rattle.typelib.proofs.numbers_at.Given as goal

abbrev pub invariant-loop-i : goal.invariant-loop-i
invariant-loop-i l = (l.initial.numbers ≡ replicate 32 0) × (l.numbers ≡ filled (pair_at l.s l.at) l.i l.initial.numbers)
