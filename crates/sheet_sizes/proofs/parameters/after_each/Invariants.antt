use Rattle.sheet_sizes.proofs.MemberLaws.{parameters_at}
use Rattle.sheet_sizes.proofs.CountLaws.{Left}
use Rattle.sheet_sizes.specs.Counts.{with}
use Rattle.sheet_sizes.specs.declared.Count.{Count}
use Rattle.typelib.specs.Header.{library}
use Rattle.sheet_sizes.proofs.parameters.after_each.Given as goal

abbrev pub invariant-loop-i : goal.invariant-loop-i
invariant-loop-i l = (k : Count) → Left (parameters_at l.s (library l.lib) l.cursor l.func 0) (with k l.initial.t) (parameters_at l.s (library l.lib) l.cursor l.func l.i) (with k l.t)
