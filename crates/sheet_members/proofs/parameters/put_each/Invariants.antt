use Rattle.typelib.specs.Header.{library}
use Rattle.emit.specs.Emit.{put}
use Rattle.emit.specs.Laws.{Left}
use Rattle.sheet_members.proofs.ParameterLaws.{laid_from}
use Rattle.sheet_members.proofs.parameters.put_each.Given as goal

abbrev pub invariant-loop-i : goal.invariant-loop-i
invariant-loop-i l = Left (laid_from l.s l.cursor (library l.lib) l.func 0) (put l.initial.t) l.initial.out (laid_from l.s l.cursor (library l.lib) l.func l.i) (put l.t) l.out
