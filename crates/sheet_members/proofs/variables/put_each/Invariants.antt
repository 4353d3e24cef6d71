use Rattle.typelib.specs.Header.{library, type_count}
use Rattle.cursors.specs.declared.iterators.VarCursor.{VarCursor}
use Rattle.cursors.specs.Cursors.{var_step}
use Rattle.description.specs.Sheet.{edition-one, variable}
use Rattle.describe.specs.Members.{variable_of}
use Rattle.emit.specs.Emit.{put}
use Rattle.sheet_members.proofs.MemberLaws.{Come}
use Rattle.sheet_members.proofs.variables.put_each.Given as goal

abbrev pub invariant-loop-t : goal.invariant-loop-t
invariant-loop-t l =
    Come (var_step l.s) (λ (x : VarCursor). x.remaining) (λ (x : VarCursor). x.yielded) (variable edition-one (type_count (library l.lib))) (variable_of l.s (library l.lib) l.ti)
    l.initial.c (put l.initial.t) l.initial.out (put l.t) l.out l.c

abbrev pub decreases-loop-t : goal.decreases-loop-t
decreases-loop-t l = l.c.remaining
