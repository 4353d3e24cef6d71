use Rattle.typelib.specs.Header.{library, type_count}
use Rattle.cursors.specs.declared.iterators.FuncCursor.{FuncCursor}
use Rattle.cursors.specs.Cursors.{func_step}
use Rattle.description.specs.Sheet.{edition-one, function}
use Rattle.describe.specs.Members.{function_of}
use Rattle.emit.specs.Emit.{put}
use Rattle.sheet_members.proofs.MemberLaws.{Come}
use Rattle.sheet_members.proofs.functions.put_each.Given as goal

abbrev pub invariant-loop-t : goal.invariant-loop-t
invariant-loop-t l =
    Come (func_step l.s) (λ (x : FuncCursor). x.remaining) (λ (x : FuncCursor). x.yielded) (function edition-one (type_count (library l.lib))) (function_of l.s (library l.lib) l.ti)
    l.initial.c (put l.initial.t) l.initial.out (put l.t) l.out l.c

abbrev pub decreases-loop-t : goal.decreases-loop-t
decreases-loop-t l = l.c.remaining
