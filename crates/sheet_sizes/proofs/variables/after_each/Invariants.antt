use Rattle.sheet_sizes.proofs.MemberLaws.{from}
use Rattle.sheet_sizes.proofs.CountLaws.{Left}
use Rattle.sheet_sizes.specs.Counted.{variable_figures}
use Rattle.typelib.specs.Header.{library, type_count}
use Prim.Native.Nat.{◌+◌, ◌^◌, ◌<◌}
use Rattle.cursors.specs.declared.iterators.VarCursor.{VarCursor}
use Rattle.cursors.specs.Cursors.{var_step}
use Rattle.describe.specs.Members.{variable_of}
use mathlib.Core.Path.{◌≡◌}
use Rattle.sheet_sizes.proofs.variables.after_each.Given as goal

abbrev pub invariant-loop-t : goal.invariant-loop-t
invariant-loop-t l = Left (from (var_step l.s) (λ (x : VarCursor). x.remaining) (variable_figures (type_count (library l.lib))) (variable_of l.s (library l.lib) l.ti) 0 l.initial.c) l.initial.t (from (var_step l.s) (λ (x : VarCursor). x.remaining) (variable_figures (type_count (library l.lib))) (variable_of l.s (library l.lib) l.ti) l.c.yielded l.c) l.t × (l.c.yielded + l.c.remaining ≡ l.initial.c.remaining) × (l.initial.c.remaining < 2 ^ 64)

abbrev pub decreases-loop-t : goal.decreases-loop-t
decreases-loop-t l = l.c.remaining
