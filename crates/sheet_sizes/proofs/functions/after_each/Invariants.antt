use Rattle.sheet_sizes.proofs.MemberLaws.{from}
use Rattle.sheet_sizes.proofs.CountLaws.{Left}
use Rattle.sheet_sizes.specs.Counted.{function_figures}
use Rattle.typelib.specs.Header.{library, type_count}
use Rattle.cursors.specs.declared.iterators.FuncCursor.{FuncCursor}
use Rattle.cursors.specs.Cursors.{func_step}
use Rattle.describe.specs.Members.{function_of}
use Rattle.records.specs.declared.typeinfo.TypeInfoEntry.{TypeInfoEntry}
use Rattle.sheet_members.specs.Words.{FuncRows}
use Prim.Native.Nat.{◌+◌, ◌^◌, ◌<◌}
use mathlib.Core.Path.{◌≡◌}
use Rattle.sheet_sizes.proofs.functions.after_each.Given as goal

abbrev pub invariant-loop-t : goal.invariant-loop-t
invariant-loop-t l = ((ti : TypeInfoEntry) → FuncRows l.s ti l.rows.memids l.rows.names → Left (from (func_step l.s) (λ (x : FuncCursor). x.remaining) (function_figures (type_count (library l.lib))) (function_of l.s (library l.lib) ti) 0 l.initial.c) l.initial.t (from (func_step l.s) (λ (x : FuncCursor). x.remaining) (function_figures (type_count (library l.lib))) (function_of l.s (library l.lib) ti) l.c.yielded l.c) l.t) × (l.c.yielded + l.c.remaining ≡ l.initial.c.remaining) × (l.initial.c.remaining < 2 ^ 64)

abbrev pub decreases-loop-t : goal.decreases-loop-t
decreases-loop-t l = l.c.remaining
