use Rattle.sheet_sizes.proofs.CountLaws.{Left}
use Rattle.sheet_sizes.specs.Counted.{types_from_counted}
use mathlib.Core.Path.{◌≡◌}
use Prim.Native.Nat.{◌-◌}
use Rattle.typelib.specs.Header.{library, type_count}
use Rattle.sheet_sizes.proofs.after_types.Given as goal

abbrev pub invariant-loop-i : goal.invariant-loop-i
invariant-loop-i l = Left (types_from_counted l.s (library l.lib) (type_count (library l.lib) - 0) 0) l.initial.c (types_from_counted l.s (library l.lib) (type_count (library l.lib) - l.i) l.i) l.c × (l.count ≡ type_count (library l.lib))
