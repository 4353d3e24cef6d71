use Rattle.typelib.specs.Header.{library, type_count}
use lib.ListN.{length}
use mathlib.Core.Path.{◌≡◌}
use Rattle.emit.specs.Emit.{put}
use Rattle.sheet.proofs.ContentLaws.{LeftFrom}
use Rattle.sheet.proofs.contents.put_types.Given as goal

abbrev pub invariant-loop-i : goal.invariant-loop-i
invariant-loop-i l = LeftFrom l.s (library l.lib) (type_count (library l.lib)) (put l.initial.t) l.initial.out l.i (put l.t) l.out × (l.count ≡ type_count (library l.lib)) × (length l.out ≡ length l.initial.out)
