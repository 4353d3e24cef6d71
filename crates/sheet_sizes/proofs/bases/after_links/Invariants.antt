use Prim.Native.Nat.{◌-◌}
use mathlib.Core.List.{[]}
use lib.ListN.{length}
use Rattle.records.specs.Answer.{value}
use Rattle.emit.specs.Emit.{Emitted, put}
use Rattle.sheet_bases.specs.Bases.{links_bytes}
use Rattle.sheet_sizes.proofs.ChainLaws.{Along}
use Rattle.typelib.specs.Header.{library}
use Rattle.sheet_sizes.proofs.bases.after_links.Given as goal

abbrev pub invariant-loop-link : goal.invariant-loop-link
invariant-loop-link l = Emitted (value (links_bytes l.s (library l.lib) l.initial.c l.n 0)) (put l.initial.t) [] (put l.t) [] × Along l.s l.initial.c l.n l.c

abbrev pub decreases-loop-link : goal.decreases-loop-link
decreases-loop-link l = length l.s - 15 - l.n
