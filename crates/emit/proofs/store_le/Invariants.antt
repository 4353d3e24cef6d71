use Rattle.description.specs.Format.{le_bytes}
use lib.Seq.{sets}
use lib.ListN.{length}
use mathlib.Core.Path.{◌≡◌}
use Prim.Native.Nat.{◌+◌, ◌-◌}
use Rattle.emit.proofs.store_le.Given as goal

abbrev pub invariant-loop-place : goal.invariant-loop-place
invariant-loop-place l = (sets l.out l.place (le_bytes (l.at + l.width - l.place) l.rest) ≡ sets l.initial.out l.at (le_bytes l.width l.v)) × (length l.out ≡ length l.initial.out)
