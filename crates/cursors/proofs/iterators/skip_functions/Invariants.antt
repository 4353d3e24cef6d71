use Rattle.std.proofs.Common.{◌≡◌, ◌+◌, ◌-◌, ◌≤◌, length}
use Rattle.cursors.specs.Cursors.{skip}
use Rattle.cursors.proofs.iterators.skip_functions.Given as goal

abbrev pub invariant-loop : goal.invariant-loop
invariant-loop l = (skip (l.count - l.counter) l.s l.pos ≡ skip l.count l.s l.start) × (l.pos ≤ length l.s + 65536 + l.start)
