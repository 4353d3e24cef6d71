use Rattle.std.proofs.Common.{◌≡◌, ◌-◌, length}
use Rattle.table_cursors.specs.Members.{matching}
use Rattle.table_cursors.proofs.members.next_match.Given as goal

abbrev pub invariant-loop : goal.invariant-loop
invariant-loop l = matching (length l.s - l.counter) l.s l.own.0 l.c ≡ matching (length l.s) l.s l.own.0 l.fn.from
