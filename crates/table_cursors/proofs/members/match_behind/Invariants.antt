use Rattle.std.proofs.Common.{◌≡◌, ◌-◌}
use Rattle.table_cursors.specs.Members.{behind}
use Rattle.table_cursors.specs.Told.{told_name_step}
use Rattle.table_cursors.proofs.members.match_behind.Given as goal

abbrev pub invariant-loop : goal.invariant-loop
invariant-loop l = behind (l.k - l.counter) l.s l.own.0 (told_name_step l.found) ≡ behind l.k l.s l.own.0 (told_name_step l.fn.first)
