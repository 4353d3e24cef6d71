use Rattle.std.proofs.Common.{arith}
use Rattle.sheet_trees.proofs.NameLaws.{near-table}
use Rattle.sheet_trees.proofs.names.names_of.Goals as goal

pub returns-then-table-s : goal.returns-then-table-s
returns-then-table-s c = near-table _ _ _ _ c.if-s-le-LIMIT.true c.table-table.ensures.0 (omega (arith, c.if-table-ge-LONGEST.true)) (omega (arith, c.if-table-ge-LONGEST.true)) c.if-table-s.true
