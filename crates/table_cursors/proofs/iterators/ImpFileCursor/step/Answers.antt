use Rattle.std.proofs.Common.{arith}
use Rattle.table_cursors.specs.CursorLaws.{entry-inside}
use Rattle.table_cursors.proofs.iterators.ImpFileCursor.step.Goals as goal

pub overflow_add-result : goal.overflow_add-result
overflow_add-result c = let h = entry-inside _ _ _ _ c.in-Ok.ensures in omega (arith, h.inside, c.well_formed)
