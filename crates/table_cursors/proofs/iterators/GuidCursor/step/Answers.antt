use Rattle.std.proofs.Common.{arith}
use Rattle.cursors.specs.CursorLaws.{fixed}
use Rattle.table_cursors.proofs.iterators.GuidCursor.step.Goals as goal

pub overflow_add-result : goal.overflow_add-result
overflow_add-result c = let h = fixed _ _ _ _ _ c.in-Ok.ensures in omega (arith, h.inside, c.well_formed)
