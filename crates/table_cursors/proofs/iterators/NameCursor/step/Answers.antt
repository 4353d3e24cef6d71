use Rattle.std.proofs.Common.{arith}
use Rattle.table_cursors.specs.CursorLaws.{name-behind}
use Rattle.table_cursors.proofs.iterators.NameCursor.step.Goals as goal

pub overflow_add-result : goal.overflow_add-result
overflow_add-result c = let h = name-behind _ _ _ c.in-Ok.ensures in omega (arith, h.inside, c.well_formed)

pub overflow_mul-result : goal.overflow_mul-result
overflow_mul-result c = let h = name-behind _ _ _ c.in-Ok.ensures in omega (arith, h.inside, c.well_formed)

pub overflow_add-result-in-Ok : goal.overflow_add-result-in-Ok
overflow_add-result-in-Ok c = let h = name-behind _ _ _ c.in-Ok.ensures in omega (arith, h.inside, c.well_formed)
