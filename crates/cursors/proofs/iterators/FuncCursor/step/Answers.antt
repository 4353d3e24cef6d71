use Rattle.std.proofs.Common.{arith}
use Rattle.cursors.specs.CursorLaws.{recorded}
use Rattle.cursors.proofs.iterators.FuncCursor.step.Goals as goal

pub overflow_add-result : goal.overflow_add-result
overflow_add-result c = let h = recorded _ _ _ _ _ _ c.in-Ok.ensures in omega (arith, h.within)

pub overflow_sub-result : goal.overflow_sub-result
overflow_sub-result c = let h = recorded _ _ _ _ _ _ c.in-Ok.ensures in omega (arith, h.some)
