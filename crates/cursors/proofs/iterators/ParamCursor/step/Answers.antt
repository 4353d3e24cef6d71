use Rattle.std.proofs.Common.{arith}
use Rattle.cursors.specs.CursorLaws.{param}
use Rattle.cursors.proofs.iterators.ParamCursor.step.Goals as goal

pub overflow_add-result : goal.overflow_add-result
overflow_add-result c = let h = param _ _ _ c.in-Ok.ensures in omega (arith, h.inside)

pub overflow_sub-result : goal.overflow_sub-result
overflow_sub-result c = let h = param _ _ _ c.in-Ok.ensures in omega (arith, h.some)
