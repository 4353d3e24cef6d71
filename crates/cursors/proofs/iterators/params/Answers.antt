use Rattle.std.proofs.Common.{arith}
use Rattle.typelib.specs.TableLaws.{record-inside}
use Rattle.cursors.proofs.iterators.params.Goals as goal

pub param_cursor-requires : goal.param_cursor-requires
param_cursor-requires c = let h = record-inside _ _ _ _ _ c.in_ok-place.ensures in omega (arith, h, c.well_formed)
