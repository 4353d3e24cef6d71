use Rattle.typelib.specs.TableLaws.{found_in}
use Rattle.impltypes.proofs.ImplTypeCursor.step.Goals as goal

pub next_offset-requires : goal.next_offset-requires
next_offset-requires c = (found_in _ _ _ _ _ c.in-Ok.ensures).inside
