use Rattle.std.proofs.Common.{rules}
use Rattle.emit.specs.Laws.{known}
use Rattle.sheet_trees.proofs.PartLaws.{memid-is, memid-missing}
use Rattle.typelib.specs.TableLaws.{pattern}
use Rattle.sheet_trees.proofs.values.put_opt_memid.Goals as goal

pub returns-in_default : goal.returns-in_default
returns-in_default g c = known (memid-missing g.E.Refuses.number c.in_default.is) c.put_u8.ensures

pub returns : goal.returns
returns g c = known (memid-is g.E.Refuses.number c.in-Ok.is (pattern c.in-Ok.x _ (search rules) c.cast_unsigned.ensures)) c.put_le.ensures
