use Rattle.std.proofs.Common.{rules}
use Rattle.sheet_members.proofs.MemberLaws.{constant-by, constant-missing}
use Rattle.typelib.specs.TableLaws.{pattern}
use Rattle.emit.specs.Laws.{known}
use Rattle.sheet_members.proofs.parameters.put_constant_by.Goals as goal

pub returns-in_default : goal.returns-in_default
returns-in_default g c = known (constant-missing _ _ g.E.Refuses.number c.in_default.is) c.put_u8.ensures

pub returns : goal.returns
returns g c = known (constant-by _ _ g.E.Refuses.number c.in-Ok.is (pattern c.in-Ok.x _ (search rules) c.cast_unsigned.ensures)) c.put_opt_constant.ensures
