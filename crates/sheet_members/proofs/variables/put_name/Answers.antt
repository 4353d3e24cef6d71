use Rattle.std.proofs.Common.{rules}
use Rattle.emit.specs.Laws.{known}
use Rattle.records.specs.Told.{refusal_number}
use Rattle.typelib.specs.TableLaws.{pattern}
use Rattle.sheet_trees.proofs.PartLaws.{name-by, name-missing}
use Rattle.sheet_members.proofs.variables.put_name.Goals as goal

pub returns-in_default : goal.returns-in_default
returns-in_default c = known (name-missing _ _ refusal_number c.in_default.is) c.put_u8.ensures

pub returns : goal.returns
returns c = known (name-by _ _ refusal_number c.in-Ok.is (pattern c.in-Ok.x _ (search rules) c.cast_unsigned.ensures)) c.put_opt_name.ensures
