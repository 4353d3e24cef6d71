use Rattle.std.proofs.Common.{ap}
use Rattle.records.specs.Told.{told}
use Rattle.typelib.specs.TableLaws.{pattern}
use Rattle.sheet_sizes.proofs.SizeLaws.{name-by-there, name-by-missing}
use Rattle.sheet_sizes.proofs.names.after_name_by.Goals as goal

pub returns-in_default : goal.returns-in_default
returns-in_default c = name-by-missing _ _ _ _ (ap told c.in_default.is) c.ahead.ensures

pub after_name-requires : goal.after_name-requires
after_name-requires c = c.requires

pub returns : goal.returns
returns c = name-by-there _ _ _ _ (ap told c.in-Ok.is) (rw (pattern c.in-Ok.x _ (record { sfits = c.in-Ok.known_told-1-own.given.0.1 }) c.cast_unsigned.ensures) at c.after_name.ensures)
