use Rattle.std.proofs.Common.{ap}
use Rattle.records.specs.Told.{told}
use Rattle.sheet_sizes.proofs.SizeLaws.{memid-there, memid-missing}
use Rattle.sheet_sizes.proofs.names.after_memid.Goals as goal

pub returns-in-Ok : goal.returns-in-Ok
returns-in-Ok c = memid-there _ _ (ap told c.in-Ok.is) c.ahead.ensures

pub returns-in-Err : goal.returns-in-Err
returns-in-Err c = memid-missing _ _ (ap told c.in-Err.is) c.ahead-in-Err.ensures
