use Rattle.sheet_sizes.proofs.SizeLaws.{guid-there, guid-missing}
use Rattle.sheet_sizes.proofs.names.after_guid.Goals as goal

pub returns-in-Ok : goal.returns-in-Ok
returns-in-Ok c = guid-there _ _ _ _ _ c.in-Ok.ensures c.ahead.ensures

pub returns-in-Err : goal.returns-in-Err
returns-in-Err c = guid-missing _ _ _ _ _ c.in-Err.ensures c.ahead-in-Err.ensures
