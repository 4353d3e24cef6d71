use Rattle.sheet_trees.proofs.PartLaws.{file-named, file-missing}
use Rattle.emit.specs.Laws.{known}
use Rattle.sheet_trees.proofs.references.put_opt_file.Goals as goal

pub returns-in-Ok : goal.returns-in-Ok
returns-in-Ok c = known (file-named _ _ _ c.in-Ok.is c.filename_bytes.ensures) c.put_file.ensures

pub returns-in-Err : goal.returns-in-Err
returns-in-Err c = known (file-missing _ _ c.in-Err.is) c.put_u8.ensures
