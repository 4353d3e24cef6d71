use Rattle.std.proofs.Common.{◌∙◌}
use Rattle.emit.specs.Laws.{known}
use Rattle.sheet_trees.proofs.PartLaws.{counted-some, part_none, name-is}
use Rattle.sheet_trees.proofs.values.put_opt_name.Goals as goal

pub returns-in-Ok : goal.returns-in-Ok
returns-in-Ok c = known (counted-some _ c.in-Ok.is ∙ name-is _ _ _ _ c.name_at.ensures) c.put_counted.ensures

pub returns-in-Err : goal.returns-in-Err
returns-in-Err c = known (part_none _ 1 c.in-Err.is ∙ name-is _ _ _ _ c.name_at.ensures) c.put_u8.ensures
