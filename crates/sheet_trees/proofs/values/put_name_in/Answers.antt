use Rattle.std.proofs.Common.{◌∙◌}
use Rattle.emit.specs.Laws.{known}
use Rattle.sheet_trees.proofs.PartLaws.{counted-some, part_none, part-is, name-is}
use Rattle.sheet_trees.proofs.values.put_name_in.Goals as goal

pub returns-in-Ok : goal.returns-in-Ok
returns-in-Ok c = record { emits = known (counted-some _ c.in-Ok.is ∙ part-is _ 1 c.name_at.ensures.result_value) c.put_counted.ensures; near_name_put = λ near. known (counted-some _ c.in-Ok.is ∙ name-is _ _ _ _ (c.name_at.ensures.near_name near)) c.put_counted.ensures }

pub returns-in-Err : goal.returns-in-Err
returns-in-Err c = record { emits = known (part_none _ _ c.in-Err.is ∙ part-is _ 1 c.name_at.ensures.result_value) c.put_u8.ensures; near_name_put = λ near. known (part_none _ _ c.in-Err.is ∙ name-is _ _ _ _ (c.name_at.ensures.near_name near)) c.put_u8.ensures }
