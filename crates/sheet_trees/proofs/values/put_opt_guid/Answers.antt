use Rattle.std.proofs.Common.{refl, ◌∙◌}
use Rattle.emit.specs.Laws.{known, join}
use Rattle.sheet_trees.proofs.PartLaws.{part-some, part_none, guid-is}
use Rattle.sheet_trees.proofs.values.put_opt_guid.Goals as goal

pub returns-in-Ok : goal.returns-in-Ok
returns-in-Ok c = known (part-some _ c.in-Ok.is refl ∙ guid-is _ _ _ _ c.guid_at.ensures) (join c.put_u8-t.ensures c.put_part.ensures)

pub returns-in-Err : goal.returns-in-Err
returns-in-Err c = known (part_none _ 0 c.in-Err.is ∙ guid-is _ _ _ _ c.guid_at.ensures) c.put_u8.ensures
