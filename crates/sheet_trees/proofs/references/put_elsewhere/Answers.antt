use Rattle.typelib.specs.Header.{library}
use Rattle.emit.specs.Laws.{known}
use Rattle.sheet_trees.proofs.PartLaws.{reference-some, reference-none}
use Rattle.sheet_trees.proofs.references.put_elsewhere.Goals as goal

pub returns-in-Ok : goal.returns-in-Ok
returns-in-Ok c = known (reference-some _ (library c.args.lib.now) _ c.resolve_at.ensures c.requires c.bits-bit.ensures c.in-Ok.is) c.put_resolved.ensures

pub returns-in-Err : goal.returns-in-Err
returns-in-Err c = known (reference-none _ (library c.args.lib.now) _ c.resolve_at.ensures c.requires c.in-Err.is) c.put_u8.ensures
