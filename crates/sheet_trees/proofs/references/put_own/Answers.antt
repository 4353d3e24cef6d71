use Rattle.sheet_trees.proofs.PartLaws.{own-guid, own-word}
use Rattle.emit.specs.Laws.{known}
use Rattle.sheet_trees.proofs.references.put_own.Goals as goal

pub returns-then-flags-eq1 : goal.returns-then-flags-eq1
returns-then-flags-eq1 c = known (own-guid _ _ _ _ c.if-flags-eq1.true) c.put_opt_guid.ensures

pub returns-else-flags-eq1 : goal.returns-else-flags-eq1
returns-else-flags-eq1 c = known (own-word _ _ _ _ c.if-flags-eq1.false) c.put_u32.ensures
