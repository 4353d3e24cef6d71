use Rattle.std.proofs.Common.{refl}
use Rattle.emit.specs.Laws.{join}
use Rattle.sheet_trees.proofs.trees.put_user.Goals as goal

pub returns-then-bits-eq0 : goal.returns-then-bits-eq0
returns-then-bits-eq0 c = (join c.put_u8-t.ensures c.put_in_this_file-end.ensures, refl)

pub returns-else-bits-eq0 : goal.returns-else-bits-eq0
returns-else-bits-eq0 c = (join c.put_u8-t.ensures c.put_elsewhere-end.ensures, refl)
