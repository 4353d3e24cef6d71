use Rattle.std.proofs.Common.{arith}
use Rattle.emit.specs.Laws.{known, byte-first}
use Rattle.sheet_trees.proofs.trees.put_base.Goals as goal

pub returns : goal.returns
returns c = known (byte-first 2 1 _ (omega arith)) c.put_le.ensures
