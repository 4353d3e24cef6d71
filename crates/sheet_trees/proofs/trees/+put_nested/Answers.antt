use Rattle.std.proofs.Common.{refl}
use Rattle.emit.specs.Laws.{numbered}
use Rattle.sheet_trees.proofs.TreeLaws.{too-deep, leaf-laid, branch-laid}
use Rattle.sheet_trees.proofs.trees.+put_nested.Goals as goal

pub returns-then-levels-eq0 : goal.returns-then-levels-eq0
returns-then-levels-eq0 t c = too-deep _ _ _ _ c.if-levels-eq0.true (numbered c.number.ensures (c.put_refusal.ensures _))

pub returns-in-Some : goal.returns-in-Some
returns-in-Some t c = branch-laid _ _ _ _ c.if-levels-eq0.false refl c.put_level-level.ensures.1 c.in-Some.is c.put_level-level.ensures.0 c.put_nested.ensures

pub returns-in-None : goal.returns-in-None
returns-in-None t c = leaf-laid _ _ _ _ c.if-levels-eq0.false refl c.put_level-level.ensures.1 c.in-None.is c.put_level-level.ensures.0
