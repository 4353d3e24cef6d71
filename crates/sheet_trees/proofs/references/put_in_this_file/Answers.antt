use Rattle.std.proofs.Common.{arith}
use Rattle.emit.specs.Laws.{known}
use Rattle.typelib.specs.Header.{library}
use Rattle.sheet_trees.proofs.PartLaws.{in-this-negative, in-this-offset, in-this-misplaced}
use Rattle.sheet_trees.proofs.references.put_in_this_file.Goals as goal

pub returns-then-href-ge-NEGATIVE : goal.returns-then-href-ge-NEGATIVE
returns-then-href-ge-NEGATIVE c = known (in-this-negative _ (library c.args.lib.now) _ c.if-href-ge-NEGATIVE.true) c.put_u8.ensures

pub returns-then-offset-eq0 : goal.returns-then-offset-eq0
returns-then-offset-eq0 c = known (in-this-offset _ (library c.args.lib.now) _ (omega (arith, c.if-href-ge-NEGATIVE.false)) c.requires c.bits-bit.ensures c.without_dispatch.ensures (omega (arith, c.if-offset-eq0.true))) c.put_here.ensures

pub returns-else-offset-eq0 : goal.returns-else-offset-eq0
returns-else-offset-eq0 c = known (in-this-misplaced _ (library c.args.lib.now) _ (omega (arith, c.if-href-ge-NEGATIVE.false)) c.requires c.bits-bit.ensures c.without_dispatch.ensures c.if-offset-eq0.false) c.put_misplaced.ensures
