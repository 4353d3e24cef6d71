use Rattle.std.proofs.Common.{add-zero, arith, length-set}
use mathlib.Core.Path.{refl}
use Rattle.emit.specs.Laws.{copy-turn, copy_done}
use Rattle.emit.proofs.store.Goals as goal

pub loop-i-init : goal.loop-i-init
loop-i-init c = (rw (add-zero c.args.at), refl)

pub loop-i-preserved : goal.loop-i-preserved
loop-i-preserved c = (copy-turn c.loop-i.out _ c.args.bytes.now c.args.at c.loop-i.i (omega arith) c.loop-i.invariant.0, simp length-set c.loop-i.invariant.1)

pub returns : goal.returns
returns c = copy_done c.loop-i.out _ c.args.bytes.now c.args.at c.loop-i.i (omega arith) c.loop-i.invariant.0
