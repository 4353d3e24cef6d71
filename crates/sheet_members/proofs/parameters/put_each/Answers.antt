use Rattle.typelib.specs.Header.{library}
use Rattle.std.proofs.Common.{arith}
use Rattle.emit.specs.Laws.{left-all, left_less, left-none, known}
use Rattle.sheet_members.proofs.ParameterLaws.{laid-all, laid_one, laid_end}
use Rattle.sheet_members.proofs.parameters.put_each.Goals as goal

pub loop-i-init : goal.loop-i-init
loop-i-init c = left-all

pub overflow_mul-i : goal.overflow_mul-i
overflow_mul-i c = omega (arith, c.requires.room.whole, c.requires.room.inside, c.requires.room.few)

pub overflow_add-cursor : goal.overflow_add-cursor
overflow_add-cursor c = omega (arith, c.requires.room.whole, c.requires.room.inside, c.requires.room.few)

pub put_parameter-t-requires : goal.put_parameter-t-requires
put_parameter-t-requires c = c.requires.near

pub loop-i-preserved : goal.loop-i-preserved
loop-i-preserved c = left_less c.loop-i.invariant c.put_parameter-t.ensures (laid_one _ _ _ _ _ c.requires.room c.loop-i-test.true)

pub shape_of-out : goal.shape_of-out
shape_of-out c = (left-none c.loop-i.invariant (laid_end c.args.s.now c.args.cursor (library c.args.lib.now) c.args.func _ (omega arith))).keeps

pub returns : goal.returns
returns c = known (laid-all c.args.s.now c.args.cursor (library c.args.lib.now) c.args.func c.requires.room) (left-none c.loop-i.invariant (laid_end c.args.s.now c.args.cursor (library c.args.lib.now) c.args.func _ (omega arith)))
