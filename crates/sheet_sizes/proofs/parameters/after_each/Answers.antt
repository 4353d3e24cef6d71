use Rattle.sheet_sizes.proofs.MemberLaws.{parameters-all, parameters-one, parameters-end}
use Rattle.sheet_sizes.proofs.CountLaws.{left-all, left_less, left-none, known}
use native.Mathlib.Omega.{arith}
use Rattle.typelib.specs.Header.{library}
use Rattle.sheet_sizes.proofs.parameters.after_each.Goals as goal

pub loop-i-init : goal.loop-i-init
loop-i-init c = λ k. left-all

pub overflow_mul-i : goal.overflow_mul-i
overflow_mul-i c = omega (arith, c.requires.room.whole, c.requires.room.inside, c.requires.room.few)

pub overflow_add-cursor : goal.overflow_add-cursor
overflow_add-cursor c = omega (arith, c.requires.room.whole, c.requires.room.inside, c.requires.room.few)

pub after_parameter-t-requires : goal.after_parameter-t-requires
after_parameter-t-requires c = c.requires.near

pub loop-i-preserved : goal.loop-i-preserved
loop-i-preserved c = λ k. left_less (c.loop-i.invariant k) (c.after_parameter-t.ensures.is k) (parameters-one _ _ _ _ _ c.requires.room c.loop-i-test.true)

pub returns : goal.returns
returns c = record { is = λ k. known (parameters-all c.args.s.now (library c.args.lib.now) c.args.cursor c.args.func c.requires.room) (left-none (c.loop-i.invariant k) (parameters-end c.args.s.now (library c.args.lib.now) c.args.cursor c.args.func _ (omega arith))) }
