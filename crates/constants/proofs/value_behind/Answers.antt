use Rattle.constants.specs.ConstantLaws.{value-text}
use Rattle.constants.specs.Constants.{stored_width}
use Rattle.records.specs.AnswerLaws.{bind-value}
use Rattle.std.proofs.Common.{◌+◌, ap, arith}
use Rattle.typelib.specs.Header.{library}
use Rattle.typelib.specs.TableLaws.{found}
use Rattle.util.specs.Read.{read-zero}
use Rattle.constants.proofs.value_behind.Goals as goal

pub overflow_add-at : goal.overflow_add-at
overflow_add-at c = let h = found c.args.s.now (library c.args.lib.now) 11 c.args.offset (2 + c.stored_width.result) _ c.in_ok-place.ensures in omega arith

pub number-requires : goal.number-requires
number-requires c = let w = c.stored_width.ensures.0 in
    let h = found c.args.s.now (library c.args.lib.now) 11 c.args.offset (2 + c.stored_width.result) _ c.in_ok-place.ensures in
    (omega arith, λ e. omega arith)

pub returns-in-8 : goal.returns-in-8
unfolding stored_width
returns-in-8 c = let w = c.stored_width.ensures.0 in
    let four = ap stored_width c.in-8.is in
    let h = found c.args.s.now (library c.args.lib.now) 11 c.args.offset (2 + c.stored_width.result) _ c.in_ok-place.ensures in
    let e = read-zero 4 c.args.s.now (c.in_ok-place.place.at + 2) _ (omega arith) c.or_zero.ensures in
    bind-value _ _ _ _ (rw w at c.in_ok-place.ensures) (value-text _ _ _ _ _ _ c.in-8.is (rw (← e) c.text_behind.ensures))
