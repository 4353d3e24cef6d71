use Rattle.records.specs.AnswerLaws.{bind-value}
use Rattle.std.proofs.Common.{arith}
use Rattle.typelib.specs.Header.{library}
use Rattle.typelib.specs.TableLaws.{found}
use Rattle.util.specs.Read.{read-zero}
use Rattle.constants.proofs.stored_const.Goals as goal

pub returns : goal.returns
returns c = let h = found c.args.s.now (library c.args.lib.now) 11 c.args.offset 2 _ c.in_ok-place.ensures in
    let e = read-zero 2 c.args.s.now c.in_ok-place.place.at _ (omega arith) c.or_zero-vt.ensures in
    bind-value _ _ _ _ c.in_ok-place.ensures (rw (← e) c.value_behind.ensures)
