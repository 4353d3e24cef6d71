use Rattle.records.specs.AnswerLaws.{map-value}
use Rattle.std.proofs.Common.{◌+◌, arith}
use Rattle.typelib.specs.Header.{library}
use Rattle.typelib.specs.TableLaws.{found}
use Rattle.util.specs.Read.{read-zero}
use Rattle.typelib.proofs.descriptors.type_desc_at.Goals as goal

pub overflow_add-place : goal.overflow_add-place
overflow_add-place c = let h = found c.args.s.now (library c.args.lib.now) 9 c.args.offset 8 _ c.in_ok-place.ensures in omega arith

pub returns : goal.returns
returns c = let h = found c.args.s.now (library c.args.lib.now) 9 c.args.offset 8 _ c.in_ok-place.ensures in
    let first = read-zero 4 c.args.s.now c.in_ok-place.place.at _ (omega arith) c.or_zero-first.ensures in
    let second = read-zero 4 c.args.s.now (c.in_ok-place.place.at + 4) _ (omega arith) c.or_zero-second.ensures in
    map-value _ _ _ _ c.in_ok-place.ensures (cc (first, second))
