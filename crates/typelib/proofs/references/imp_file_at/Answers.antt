use Rattle.records.specs.AnswerLaws.{bind-value}
use Rattle.std.proofs.Common.{rules, arith}
use Rattle.typelib.specs.Header.{library}
use Rattle.typelib.specs.TableLaws.{found, number-found}
use Rattle.typelib.proofs.references.imp_file_at.Goals as goal

pub overflow_add-head : goal.overflow_add-head
overflow_add-head c = let h = found c.args.s.now (library c.args.lib.now) 2 c.args.offset 14 _ c.in_ok-head.ensures in omega arith

pub returns-in_err-place : goal.returns-in_err-place
returns-in_err-place c = let e = number-found 2 c.args.s.now (library c.args.lib.now) 2 c.args.offset 14 _ 12 _ c.in_ok-head.ensures (omega arith) c.or_zero.ensures in bind-value _ _ _ _ c.in_ok-head.ensures (rw (← e) (search rules))

pub returns : goal.returns
returns c = let e = number-found 2 c.args.s.now (library c.args.lib.now) 2 c.args.offset 14 _ 12 _ c.in_ok-head.ensures (omega arith) c.or_zero.ensures in bind-value _ _ _ _ c.in_ok-head.ensures (rw (← e) c.in_ok-place.ensures)
