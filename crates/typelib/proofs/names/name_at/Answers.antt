use Rattle.records.specs.AnswerLaws.{bind-value}
use Rattle.std.proofs.Common.{arith}
use Rattle.typelib.specs.Header.{library}
use Rattle.typelib.specs.TableLaws.{found, number-found}
use Rattle.typelib.proofs.names.name_at.Goals as goal

pub overflow_add-intro : goal.overflow_add-intro
overflow_add-intro c = let h = found c.args.s.now (library c.args.lib.now) 7 c.args.offset 12 _ c.in_ok-intro.ensures in omega arith

pub returns : goal.returns
returns c = let e = number-found 1 c.args.s.now (library c.args.lib.now) 7 c.args.offset 12 _ 8 _ c.in_ok-intro.ensures (omega arith) c.or_zero-len.ensures in bind-value _ _ _ _ c.in_ok-intro.ensures (rw (← e) c.place_behind.ensures)
