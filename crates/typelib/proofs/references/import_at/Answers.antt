use Rattle.records.specs.AnswerLaws.{map-value}
use Rattle.std.proofs.Common.{ap, arith}
use Rattle.typelib.specs.Header.{library}
use Rattle.typelib.specs.TableLaws.{found, number-found}
use Rattle.typelib.specs.References.{external}
use Rattle.typelib.proofs.references.import_at.Goals as goal

pub overflow_add-place : goal.overflow_add-place
overflow_add-place c = let h = found c.args.s.now (library c.args.lib.now) 1 c.args.offset.0 12 _ c.in_ok-place.ensures in omega arith

pub returns : goal.returns
returns c = let e = number-found 4 c.args.s.now (library c.args.lib.now) 1 c.args.offset.0 12 _ 4 _ c.in_ok-place.ensures (omega arith) c.or_zero.ensures in map-value _ _ _ _ c.in_ok-place.ensures (rw (← e) (ap (external c.in_ok-place.place) c.imp_file_at-file.ensures))
