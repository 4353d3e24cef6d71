use Rattle.std.proofs.Common.{◌+◌, arith}
use Rattle.typelib.specs.Header.{library}
use Rattle.typelib.specs.TableLaws.{found}
use Rattle.constants.proofs.text_behind.Goals as goal

pub overflow_add-result : goal.overflow_add-result
overflow_add-result c = let h = found c.args.s.now (library c.args.lib.now) 11 c.args.offset (6 + c.args.length) _ c.in_ok-place.ensures in omega arith
