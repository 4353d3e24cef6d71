use Rattle.std.proofs.Common.{◌+◌, arith}
use Rattle.typelib.specs.Header.{library}
use Rattle.typelib.specs.TableLaws.{found}
use Rattle.typelib.proofs.names.place_behind.Goals as goal

pub overflow_add-result : goal.overflow_add-result
overflow_add-result c = let a = c.args in let h = found a.s.now (library a.lib.now) a.table a.offset (a.head + a.len) _ c.in_ok-entry.ensures in omega arith
