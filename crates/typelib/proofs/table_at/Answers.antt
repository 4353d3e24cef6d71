use Rattle.std.proofs.Common.{rules, arith}
use Rattle.util.specs.Read.{read-zero}
use Rattle.typelib.proofs.table_at.Goals as goal

pub returns-then-bits-eq1 : goal.returns-then-bits-eq1
returns-then-bits-eq1 c = let flags = read-zero 4 c.args.s.now 0x14 _ (omega arith) c.or_zero.ensures in search (rules, flags)

pub returns-else-bits-eq1 : goal.returns-else-bits-eq1
returns-else-bits-eq1 c = let flags = read-zero 4 c.args.s.now 0x14 _ (omega arith) c.or_zero.ensures in search (rules, flags)
