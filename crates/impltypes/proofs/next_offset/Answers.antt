use Rattle.std.proofs.Common.{◌+◌, arith}
use Rattle.util.specs.Read.{read-zero}
use Rattle.impltypes.proofs.next_offset.Goals as goal

pub returns : goal.returns
returns c = read-zero 4 c.args.s.now (c.args.at + 12) _ (omega arith) c.or_zero.ensures
