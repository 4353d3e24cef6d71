use Rattle.replies.specs.Written.{written}
use native.Mathlib.Omega.{arith}
use Rattle.msft_typelib.proofs.types.msft_vt_name.Goals as goal

pub returns : goal.returns
returns c = written c.args.out.now (omega arith) _ c.vt_name.ensures c.of_written.ensures
