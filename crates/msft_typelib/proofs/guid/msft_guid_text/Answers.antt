use Rattle.replies.specs.Written.{written}
use native.Mathlib.Omega.{arith}
use Rattle.msft_typelib.proofs.guid.msft_guid_text.Goals as goal

pub returns : goal.returns
returns c = written _ (omega arith) _ c.text.ensures c.of_written.ensures
