use Rattle.std.proofs.Common.{◌∙◌, arith}
use Rattle.util.specs.Read.{le, read-cut, read-cut-none}
use Rattle.util.proofs.U64LittleEndian.read_le.Goals as goal

pub returns-in_err-bytes_at : goal.returns-in_err-bytes_at
returns-in_err-bytes_at c = c.from_residual.ensures ∙ read-cut-none 8 _ _ c.in_err-bytes_at.ensures

pub returns : goal.returns
unfolding le
returns c = read-cut 8 _ _ _ _ c.in_ok-bytes_at.ensures (omega (arith, c.from_le_bytes.ensures))
