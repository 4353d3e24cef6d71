use Rattle.texts.specs.GuidLaws.{length-data4, first_two, other-six, text-stored}
use Rattle.util.specs.Read.{le}
use Prim.Native.Nat.{◌+◌}
use native.Mathlib.Omega.{arith}
use lib.ListN.{length-set}
use Rattle.texts.proofs.guid.write_text.Goals as goal

pub shape_of-out : goal.shape_of-out
shape_of-out c = simp length-set (omega arith)

pub returns : goal.returns
returns c = let s = c.args.s.now in let at = c.args.at in text-stored (le 4 s at) (le 2 s (at + 4)) (le 2 s (at + 6)) _ (length-data4 s at c.requires.0) _ _ _ _ _ _ c.put_number.ensures c.put_number-2.ensures c.put_number-3.ensures (rw (first_two s at) at c.put_bytes.ensures) (rw (other-six s at) at c.put_bytes-2.ensures)
