use Rattle.texts.specs.GuidLaws.{bytes-less, bytes-none}
use Prim.Native.Nat.{◌+◌}
use native.Mathlib.Omega.{arith}
use lib.ListN.{length-set}
use Rattle.texts.proofs.guid.put_bytes.Goals as goal

pub loop-i-preserved : goal.loop-i-preserved
loop-i-preserved c =
    let l = c.loop-i in
    (rw (c.digit.ensures, c.digit-in-loop-i.ensures) (bytes-less _ _ _ _ _ _ _ l.invariant.0 c.loop-i-test.true (omega arith) (omega (arith, c.type_inv.s (c.args.at + l.i)))), simp length-set l.invariant.1)

pub returns : goal.returns
returns c = bytes-none _ _ _ _ _ _ _ c.loop-i.invariant.0 c.loop-i-test.false
