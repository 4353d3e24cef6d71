use Rattle.texts.specs.GuidLaws.{number-less, number-none}
use mathlib.Core.Path.{◌≡◌}
use Prim.Native.Nat.{◌+◌, ◌-◌}
use native.Mathlib.Omega.{arith}
use lib.ListN.{length-set}
use Rattle.texts.proofs.guid.put_number.Goals as goal

pub loop-i-preserved : goal.loop-i-preserved
loop-i-preserved c =
    let l = c.loop-i in
    let width = c.args.width in
    let at = c.args.at in
    let before : width - 1 - l.i ≡ width - l.i - 1 = omega arith in
    let left : width - (l.i + 1) ≡ width - l.i - 1 = omega arith in
    let next : at + (l.i + 1) ≡ at + l.i + 1 = omega arith in
    (rw (before, left, next, c.digit.ensures, c.digit-in-loop-i.ensures) (number-less _ _ _ _ _ _ l.invariant.0 (omega arith) (omega (arith, c.type_inv.s (at + l.i)))), simp length-set l.invariant.1)

pub returns : goal.returns
returns c = number-none _ _ _ _ _ _ c.loop-i.invariant.0 (omega arith)
