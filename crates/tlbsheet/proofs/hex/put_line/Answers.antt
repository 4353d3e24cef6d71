use native.Mathlib.Omega.{arith}
use Rattle.std.proofs.Common.{◌≡◌, length}
use Rattle.tlbsheet.specs.ProgramLaws.{length-line, line-less, line-none}
use Rattle.tlbsheet.proofs.hex.put_line.Goals as goal

pub loop-i-preserved : goal.loop-i-preserved
loop-i-preserved c = rw (c.digit.ensures, c.digit-in-loop-i.ensures) (line-less _ _ _ _ c.loop-i.invariant c.loop-i-test.true)

pub returns-clause-value : goal.returns-clause-value
returns-clause-value c = rw length-line (omega arith)

pub returns-clause-out_after : goal.returns-clause-out_after
returns-clause-out_after c =
    let all : length c.args.s.now ≡ c.loop-i.i = omega arith in
    rw all (line-none _ _ _ _ c.loop-i.invariant c.loop-i-test.false)
