use mathlib.Core.Path.{◌∙◌}
use native.Mathlib.Omega.{arith}
use Rattle.utf8.specs.Parts.{text-end, first_read, ascii-read}
use Rattle.utf8.proofs.ascii.Goals as goal

pub returns-then-b-ge128 : goal.returns-then-b-ge128
returns-then-b-ge128 c = let l = c.loop-i in
    record {
      beyond = record { low = omega arith; high = omega (arith, c.type_inv.s l.i) };
      further = omega arith;
      within = omega arith;
      on = l.invariant ∙ first_read _ l.i (omega arith);
    }

pub loop-i-preserved : goal.loop-i-preserved
loop-i-preserved c = let l = c.loop-i in l.invariant ∙ ascii-read _ l.i (omega arith) (omega arith)

pub returns : goal.returns
returns c = let l = c.loop-i in l.invariant ∙ text-end l.i _ (omega arith)
