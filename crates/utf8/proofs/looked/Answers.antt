use mathlib.Core.Path.{refl, ◌∙◌}
use native.Mathlib.Omega.{arith}
use Rattle.utf8.specs.Parts.{seen, stretched, nearer, of-text, within_text, packed-no-text, led-to}
use Rattle.utf8.proofs.looked.Goals as goal

pub overflow_add-result : goal.overflow_add-result
overflow_add-result c = let room = c.well_formed.0.1 in
    let w = within_text _ ((seen _ 0 c.in-Some.is c.loop-stretch.invariant).on ∙ c.in-Err.ensures) in
    omega arith

pub returns-in-Err : goal.returns-in-Err
returns-in-Err c = packed-no-text _ _ refl ((seen _ 0 c.in-Some.is c.loop-stretch.invariant).on ∙ c.in-Err.ensures)

pub loop-stretch-smaller : goal.loop-stretch-smaller
loop-stretch-smaller c = rw c.in-Some.is (nearer _ c.in-Ok.ensures c.ascii-stretch-in-Ok.ensures)

pub loop-stretch-preserved : goal.loop-stretch-preserved
loop-stretch-preserved c = stretched _ (seen _ 0 c.in-Some.is c.loop-stretch.invariant) c.in-Ok.ensures c.ascii-stretch-in-Ok.ensures

pub returns : goal.returns
returns c = let room = c.well_formed.0.1 in of-text _ (omega arith) ∙ led-to _ (seen _ 0 c.in_default.is c.loop-stretch.invariant)
