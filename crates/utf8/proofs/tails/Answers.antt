use native.Mathlib.Omega.{arith}
use Rattle.utf8.specs.Utf8Laws.{first-2, first-e0, first-ed, first-3, first-f0, first-4, first-f4, low-begins-none, high-begins-none}
use Rattle.utf8.specs.Utf8Laws.{awaits-1, awaits-2, awaits-3, awaits-e0, awaits-ed, awaits-f0, awaits-f4}
use Rattle.utf8.specs.Parts.{behind-first, no-first}
use Rattle.utf8.proofs.tails.Goals as goal

pub returns-in-0-to-193 : goal.returns-in-0-to-193
returns-in-0-to-193 c = no-first _ _ _ (low-begins-none _ (omega arith))

pub returns-in-0-to-223 : goal.returns-in-0-to-223
returns-in-0-to-223 c = behind-first _ _ (first-2 _ (omega arith)) awaits-1 (c.tail.ensures _)

pub returns-in-224 : goal.returns-in-224
returns-in-224 c = behind-first _ _ (first-e0 _ (omega arith)) awaits-e0 c.tails_of_3.ensures

pub returns-in-237 : goal.returns-in-237
returns-in-237 c = behind-first _ _ (first-ed _ (omega arith)) awaits-ed c.tails_of_3-in-237.ensures

pub returns-in-240 : goal.returns-in-240
returns-in-240 c = behind-first _ _ (first-f0 _ (omega arith)) awaits-f0 c.tails_of_4.ensures

pub returns-in-244 : goal.returns-in-244
returns-in-244 c = behind-first _ _ (first-f4 _ (omega arith)) awaits-f4 c.tails_of_4-in-244.ensures

pub returns-in_default-b : goal.returns-in_default-b
returns-in_default-b c = behind-first _ _ (first-3 _ (omega arith) (omega arith)) awaits-2 c.tails_of_3-in_default-b.ensures

pub returns-in_default-b-2 : goal.returns-in_default-b-2
returns-in_default-b-2 c = behind-first _ _ (first-4 _ (omega arith)) awaits-3 c.tails_of_4-in_default-b-2.ensures

pub returns-in_default : goal.returns-in_default
returns-in_default c = no-first _ _ _ (high-begins-none _ (omega arith))
