use mathlib.Core.Path.{sym, ◌∙◌}
use native.Mathlib.Omega.{arith}
use Rattle.utf8.specs.Parts.{of-text, of-no-text, replied}
use Rattle.utf8.proofs.check.Goals as goal

pub returns-then-n-lt-NO_TEXT : goal.returns-then-n-lt-NO_TEXT
returns-then-n-lt-NO_TEXT c = let all = replied _ _ (sym (of-text _ (omega arith)) ∙ c.looked-n.ensures) in record { valid_value = all.0; variant = all.1.0; looked_value = all.1.1.0; looked_at = all.1.1.1 }

pub returns : goal.returns
returns c = let all = replied _ _ (sym (of-no-text _ (omega arith)) ∙ c.looked-n.ensures) in record { valid_value = all.0; variant = all.1.0; looked_value = all.1.1.0; looked_at = all.1.1.1 }
