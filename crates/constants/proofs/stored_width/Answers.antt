use Rattle.constants.specs.Constants.{stored_width}
use Rattle.constants.specs.ConstantLaws.{width-beyond}
use Rattle.constants.proofs.Cells.{cell}
use mathlib.Core.List.{List, [], ◌∷◌}
use mathlib.Core.Path.{sym}
use Prim.Native.Nat.{ℕ}
use native.Mathlib.Omega.{arith}
use borrow.Author.Rules.{rules}
use Rattle.constants.proofs.stored_width.Goals as goal

widths : List ℕ
widths =
    0 ∷ 0 ∷ 4 ∷ 4 ∷ 4 ∷ 8 ∷ 8 ∷ 8 ∷ 4 ∷ 4 ∷ 4 ∷ 2 ∷ 4 ∷ 4 ∷ 16 ∷ 4 ∷ 4 ∷ 4 ∷ 4 ∷ 4 ∷ 8 ∷ 8 ∷ 4 ∷ 4 ∷ 0 ∷ 4 ∷ 4 ∷ 4 ∷ 4 ∷ 4 ∷ 4 ∷ 4 ∷ 4 ∷ 4 ∷ 4 ∷ 4 ∷ 4 ∷ 4 ∷ 4 ∷ 4 ∷ 4 ∷ 4 ∷ 4 ∷ 4 ∷ 4 ∷ 4 ∷ 4 ∷ 4 ∷ 4 ∷ 4 ∷ 4 ∷ 4 ∷ 4 ∷ 4 ∷ 4 ∷ 4 ∷ 4 ∷ 4 ∷ 4 ∷ 4 ∷ 4 ∷ 4 ∷ 4 ∷ 4 ∷ 8 ∷ []

pub overflow_cast-result : goal.overflow_cast-result
unfolding widths stored_width
overflow_cast-result c = let h = cell stored_width widths tt c.args.vt c.if-code-lt65.true in record { fits = omega (arith, h.1) }

pub returns-then-code-lt65 : goal.returns-then-code-lt65
unfolding widths stored_width
returns-then-code-lt65 c = cell stored_width widths tt c.args.vt c.if-code-lt65.true

pub returns : goal.returns
returns c = (sym (width-beyond _ c.if-code-lt65.false), search rules)
