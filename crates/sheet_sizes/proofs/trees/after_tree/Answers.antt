use Rattle.sheet_sizes.proofs.CountLaws.{ahead-measured, known-e, bytes-e, stays-e}
use Rattle.sheet_sizes.proofs.TreeLaws.{whole-tree, inline-long, inline-base}
use mathlib.Core.Path.{refl}
use mathlib.Core.List.{[], ◌∷◌}
use Rattle.sheet_sizes.proofs.trees.after_tree.Goals as goal

pub returns-then-from-gt-PAST : goal.returns-then-from-gt-PAST
returns-then-from-gt-PAST c = stays-e _ _ _ c.if-from-gt-PAST.true

pub returns-then-field-lt-NEGATIVE : goal.returns-then-field-lt-NEGATIVE
returns-then-field-lt-NEGATIVE c = rw c.ahead.ensures (known-e (whole-tree _ _ _) (c.after_nested-end.ensures.is _))

pub returns-then-s-gt-LIMIT : goal.returns-then-s-gt-LIMIT
returns-then-s-gt-LIMIT c = known-e (inline-long _ _ _ c.if-s-gt-LIMIT.true) (bytes-e _ _ _ (ahead-measured _ c.ahead-then-s-gt-LIMIT.ensures (0 ∷ []) refl))

pub returns : goal.returns
returns c = known-e (inline-base _ _ _ c.if-field-lt-NEGATIVE.false c.if-s-gt-LIMIT.false) (bytes-e _ _ _ (ahead-measured _ c.ahead-2.ensures (0 ∷ 0 ∷ 0 ∷ []) refl))
