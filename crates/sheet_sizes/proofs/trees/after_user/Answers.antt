use mathlib.Core.Path.{refl}
use mathlib.Core.List.{[], ◌∷◌}
use Rattle.emit.specs.Laws.{join}
use Rattle.sheet_sizes.proofs.TreeLaws.{place-measured}
use Rattle.sheet_sizes.proofs.CountLaws.{ahead-measured}
use Rattle.sheet_sizes.specs.Counts.{measured}
use Rattle.sheet_sizes.proofs.trees.after_user.Goals as goal

pub returns : goal.returns
returns c = place-measured _ _ _ c.requires (join (ahead-measured _ c.ahead.ensures (5 ∷ []) refl) (measured c.put_reference.ensures.moves))
