use Rattle.sheet_sizes.proofs.CountLaws.{references-e}
use Rattle.sheet_sizes.specs.Counted.{reference_counted}
use Rattle.sheet_sizes.specs.Counts.{measured}
use Rattle.sheet_sizes.proofs.bases.after_parent.Goals as goal

pub returns : goal.returns
unfolding reference_counted
returns c = rw c.ahead.ensures (references-e _ _ _ 1 (measured c.put_reference.ensures.moves))
