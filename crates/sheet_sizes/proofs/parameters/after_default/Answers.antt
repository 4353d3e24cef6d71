use Rattle.sheet_sizes.specs.Counts.{measured}
use Rattle.sheet_sizes.proofs.parameters.after_default.Goals as goal

pub returns : goal.returns
returns c = measured c.put_constant_by.ensures.moves
