use Rattle.utf8.specs.Parts.{decided}
use Rattle.utf8.proofs.is_utf8.Goals as goal

pub returns : goal.returns
returns c = let all = decided _ c.looked.result c.looked.ensures in record { value = all.0; variant = all.1 }
