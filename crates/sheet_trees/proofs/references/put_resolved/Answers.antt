use Rattle.std.proofs.Common.{ap}
use Rattle.sheet_trees.proofs.PartLaws.{resolved-internal, resolved-external}
use Rattle.typelib.specs.Told.{told_hreftype}
use Rattle.emit.specs.Laws.{known}
use Rattle.sheet_trees.proofs.references.put_resolved.Goals as goal

pub returns-in-Internal : goal.returns-in-Internal
returns-in-Internal c = known (resolved-internal _ _ _ _ (ap told_hreftype c.in-Internal.is)) c.put_internal.ensures

pub returns-in-External : goal.returns-in-External
returns-in-External c = known (resolved-external _ _ _ _ (ap told_hreftype c.in-External.is)) c.put_import.ensures
