use Rattle.std.proofs.Common.{ap, ◌∙◌}
use Rattle.records.specs.Answer.{map}
use Rattle.replies.specs.CallLaws.{laid_as}
use Rattle.rows.specs.ToldLaws.{guid-told}
use Rattle.rows.specs.Values.{place}
use Rattle.msft_typelib.proofs.guidentry.msft_guidentry_guid.Goals as goal

pub returns : goal.returns
returns c = laid_as _ c.lay.ensures (c.of_record.ensures ∙ ap (map place) (guid-told _ ∙ c.guid.ensures))
