use Rattle.std.proofs.Common.{ap, ◌∙◌}
use Rattle.replies.specs.CallLaws.{laid_as}
use Rattle.rows.specs.ToldLaws.{guid-step-told}
use Rattle.rows.specs.Values.{guid_numbers, step}
use Rattle.msft_typelib.proofs.iterators.msft_guid_step.Goals as goal

pub returns : goal.returns
returns c = laid_as _ c.lay.ensures (c.of_step.ensures ∙ ap (step guid_numbers) (guid-step-told _ ∙ c.step.ensures))
