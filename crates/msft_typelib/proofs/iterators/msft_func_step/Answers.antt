use Rattle.std.proofs.Common.{ap, ◌∙◌}
use Rattle.replies.specs.CallLaws.{laid_as}
use Rattle.rows.specs.ToldLaws.{func-step-told}
use Rattle.rows.specs.Values.{func_numbers, step}
use Rattle.msft_typelib.proofs.iterators.msft_func_step.Goals as goal

pub returns : goal.returns
returns c = laid_as _ c.lay.ensures (c.of_step.ensures ∙ ap (step func_numbers) (func-step-told _ ∙ c.step.ensures))
