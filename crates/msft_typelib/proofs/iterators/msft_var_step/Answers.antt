use Rattle.std.proofs.Common.{ap, ◌∙◌}
use Rattle.replies.specs.CallLaws.{laid_as}
use Rattle.rows.specs.ToldLaws.{var-step-told}
use Rattle.rows.specs.Values.{step, var_numbers}
use Rattle.msft_typelib.proofs.iterators.msft_var_step.Goals as goal

pub returns : goal.returns
returns c = laid_as _ c.lay.ensures (c.of_step.ensures ∙ ap (step var_numbers) (var-step-told _ ∙ c.step.ensures))
