use Rattle.std.proofs.Common.{ap, ◌∙◌}
use Rattle.replies.specs.CallLaws.{laid_as}
use Rattle.rows.specs.ToldLaws.{imp-file-step-told}
use Rattle.rows.specs.Values.{imp_file_numbers, step}
use Rattle.msft_typelib.proofs.iterators.msft_imp_file_step.Goals as goal

pub returns : goal.returns
returns c = laid_as _ c.lay.ensures (c.of_step.ensures ∙ ap (step imp_file_numbers) (imp-file-step-told _ ∙ c.step.ensures))
