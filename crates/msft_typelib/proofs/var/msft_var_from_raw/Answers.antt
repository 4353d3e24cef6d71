use Rattle.std.proofs.Common.{ap, ◌∙◌}
use Rattle.records.specs.Answer.{map}
use Rattle.replies.specs.CallLaws.{laid_as}
use Rattle.rows.specs.ToldLaws.{var-told}
use Rattle.rows.specs.Values.{place}
use Rattle.msft_typelib.proofs.var.msft_var_from_raw.Goals as goal

pub returns : goal.returns
returns c = laid_as _ c.lay.ensures (c.of_record.ensures ∙ ap (map place) (var-told _ ∙ c.from_raw.ensures))
