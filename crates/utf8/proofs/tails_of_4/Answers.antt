use Rattle.std.proofs.lemmas.Result.{err_from_is_err_and}
use Rattle.utf8.specs.Utf8Laws.{awaits-2}
use Rattle.utf8.specs.Parts.{tails-on, tails-end}
use Rattle.utf8.proofs.tails_of_4.Goals as goal

pub returns-in_err-third : goal.returns-in_err-third
returns-in_err-third c = let p = err_from_is_err_and c.from_residual.result c.from_residual.ensures.1 in rw (p.1, p.2) (tails-end (c.in_err-third.ensures _))

pub returns : goal.returns
returns c = tails-on (c.in_ok-third.ensures _) awaits-2 c.tails_of_3.ensures
