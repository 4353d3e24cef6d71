use Rattle.std.proofs.Common.{rules}
use Rattle.sheet_sizes.proofs.TreeLaws.{under_none, under-second}
use Rattle.sheet_sizes.proofs.trees.under_two.Goals as goal

pub returns-in_err-under_one : goal.returns-in_err-under_one
returns-in_err-under_one c = under_none _ _ _ _ (search rules)

pub returns : goal.returns
returns c = under-second _ _ _ _ c.under_one.ensures c.in_ok-under_one.was c.under_one-2.ensures
