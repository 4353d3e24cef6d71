use Rattle.std.proofs.Common.{rules}
use Rattle.sheet_members.specs.Words.{words_at}
use Rattle.sheet_members.proofs.words.words_at.Goals as goal

pub returns-in_err-memoffset : goal.returns-in_err-memoffset
unfolding words_at
returns-in_err-memoffset c = search rules

pub returns : goal.returns
unfolding words_at
returns c = search rules
