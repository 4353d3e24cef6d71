use Rattle.std.proofs.Common.{rules}
use Rattle.typelib.specs.TypeInfos.{block_at}
use Rattle.sheet_members.proofs.words.words_behind.Goals as goal

pub returns-then-memoffset-ge-NEGATIVE : goal.returns-then-memoffset-ge-NEGATIVE
unfolding block_at
returns-then-memoffset-ge-NEGATIVE c = search rules

pub returns-in_err-size : goal.returns-in_err-size
unfolding block_at
returns-in_err-size c = search rules

pub returns : goal.returns
unfolding block_at
returns c = search rules
