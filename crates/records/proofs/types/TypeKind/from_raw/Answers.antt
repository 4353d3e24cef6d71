use Rattle.records.specs.Types.{kinds, kind_of}
use Rattle.records.specs.TypesLaws.{get_d_any}
use mathlib.Core.Path.{sym}
use lib.ListN.{get_or-eq_default}
use Rattle.records.proofs.types.TypeKind.from_raw.Goals as goal

pub returns-then-raw-lt8 : goal.returns-then-raw-lt8
unfolding kind_of
returns-then-raw-lt8 c = get_d_any kinds _ _ _ c.if-raw-lt8.true

pub returns-else-raw-lt8 : goal.returns-else-raw-lt8
unfolding kind_of
returns-else-raw-lt8 c = sym (get_or-eq_default kinds _ c.if-raw-lt8.false)
