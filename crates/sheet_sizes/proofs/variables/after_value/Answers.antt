use Rattle.sheet_sizes.proofs.CountLaws.{ahead-measured}
use Rattle.emit.specs.Laws.{known}
use Rattle.description.specs.Format.{length-le_bytes}
use Rattle.sheet_members.proofs.MemberLaws.{value-constant, value-word}
use Rattle.sheet_sizes.specs.Counts.{measured}
use Rattle.sheet_sizes.proofs.variables.after_value.Goals as goal

pub returns-then-varkind-eq2 : goal.returns-then-varkind-eq2
returns-then-varkind-eq2 c = known (value-constant _ _ _ _ c.if-varkind-eq2.true) (measured c.put_opt_constant.ensures.moves)

pub returns-else-varkind-eq2 : goal.returns-else-varkind-eq2
returns-else-varkind-eq2 c = known (value-word _ _ _ _ c.if-varkind-eq2.false) (ahead-measured _ c.ahead.ensures _ (length-le_bytes 4 _))
