use Rattle.sheet_members.proofs.MemberLaws.{value-constant, value-word}
use Rattle.emit.specs.Laws.{known}
use Rattle.sheet_members.proofs.variables.put_value.Goals as goal

pub returns-then-varkind-eq2 : goal.returns-then-varkind-eq2
returns-then-varkind-eq2 c = known (value-constant _ _ _ _ c.if-varkind-eq2.true) c.put_opt_constant.ensures

pub returns-else-varkind-eq2 : goal.returns-else-varkind-eq2
returns-else-varkind-eq2 c = known (value-word _ _ _ _ c.if-varkind-eq2.false) c.put_u32.ensures
