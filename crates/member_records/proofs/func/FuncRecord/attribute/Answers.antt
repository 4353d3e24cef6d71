use Rattle.records.specs.AttributeLaws.{attribute-missing, attribute-there}
use Rattle.records.specs.AnswerLaws.{bind-value}
use Rattle.member_records.proofs.func.FuncRecord.attribute.Goals as goal

pub returns-then-count-k : goal.returns-then-count-k
returns-then-count-k c = bind-value _ _ _ _ c.in_ok-count.ensures (attribute-missing 24 _ _ _ _ _ c.if-count-k.true)

pub returns : goal.returns
returns c = bind-value _ _ _ _ c.in_ok-count.ensures (attribute-there 24 _ _ _ _ _ _ c.if-count-k.false c.field.ensures)
