use Rattle.records.specs.AttributeLaws.{default-beyond, default-short, default-absent, default-there}
use Rattle.member_records.proofs.func.FuncRecord.default_at.Goals as goal

pub returns-then-n-index : goal.returns-then-n-index
returns-then-n-index c = default-beyond _ _ _ _ _ _ c.if-n-index.true

pub returns-then-len-n : goal.returns-then-len-n
returns-then-len-n c = default-short _ _ _ _ _ _ c.if-n-index.false c.if-len-n.true

pub returns-then-present : goal.returns-then-present
returns-then-present c = default-there _ _ _ _ _ _ _ c.if-n-index.false c.if-len-n.false c.if-present.true c.field.ensures

pub returns : goal.returns
returns c = default-absent _ _ _ _ _ _ c.if-n-index.false c.if-len-n.false c.if-present.false
