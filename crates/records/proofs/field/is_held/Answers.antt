use Rattle.records.specs.RecordLaws.{held-long, held-short, held-outside, held-inside}
use Rattle.std.proofs.Common.{arith}
use Rattle.records.proofs.field.is_held.Goals as goal

pub returns-then-size-gt-LIMIT : goal.returns-then-size-gt-LIMIT
returns-then-size-gt-LIMIT c = held-long _ _ _ _ c.if-size-gt-LIMIT.true

pub returns-then-whole-fixed : goal.returns-then-whole-fixed
returns-then-whole-fixed c = held-short _ _ _ _ c.if-size-gt-LIMIT.false c.if-whole-fixed.true

pub returns-then-size-whole : goal.returns-then-size-whole
returns-then-size-whole c = held-outside _ _ _ _ c.if-size-gt-LIMIT.false c.if-whole-fixed.false (omega arith)

pub returns-then-size-whole-2 : goal.returns-then-size-whole-2
returns-then-size-whole-2 c = held-outside _ _ _ _ c.if-size-gt-LIMIT.false c.if-whole-fixed.false (omega arith)

pub returns : goal.returns
returns c = held-inside _ _ _ _ c.if-size-gt-LIMIT.false c.if-whole-fixed.false (omega arith)
