use Rattle.records.specs.RecordLaws.{holds, place-some, place_none}
use Rattle.records.specs.Record.{field_place}
use Rattle.std.proofs.Common.{rules, arith}
use Rattle.records.proofs.field.field_place.Goals as goal

pub returns-in_err-is_held : goal.returns-in_err-is_held
unfolding field_place
returns-in_err-is_held c = search rules

pub returns-then-whole-offset : goal.returns-then-whole-offset
returns-then-whole-offset c = place_none _ _ _ _ _ _ c.in_ok-is_held.ensures (omega arith)

pub returns-then-whole-offset-2 : goal.returns-then-whole-offset-2
returns-then-whole-offset-2 c = place_none _ _ _ _ _ _ c.in_ok-is_held.ensures (omega arith)

pub overflow_add-result : goal.overflow_add-result
overflow_add-result c = let h = holds _ _ _ _ c.in_ok-is_held.ensures in omega arith

pub returns : goal.returns
returns c = place-some _ _ _ _ _ _ c.in_ok-is_held.ensures (omega arith)
