use Rattle.texts.specs.GuidLaws.{laid-text, laid-no-room, laid-no-record}
use Rattle.records.specs.RecordLaws.{holds}
use Rattle.records.specs.Answer.{refused}
use Rattle.records.specs.Told.{told, refusal_number}
use Rattle.std.proofs.Common.{◌≡◌, rules, arith}
use Rattle.texts.proofs.guid.text.Goals as goal

pub returns-in_err-is_held : goal.returns-in_err-is_held
returns-in_err-is_held c =
    let r : told c.from_residual.result ≡ refused (refusal_number c.in_err-is_held.field-0.0) = search rules in
    rw r (laid-no-record _ _ _ _ _ (rw c.place.ensures at c.in_err-is_held.ensures))

pub returns-then-out-lt-TEXT_SIZE : goal.returns-then-out-lt-TEXT_SIZE
returns-then-out-lt-TEXT_SIZE c = laid-no-room _ _ _ _ (rw c.place.ensures at c.in_ok-is_held.ensures) c.if-out-lt-TEXT_SIZE.true

pub write_text-requires : goal.write_text-requires
write_text-requires c = let h = holds _ _ _ _ (rw c.place.ensures at c.in_ok-is_held.ensures) in omega arith

pub returns : goal.returns
returns c = laid-text _ _ _ _ _ (rw c.place.ensures at c.in_ok-is_held.ensures) c.if-out-lt-TEXT_SIZE.false c.write_text.ensures
