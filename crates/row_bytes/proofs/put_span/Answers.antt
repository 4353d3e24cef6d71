use Rattle.rows.specs.ValueLaws.{shown}
use Rattle.rows.specs.Values.{span}
use Rattle.emit.specs.Laws.{known, skip}
use Rattle.records.specs.Told.{told}
use Rattle.records.specs.Answer.{value}
use Rattle.row_bytes.proofs.put_span.Goals as goal

pub returns-in-Ok : goal.returns-in-Ok
returns-in-Ok c = known (shown (λ a. value (span (told a))) c.in-Ok.is) c.put_place.ensures

pub returns-in-Err : goal.returns-in-Err
returns-in-Err c = known (shown (λ a. value (span (told a))) c.in-Err.is) (skip _ _)
