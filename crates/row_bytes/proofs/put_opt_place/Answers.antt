use Rattle.rows.specs.ValueLaws.{shown}
use Rattle.rows.specs.Values.{opt_place}
use Rattle.emit.specs.Laws.{known, join}
use Rattle.records.specs.Told.{told_as}
use Rattle.records.specs.Answer.{value}
use Rattle.row_bytes.proofs.put_opt_place.Goals as goal

pub returns-in-Ok : goal.returns-in-Ok
returns-in-Ok g c = known (shown (λ a. value (opt_place (told_as g.E.Refuses.number a))) c.in-Ok.is) (join c.put_u8-t.ensures c.put_place.ensures)

pub returns-in-Err : goal.returns-in-Err
returns-in-Err g c = known (shown (λ a. value (opt_place (told_as g.E.Refuses.number a))) c.in-Err.is) c.put_u8.ensures
