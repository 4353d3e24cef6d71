use Rattle.std.proofs.Common.{ap, sym}
use Rattle.emit.specs.Laws.{known, numbered}
use Rattle.rows.specs.Told.{told_row_within}
use Rattle.row_bytes.proofs.put_row.Goals as goal

pub returns-in-Ok : goal.returns-in-Ok
returns-in-Ok g c = known (sym (ap (told_row_within g.F.Refuses.number g.E.Refuses.number) c.in-Ok.is)) c.put_values.ensures

pub returns-in-Err : goal.returns-in-Err
returns-in-Err g c = known (sym (ap (told_row_within g.F.Refuses.number g.E.Refuses.number) c.in-Err.is)) (numbered c.number_of.ensures (c.put_refusal.ensures _))
