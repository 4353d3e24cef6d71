use Rattle.emit.specs.Laws.{known, join}
use Rattle.rows.specs.ValueLaws.{shown}
use Rattle.rows.specs.Told.{bytes_of_as}
use Rattle.records.specs.Answer.{value}
use Rattle.row_bytes.proofs.put_values.Goals as goal

pub returns-in-Plain : goal.returns-in-Plain
returns-in-Plain g c = known (shown (λ r. value (bytes_of_as g.F.Refuses.number r)) c.in-Plain.is) c.put_longs.ensures

pub returns-in-Words : goal.returns-in-Words
returns-in-Words g c = known (shown (λ r. value (bytes_of_as g.F.Refuses.number r)) c.in-Words.is) (join c.put_u32-t.ensures c.put_u32.ensures)

pub returns-in-Step : goal.returns-in-Step
returns-in-Step g c = known (shown (λ r. value (bytes_of_as g.F.Refuses.number r)) c.in-Step.is) c.put_step.ensures

pub returns-in-Chain : goal.returns-in-Chain
returns-in-Chain g c = known (shown (λ r. value (bytes_of_as g.F.Refuses.number r)) c.in-Chain.is) (join c.put_longs-t.ensures (join c.put_u32-t-in-Chain.ensures c.put_le.ensures))

pub returns-in-Marked : goal.returns-in-Marked
returns-in-Marked g c = known (shown (λ r. value (bytes_of_as g.F.Refuses.number r)) c.in-Marked.is) (join c.put_u8-t.ensures c.put_longs-in-Marked.ensures)

pub returns-in-Half : goal.returns-in-Half
returns-in-Half g c = known (shown (λ r. value (bytes_of_as g.F.Refuses.number r)) c.in-Half.is) (join c.put_u8-t-in-Half.ensures c.put_u16.ensures)

pub returns-in-Word : goal.returns-in-Word
returns-in-Word g c = known (shown (λ r. value (bytes_of_as g.F.Refuses.number r)) c.in-Word.is) (join c.put_u8-t-in-Word.ensures c.put_u32-in-Word.ensures)

pub returns-in-Import : goal.returns-in-Import
returns-in-Import g c = known (shown (λ r. value (bytes_of_as g.F.Refuses.number r)) c.in-Import.is) c.put_import.ensures

pub returns-in-Constant : goal.returns-in-Constant
returns-in-Constant g c = known (shown (λ r. value (bytes_of_as g.F.Refuses.number r)) c.in-Constant.is) c.put_constant.ensures

pub returns-in-Entry : goal.returns-in-Entry
returns-in-Entry g c = known (shown (λ r. value (bytes_of_as g.F.Refuses.number r)) c.in-Entry.is) c.put_name_step.ensures

pub returns-in-Figures : goal.returns-in-Figures
returns-in-Figures g c = known (shown (λ r. value (bytes_of_as g.F.Refuses.number r)) c.in-Figures.is) c.put_figures.ensures
