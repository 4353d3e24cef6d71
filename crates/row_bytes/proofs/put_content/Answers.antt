use Rattle.rows.specs.ValueLaws.{empty-laid, number-laid, bit-laid, octets-laid, text-laid}
use Rattle.emit.specs.Laws.{known, skip}
use Rattle.sheet_constants.specs.Told.{told_shape}
use mathlib.Core.Path.{ap}
use Rattle.row_bytes.proofs.put_content.Goals as goal

pub returns-in-Empty : goal.returns-in-Empty
returns-in-Empty c = known (empty-laid _ (ap told_shape c.in-Empty.is)) (skip _ _)

pub returns-in-Number : goal.returns-in-Number
returns-in-Number c = known (number-laid _ (ap told_shape c.in-Number.is) c.number_in.ensures) c.put_le.ensures

pub returns-in-Bit : goal.returns-in-Bit
returns-in-Bit c = known (bit-laid _ (ap told_shape c.in-Bit.is) c.number_in-in-Bit.ensures) c.put_le-in-Bit.ensures

pub returns-in-Octets : goal.returns-in-Octets
returns-in-Octets c = known (octets-laid _ _ (ap told_shape c.in-Octets.is) c.place_in.ensures) c.put_span.ensures

pub returns-in-Text : goal.returns-in-Text
returns-in-Text c = known (text-laid _ _ (ap told_shape c.in-Text.is) c.place_in-in-Text.ensures) c.put_opt_place.ensures
