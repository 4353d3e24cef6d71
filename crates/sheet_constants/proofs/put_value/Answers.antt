use Rattle.std.proofs.Common.{ap}
use Rattle.sheet_constants.specs.Laws.{empty-laid, number-laid, bit-laid, octets-laid, shown-laid}
use Rattle.sheet_constants.specs.Told.{told_shape}
use Rattle.emit.specs.Laws.{skip, known}
use Rattle.sheet_constants.proofs.put_value.Goals as goal

pub returns-in-Empty : goal.returns-in-Empty
returns-in-Empty c = known (empty-laid _ _ (ap told_shape c.in-Empty.is)) (skip _ _)

pub returns-in-Number : goal.returns-in-Number
returns-in-Number c = known (number-laid _ _ (ap told_shape c.in-Number.is) c.number_in.ensures) c.put_le.ensures

pub returns-in-Bit : goal.returns-in-Bit
returns-in-Bit c = known (bit-laid _ _ (ap told_shape c.in-Bit.is) c.number_in-in-Bit.ensures) c.put_le-in-Bit.ensures

pub returns-in-Octets : goal.returns-in-Octets
returns-in-Octets c = known (octets-laid _ _ (ap told_shape c.in-Octets.is) c.place_in.ensures c.part.ensures) c.put_bytes.ensures

pub returns-in-Text : goal.returns-in-Text
returns-in-Text c = known (shown-laid _ _ (ap told_shape c.in-Text.is) c.place_in-in-Text.ensures) c.put_text.ensures
