use Rattle.std.proofs.Common.{◌∙◌, sym, arith, rules}
use Rattle.util.specs.Read.{none_read}
use Rattle.typelib.specs.Tables.{lent}
use Rattle.cursors.specs.CursorLaws.{sized}
use Rattle.cursors.specs.Cursors.{record_at}
use Rattle.cursors.proofs.iterators.record_at.Goals as goal

pub returns-in_err-info : goal.returns-in_err-info
unfolding lent record_at
returns-in_err-info c =
    let h = none_read _ _ _ (sym c.in_err-info.ensures.ok_part ∙ c.read_le.ensures) in
    search rules

pub returns-then-size-least : goal.returns-then-size-least
unfolding lent record_at
returns-then-size-least c =
    let z = sized _ _ _ _ (sym c.in_ok-info.ensures.ok_part ∙ c.read_le.ensures) c.bits-size.ensures in
    let inside = z.inside in
    let is = z.is in
    search rules

pub overflow_sub-room : goal.overflow_sub-room
overflow_sub-room c =
    let z = sized _ _ _ _ (sym c.in_ok-info.ensures.ok_part ∙ c.read_le.ensures) c.bits-size.ensures in
    omega (arith, z.inside)

pub returns-then-room-size : goal.returns-then-room-size
unfolding lent record_at
returns-then-room-size c =
    let z = sized _ _ _ _ (sym c.in_ok-info.ensures.ok_part ∙ c.read_le.ensures) c.bits-size.ensures in
    let inside = z.inside in
    let is = z.is in
    search rules

pub returns : goal.returns
unfolding lent record_at
returns c =
    let z = sized _ _ _ _ (sym c.in_ok-info.ensures.ok_part ∙ c.read_le.ensures) c.bits-size.ensures in
    let inside = z.inside in
    let is = z.is in
    search rules
