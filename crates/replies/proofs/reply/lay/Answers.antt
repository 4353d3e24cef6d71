use Rattle.std.specs.Prelude.{pos, neg_ℤ}
use Rattle.std.proofs.Common.{arith, sym, ap, ◌∙◌, length-take-le}
use Rattle.records.specs.Answer.{refused}
use Rattle.rows.specs.Told.{told_row_within}
use Rattle.rows.specs.RowLaws.{bytes-short-as}
use Rattle.replies.specs.CallLaws.{laid_as}
use Rattle.replies.specs.LayLaws.{row-done, row-no-room, row-refused}
use Rattle.replies.proofs.reply.lay.Goals as goal

pub returns-in-Err : goal.returns-in-Err
returns-in-Err g c = laid_as _ (row-refused _ _ (omega arith) c.minus.ensures) (ap refused c.number_of.ensures ∙ ap (told_row_within g.F.Refuses.number g.E.Refuses.number) (sym c.in-Err.is))

pub returns-then-out-size : goal.returns-then-out-size
returns-then-out-size g c = laid_as _ (row-no-room _ _ _ (bytes-short-as g.F.Refuses.number c.in-Ok.row) c.put_row-size.ensures c.if-out-size.true (c.minus-then-out-size.ensures ∙ ap (λ n. neg_ℤ (pos n)) c.number.ensures)) (ap (told_row_within g.F.Refuses.number g.E.Refuses.number) (sym c.in-Ok.is))

pub slice_bounds-put_row-end-3 : goal.slice_bounds-put_row-end-3
slice_bounds-put_row-end-3 g c = sym (length-take-le _ _ c.if-out-size.false)

pub returns : goal.returns
returns g c = laid_as _ (row-done _ _ _ (bytes-short-as g.F.Refuses.number c.in-Ok.row) c.put_row-size.ensures c.if-out-size.false (omega arith) c.put_row.ensures) (ap (told_row_within g.F.Refuses.number g.E.Refuses.number) (sym c.in-Ok.is))
