use Rattle.std.proofs.Common.{arith, sym, ap, ◌∙◌}
use Rattle.records.specs.Answer.{refused}
use Rattle.records.specs.Told.{told_as}
use Rattle.replies.specs.CallLaws.{valued, declined}
use Rattle.replies.proofs.reply.of_told.Goals as goal

pub returns-in-Ok : goal.returns-in-Ok
returns-in-Ok g c = valued (λ a. g.T.ReplyTold.replied (told_as g.E.Refuses.number a)) (omega arith) c.in-Ok.is (sym c.number_told.ensures)

pub returns-in-Err : goal.returns-in-Err
returns-in-Err g c =
    let e = ap refused c.number_of.ensures ∙ sym (g.met.T.ReplyTold.refuses _) in
    declined (λ a. g.T.ReplyTold.replied (told_as g.E.Refuses.number a)) (omega arith) c.in-Err.is e c.minus.ensures
