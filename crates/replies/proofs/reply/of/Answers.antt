use Rattle.std.proofs.Common.{arith, sym, ap, ◌∙◌}
use Rattle.records.specs.Answer.{refused}
use Rattle.replies.specs.CallLaws.{valued, declined}
use Rattle.replies.proofs.reply.of.Goals as goal

pub returns-in-Ok : goal.returns-in-Ok
returns-in-Ok g c = valued g.T.Reply.answer (omega arith) c.in-Ok.is (sym c.number.ensures)

pub returns-in-Err : goal.returns-in-Err
returns-in-Err g c = declined g.T.Reply.answer (omega arith) c.in-Err.is (ap refused c.number-in-Err.ensures ∙ sym (g.met.T.Reply.refuses _)) c.minus.ensures
