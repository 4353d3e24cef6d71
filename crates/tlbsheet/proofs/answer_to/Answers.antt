use Rattle.std.proofs.Common.{sym}
use Rattle.std.proofs.Math.Seq.{take-length}
use Rattle.tlbsheet.specs.ProgramLaws.{replied-more, replied-fewer}
use Rattle.tlbsheet.proofs.answer_to.Goals as goal

pub returns-then-input-gt-MOST : goal.returns-then-input-gt-MOST
returns-then-input-gt-MOST c = replied-more c.if-input-gt-MOST.true

pub returns : goal.returns
returns c = replied-fewer c.if-input-gt-MOST.false (sym (take-length _)) c.sheet.ensures
