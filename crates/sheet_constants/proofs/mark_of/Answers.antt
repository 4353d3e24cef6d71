use Rattle.sheet_constants.specs.Laws.{listed, file-time, raw}
use Rattle.sheet_constants.specs.Bytes.{mark_of}
use Rattle.sheet_constants.proofs.mark_of.Goals as goal

pub returns-then-code-lt26 : goal.returns-then-code-lt26
returns-then-code-lt26 c = listed mark_of _ _ c.if-code-lt26.true

pub returns-then-code-eq64 : goal.returns-then-code-eq64
returns-then-code-eq64 c = file-time mark_of _ c.if-code-eq64.true

pub returns : goal.returns
returns c = raw mark_of _ c.if-code-lt26.false c.if-code-eq64.false
