use Rattle.sheet.proofs.ContentLaws.{sheet-size}
use Rattle.sheet.proofs.contents.end_of_sheet.Goals as goal

pub returns : goal.returns
returns c = sheet-size _ _ c.count_sheet-c.ensures
