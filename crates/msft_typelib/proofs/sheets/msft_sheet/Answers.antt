use Rattle.msft_typelib.specs.Sheets.{sheet-told}
use Rattle.msft_typelib.proofs.sheets.msft_sheet.Goals as goal

pub returns : goal.returns
returns c = sheet-told _ c.sheet.ensures c.of_written.ensures
