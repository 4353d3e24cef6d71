use Rattle.sheet_sizes.proofs.TypeLaws.{library-all}
use Rattle.sheet_sizes.proofs.count_sheet.Goals as goal

pub returns : goal.returns
returns c = library-all _ _ _ c.count.ensures c.ahead-start.ensures c.after_header-to.ensures c.after_types.ensures
