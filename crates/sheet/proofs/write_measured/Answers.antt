use Rattle.sheet.proofs.CallLaws.{measured-made}
use borrow.Author.Rules.{rules}
use Rattle.sheet.proofs.write_measured.Goals as goal

pub finish-requires : goal.finish-requires
finish-requires c = record { lib_bound = search rules; made = measured-made _ _ c.end_of_sheet.ensures }
