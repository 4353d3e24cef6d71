use Rattle.sheet.proofs.CallLaws.{emitted-made}
use borrow.Author.Rules.{rules}
use Rattle.sheet.proofs.write_through.Goals as goal

pub finish-requires : goal.finish-requires
finish-requires c = record { lib_bound = search rules; made = emitted-made _ _ (c.put_sheet-size.ensures.short c.if-size-eq-PAST.false) }
