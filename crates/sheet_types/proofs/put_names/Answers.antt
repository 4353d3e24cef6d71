use Rattle.sheet_bases.proofs.TypeLaws.{names-is}
use Rattle.emit.specs.Laws.{known, join}
use Rattle.sheet_types.proofs.put_names.Goals as goal

pub returns : goal.returns
returns c = known (names-is _ _ _ c.word_at-declared.ensures c.word_at.ensures c.word_at-2.ensures c.bits.ensures c.bits-2.ensures) (join c.put_opt_guid-t.ensures (join c.put_opt_name-t.ensures (join c.put_le-t.ensures c.put_le.ensures)))
