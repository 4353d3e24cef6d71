use Rattle.sheet_bases.proofs.TypeLaws.{type-is}
use Rattle.emit.specs.Laws.{known, join}
use Rattle.sheet_types.proofs.put_type.Goals as goal

pub returns : goal.returns
returns c = known (type-is _ _ _ c.word_at.ensures c.bits-kind.ensures) (join c.put_head-t.ensures (join c.put_names-t.ensures (join c.put_base-t.ensures (join c.put_functions-t.ensures c.put_variables.ensures))))
