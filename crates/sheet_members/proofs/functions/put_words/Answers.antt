use Rattle.emit.specs.Laws.{known, join}
use Rattle.sheet_members.proofs.MemberLaws.{words-is}
use Rattle.std.proofs.Common.{arith}
use Rattle.sheet_members.proofs.functions.put_words.Goals as goal

pub returns : goal.returns
returns c = known (words-is _ _ c.word_at-flags.ensures c.half_at-vtable_offset.ensures c.word_at-fkccic.ensures c.half_at-nrargs.ensures c.half_at-nroargs.ensures (omega arith) (omega arith) (omega arith)) (join c.put_le-t.ensures c.put_le.ensures)
