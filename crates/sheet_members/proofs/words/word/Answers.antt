use Rattle.sheet_members.proofs.WordLaws.{word-there, word-beyond}
use Rattle.records.specs.AnswerLaws.{map-value}
use Rattle.records.specs.Record.{signed32}
use Rattle.std.proofs.Common.{to_z, ◌∙◌, ap, arith}
use Rattle.std.proofs.lemmas.Int.{to_z-of_z}
use Rattle.std.specs.Int.{w32}
use Rattle.sheet_members.proofs.words.word.Goals as goal

pub returns-then-s-at : goal.returns-then-s-at
returns-then-s-at c = ap signed32 (word-beyond _ _ (omega arith))

pub returns-then-s-at-2 : goal.returns-then-s-at-2
returns-then-s-at-2 c = ap signed32 (word-beyond _ _ (omega arith))

pub returns : goal.returns
returns c = map-value (to_z w32) _ _ _ (word-there _ _ _ (omega arith) c.or_zero.ensures) (to_z-of_z w32 _ (record { sfits = c.cast_signed.type_inv }) ∙ c.cast_signed.ensures)
