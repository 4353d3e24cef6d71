use Rattle.std.proofs.Common.{ap, Some}
use Rattle.records.specs.AnswerLaws.{tells}
use Rattle.typelib.specs.Told.{told_array_desc}
use Rattle.sheet_trees.specs.Parts.{array_of}
use Rattle.sheet_trees.proofs.TreeLaws.{level-as, level-nothing, level-array}
use Rattle.sheet_trees.proofs.trees.put_array_at.Goals as goal

pub returns-in-Ok : goal.returns-in-Ok
returns-in-Ok c = level-as _ _ (ap array_of (tells told_array_desc c.in-Ok.is c.array_desc_at.ensures)) (level-array _ _ _ (c.put_array.ensures, ap Some c.word_at.ensures))

pub returns-in-Err : goal.returns-in-Err
returns-in-Err c = level-as _ _ (ap array_of (tells told_array_desc c.in-Err.is c.array_desc_at.ensures)) (level-nothing _ _ _ c.put_nothing.ensures)
