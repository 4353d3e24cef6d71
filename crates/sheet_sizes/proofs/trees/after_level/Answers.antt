use mathlib.Core.Path.{refl}
use Rattle.records.specs.AnswerLaws.{tells, bind-value, bind-refused}
use Rattle.typelib.specs.DescriptorLaws.{field-base, field-entry}
use Rattle.typelib.specs.TableLaws.{lent-long, lent_fits}
use Rattle.records.specs.Told.{told}
use Rattle.sheet_sizes.proofs.TreeLaws.{level-as, level-nothing, level-base}
use Rattle.sheet_sizes.proofs.trees.after_level.Goals as goal

pub returns-then-s-gt-LIMIT : goal.returns-then-s-gt-LIMIT
returns-then-s-gt-LIMIT c = level-as _ _ _ (lent-long _ _ c.if-s-gt-LIMIT.true) (level-nothing _ _ _ _ c.leaf.ensures)

pub returns-then-field-ge-NEGATIVE : goal.returns-then-field-ge-NEGATIVE
returns-then-field-ge-NEGATIVE c = level-as _ _ _ (lent_fits _ _ _ c.if-s-gt-LIMIT.false (field-base _ _ _ _ c.if-field-ge-NEGATIVE.true refl)) (level-base _ _ _ _ c.leaf-then-field-ge-NEGATIVE.ensures)

pub after_descriptor-requires : goal.after_descriptor-requires
after_descriptor-requires c = c.requires

pub returns-in-Ok : goal.returns-in-Ok
returns-in-Ok c = level-as _ _ _ (lent_fits _ _ _ c.if-s-gt-LIMIT.false (field-entry _ _ _ _ c.if-field-ge-NEGATIVE.false (bind-value _ _ _ _ (tells told c.in-Ok.is c.type_desc_at.ensures) refl))) c.after_descriptor.ensures

pub returns-in-Err : goal.returns-in-Err
returns-in-Err c = level-as _ _ _ (lent_fits _ _ _ c.if-s-gt-LIMIT.false (field-entry _ _ _ _ c.if-field-ge-NEGATIVE.false (bind-refused _ _ _ (tells told c.in-Err.is c.type_desc_at.ensures)))) (level-nothing _ _ _ _ c.leaf-in-Err.ensures)
