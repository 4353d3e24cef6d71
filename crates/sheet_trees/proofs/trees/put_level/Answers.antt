use Rattle.std.proofs.Common.{refl, ◌∙◌, sym, rules}
use Rattle.typelib.specs.Header.{library}
use Rattle.records.specs.Told.{told}
use Rattle.records.specs.AnswerLaws.{tells, bind-value, bind-refused}
use Rattle.typelib.specs.Descriptors.{description_of}
use Rattle.typelib.specs.TableLaws.{lent-long, lent_fits}
use Rattle.typelib.specs.DescriptorLaws.{field-base, field-entry, description-case}
use Rattle.sheet_trees.proofs.TreeLaws.{level-as, level-nothing, level-base, level-pointer}
use Rattle.sheet_trees.proofs.trees.put_level.Goals as goal

pub returns-then-s-gt-LIMIT : goal.returns-then-s-gt-LIMIT
returns-then-s-gt-LIMIT c = level-as _ _ (lent-long _ _ c.if-s-gt-LIMIT.true) (level-nothing _ _ _ c.put_nothing.ensures)

pub returns-then-field-ge-NEGATIVE : goal.returns-then-field-ge-NEGATIVE
returns-then-field-ge-NEGATIVE c = level-as _ _ (lent_fits _ _ _ c.if-s-gt-LIMIT.false (field-base _ _ _ _ c.if-field-ge-NEGATIVE.true c.bits.ensures)) (level-base _ _ _ c.put_leaf.ensures)

pub returns-then-bits-eq26 : goal.returns-then-bits-eq26
unfolding description_of
returns-then-bits-eq26 c = level-as _ _ (lent_fits _ _ _ c.if-s-gt-LIMIT.false (field-entry _ _ _ _ c.if-field-ge-NEGATIVE.false (bind-value _ _ _ _ (tells told c.in-Ok.is c.type_desc_at.ensures) refl))) (level-as _ _ (description-case 26 c.args.s.now (library c.args.lib.now) _ c.in-Ok.words.second _ (sym c.bits-in-Ok.ensures ∙ c.if-bits-eq26.true) refl) (level-pointer _ _ (search rules) c.put_over.ensures))

pub returns-else-bits-eq26 : goal.returns-else-bits-eq26
returns-else-bits-eq26 c = level-as _ _ (lent_fits _ _ _ c.if-s-gt-LIMIT.false (field-entry _ _ _ _ c.if-field-ge-NEGATIVE.false (bind-value _ _ _ _ (tells told c.in-Ok.is c.type_desc_at.ensures) refl))) c.put_descriptor.ensures

pub returns-in-Err : goal.returns-in-Err
returns-in-Err c = level-as _ _ (lent_fits _ _ _ c.if-s-gt-LIMIT.false (field-entry _ _ _ _ c.if-field-ge-NEGATIVE.false (bind-refused _ _ _ (tells told c.in-Err.is c.type_desc_at.ensures)))) (level-nothing _ _ _ c.put_nothing-in-Err.ensures)
