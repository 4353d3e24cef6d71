use Rattle.std.proofs.Common.{refl, ap, ◌∙◌, sym, rules}
use Rattle.typelib.specs.Header.{library}
use Rattle.sheet_trees.proofs.TreeLaws.{level-as, level-base, level-pointer, level-safe-array, level-user}
use Rattle.typelib.specs.DescriptorLaws.{description-base, description-case}
use Rattle.typelib.specs.Descriptors.{description_of, array_desc_at}
use Rattle.sheet_trees.specs.Parts.{array_of}
use Rattle.sheet_trees.proofs.trees.put_descriptor.Goals as goal

pub returns-in-26 : goal.returns-in-26
unfolding description_of
returns-in-26 c = level-as _ _ (description-case 26 c.args.s.now (library c.args.lib.now) _ c.args.second _ (sym c.bits-code.ensures ∙ c.in-26.is) refl) (level-pointer _ _ c.ranges.second c.put_over.ensures)

pub returns-in-27 : goal.returns-in-27
unfolding description_of
returns-in-27 c = level-as _ _ (description-case 27 c.args.s.now (library c.args.lib.now) _ c.args.second _ (sym c.bits-code.ensures ∙ c.in-27.is) refl) (level-safe-array _ _ c.ranges.second c.put_over-in-27.ensures)

pub returns-in-28 : goal.returns-in-28
unfolding description_of
returns-in-28 c = level-as _ _ (description-case 28 c.args.s.now (library c.args.lib.now) _ c.args.second _ (sym c.bits-code.ensures ∙ c.in-28.is) (ap (λ n. array_of (array_desc_at c.args.s.now (library c.args.lib.now) n)) c.bits.ensures)) c.put_array_at.ensures

pub returns-in-29 : goal.returns-in-29
unfolding description_of
returns-in-29 c = level-as _ _ (description-case 29 c.args.s.now (library c.args.lib.now) _ c.args.second _ (sym c.bits-code.ensures ∙ c.in-29.is) refl) (level-user _ _ c.ranges.second c.put_user.ensures)

pub returns-in_default : goal.returns-in_default
returns-in_default c = level-as _ _ (description-base _ _ _ _ (search rules) (search rules) (search rules) (search rules) ∙ ap (λ n. description_of c.args.s.now (library c.args.lib.now) n c.args.second) c.bits-code.ensures) (level-base _ _ _ c.put_leaf.ensures)
