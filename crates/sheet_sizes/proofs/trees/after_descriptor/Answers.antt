use Rattle.std.specs.Prelude.{Some}
use Rattle.sheet_sizes.proofs.TreeLaws.{ahead-most, over-one}
use Rattle.sheet_sizes.specs.Trees.{LevelCounted}
use Rattle.sheet_sizes.specs.Counts.{measured}
use native.Mathlib.Omega.{arith}
use mathlib.Core.Path.{refl, sym, ◌∙◌}
use Rattle.sheet_sizes.proofs.TreeLaws.{level-as, level-pointer, level-safe-array, level-user, level-put, no-user}
use Rattle.typelib.specs.DescriptorLaws.{description-case}
use Rattle.typelib.specs.Descriptors.{description_of}
use Rattle.typelib.specs.Header.{library}
use Rattle.sheet_sizes.proofs.trees.after_descriptor.Goals as goal

pub after_user-requires : goal.after_user-requires
after_user-requires c = c.requires

pub overflow_add-result : goal.overflow_add-result
overflow_add-result c = omega (arith, ahead-most _ _ c.requires c.after_user.ensures)

pub returns-in-26 : goal.returns-in-26
returns-in-26 c =
    over-one c.args.s.now (library c.args.lib.now) _ c.args.second (λ a. LevelCounted c.args.s.now (library c.args.lib.now) a c.args.to (record { to = c.ahead.result; inner = Some c.args.second }))
    (omega (arith, c.bits.ensures)) (omega (arith, c.bits.ensures))
    (level-pointer _ _ _ c.ranges.second c.ahead.ensures refl) (level-safe-array _ _ _ c.ranges.second c.ahead.ensures refl)

pub returns-in-29 : goal.returns-in-29
unfolding description_of
returns-in-29 c = level-as _ _ _ (description-case 29 c.args.s.now (library c.args.lib.now) _ c.args.second _ (sym c.bits.ensures ∙ c.in-29.is) refl) (level-user _ _ _ c.ranges.second c.after_user.ensures refl refl)

pub returns-in_default : goal.returns-in_default
returns-in_default c = level-put _ _ _ _ c.requires (no-user _ _ _ _ (λ z. omega (arith, c.bits.ensures, z))) (measured c.put_descriptor.ensures.0.moves, c.put_descriptor.ensures.1)
