use Rattle.std.proofs.Common.{arith}
use mathlib.Core.Path.{refl, sym, ◌∙◌}
use Rattle.std.specs.Prelude.{◌≡◌, Some}
use Rattle.typelib.specs.Descriptors.{type_description}
use Rattle.typelib.specs.Tables.{lent}
use Rattle.sheet_sizes.specs.Trees.{Under}
use Rattle.sheet_sizes.proofs.TreeLaws.{over-one, under_none, under-pointer, under-safe-array}
use Rattle.records.specs.AnswerLaws.{tells, bind-value}
use Rattle.typelib.specs.DescriptorLaws.{field-entry, description-case}
use Rattle.typelib.specs.TableLaws.{lent_fits}
use Rattle.records.specs.Told.{told}
use Rattle.typelib.specs.Descriptors.{description_of}
use Rattle.typelib.specs.Header.{library}
use borrow.Author.Rules.{rules}
use Rattle.sheet_sizes.proofs.trees.under_one.Goals as goal

pub returns-then-s-gt-LIMIT : goal.returns-then-s-gt-LIMIT
returns-then-s-gt-LIMIT c = under_none _ _ _ _ refl

pub returns-then-field-ge-NEGATIVE : goal.returns-then-field-ge-NEGATIVE
returns-then-field-ge-NEGATIVE c = under_none _ _ _ _ refl

pub returns-in_default : goal.returns-in_default
returns-in_default c = under_none _ _ _ _ refl

pub returns-in-26 : goal.returns-in-26
returns-in-26 c =
    let s = c.args.s.now in let lib = library c.args.lib.now in let field = c.args.field in
    over-one s lib _ c.in-Ok.words.second (λ a. a ≡ lent s (type_description s lib field) → Under s lib 1 field (Some c.in-Ok.words.second))
    (omega (arith, c.bits.ensures)) (omega (arith, c.bits.ensures))
    (λ e. under-pointer _ _ _ (search rules) e refl) (λ e. under-safe-array _ _ _ (search rules) e refl)
    (lent_fits _ _ _ c.if-s-gt-LIMIT.false (field-entry _ _ _ _ c.if-field-ge-NEGATIVE.false (bind-value _ _ _ _ c.in-Ok.ensures refl)))

pub returns-in_default-bits : goal.returns-in_default-bits
returns-in_default-bits c = under_none _ _ _ _ refl
