use lib.IntN.{ℤ}
use Rattle.typelib.specs.Names.{name_text}
use Rattle.typelib.specs.Nine.{nine-map, nine-member, long-member}
use Rattle.records.specs.Told.{told}
use Rattle.records.specs.AnswerLaws.{tells, bind-value, bind-refused, map-refused}
use Rattle.records.specs.Answer.{refused}
use mir.ValLaws.{to_z-of_z}
use mir.Val.{of_z, to_z}
use mir.Syntax.{w32}
use mathlib.Core.Path.{◌∙◌, ap, sym}
use Rattle.typelib.proofs.TypeLib.func_name.Goals as goal

pub returns-then-s-gt-LIMIT : goal.returns-then-s-gt-LIMIT
returns-then-s-gt-LIMIT c = bind-refused _ _ _ (map-refused (to_z w32) _ _ (long-member _ c.args.s.now c.args.ti c.args.index c.if-s-gt-LIMIT.true))

pub returns-in_default : goal.returns-in_default
returns-in_default c = sym (ap refused (nine-map (to_z w32) _ (nine-member _ c.args.s.now c.args.ti c.args.index c.if-s-gt-LIMIT.false) _ (tells told c.in_default.is c.func_name_offset.ensures))) ∙ bind-refused _ _ _ (tells told c.in_default.is c.func_name_offset.ensures)

pub returns : goal.returns
returns c = bind-value _ _ _ _ (tells told c.in-Ok.is c.func_name_offset.ensures) (c.name.ensures ∙ ap (λ (z : ℤ). name_text c.args.s.now c.args.self (of_z w32 z)) (to_z-of_z w32 c.in-Ok.offset (record { sfits = c.in-Ok.known_told-1-own.given.0.1 })))
