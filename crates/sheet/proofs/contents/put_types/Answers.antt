use Rattle.typelib.specs.Header.{library, type_count}
use borrow.Author.Rules.{rules}
use native.Mathlib.Omega.{arith}
use mathlib.Core.Path.{refl, sym, ◌∙◌}
use native.Mathlib.Numerals.{lt_of_le_of_ne}
use Rattle.sheet.proofs.ContentLaws.{patch-keeps, types-start, types-less, types-none, types-stopped}
use Rattle.sheet.proofs.contents.put_types.Goals as goal

pub loop-i-init : goal.loop-i-init
loop-i-init c = (types-start c.args.s.now (library c.args.lib.now) (type_count (library c.args.lib.now)), search rules, refl)

pub overflow_mul-i : goal.overflow_mul-i
overflow_mul-i c = omega arith

pub overflow_add-i : goal.overflow_add-i
overflow_add-i c = omega arith

pub loop-i-preserved : goal.loop-i-preserved
loop-i-preserved c = (types-less c.args.s.now (library c.args.lib.now) _ _ (omega (arith, c.loop-i-test.true, c.loop-i.invariant.1)) c.loop-i.invariant.0 c.put_type_of-end.ensures c.patch.ensures, c.loop-i.invariant.1, patch-keeps _ _ c.patch.ensures ∙ c.put_type_of-end.ensures.keeps ∙ c.loop-i.invariant.2)

pub shape_of-out : goal.shape_of-out
shape_of-out c = c.loop-i.invariant.2

pub returns : goal.returns
returns c = let w = types-none c.args.s.now (library c.args.lib.now) (type_count (library c.args.lib.now)) _ (omega (arith, c.loop-i-test.false, c.loop-i.invariant.1)) c.loop-i.invariant.0 in record { short = λ _. w; endless = λ _. w; keeps = c.loop-i.invariant.2 }

pub returns-then-most-t : goal.returns-then-most-t
returns-then-most-t c =
    let stopped = types-stopped c.args.s.now (library c.args.lib.now) (type_count (library c.args.lib.now)) c.loop-i.i c.max.ensures in
    record { short = λ f. stopped (omega (arith, c.max.ensures, lt_of_le_of_ne (omega (arith, c.max.ensures)) (λ e. f (sym e)))) c.loop-i.invariant.0; endless = λ h. stopped (omega (arith, h, c.if-most-t.true)) c.loop-i.invariant.0; keeps = c.loop-i.invariant.2 }
