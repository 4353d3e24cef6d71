use Rattle.sheet_sizes.proofs.MemberLaws.{from, from-none, from-turn}
use Rattle.sheet_sizes.proofs.CountLaws.{Left, left-all, left_less, left-none, left-stopped}
use Rattle.sheet_sizes.specs.Counted.{variable_figures, variable_counted, variables_from}
use Rattle.typelib.specs.Header.{library, type_count}
use native.Mathlib.Omega.{arith}
use Prim.Native.Nat.{ℕ}
use Rattle.records.specs.AnswerLaws.{tells}
use Rattle.cursors.specs.declared.iterators.VarCursor.{VarCursor}
use Rattle.cursors.specs.Cursors.{var_step}
use Rattle.cursors.specs.NumberLaws.{var-turn}
use Rattle.cursors.specs.Told.{told_var_step}
use Rattle.describe.specs.Members.{variable_of}
use mathlib.Core.Path.{sym, subst, ◌∙◌}
use Rattle.sheet_sizes.proofs.variables.after_each.Goals as goal

pub loop-t-init : goal.loop-t-init
loop-t-init c = let z = c.requires in (subst (λ (n : ℕ). Left (from (var_step c.args.s.now) (λ (x : VarCursor). x.remaining) (variable_figures (type_count (library c.args.lib.now))) (variable_of c.args.s.now (library c.args.lib.now) c.args.ti) 0 c.args.cursor) c.args.from (from (var_step c.args.s.now) (λ (x : VarCursor). x.remaining) (variable_figures (type_count (library c.args.lib.now))) (variable_of c.args.s.now (library c.args.lib.now) c.args.ti) n c.args.cursor) c.args.from) (sym z) left-all, omega (arith, z), omega arith)

pub returns-after-loop-t : goal.returns-after-loop-t
unfolding variables_from
returns-after-loop-t c = left-stopped c.loop-t.invariant.0 (omega (arith, c.loop-t-test.false))

pub returns-in_default : goal.returns-in_default
unfolding variables_from
returns-in_default c = left-none c.loop-t.invariant.0 (from-none (var_step c.args.s.now) (λ (x : VarCursor). x.remaining) _ _ _ (tells told_var_step c.in_default.is c.step.ensures))

pub after_variable-t-requires : goal.after_variable-t-requires
after_variable-t-requires c = c.names_of-names.ensures

pub loop-t-smaller : goal.loop-t-smaller
loop-t-smaller c = let e = tells told_var_step c.in-Record.is c.step.ensures in let t = var-turn c.args.s.now (omega (arith, c.loop-t.invariant.1, c.loop-t.invariant.2)) e in omega (arith, t.lessens.some, t.lessens.fewer)

pub loop-t-preserved : goal.loop-t-preserved
unfolding variable_counted
loop-t-preserved c = let e = tells told_var_step c.in-Record.is c.step.ensures in let t = var-turn c.args.s.now (omega (arith, c.loop-t.invariant.1, c.loop-t.invariant.2)) e in (left_less c.loop-t.invariant.0 c.after_variable-t.ensures (from-turn (var_step c.args.s.now) (λ (x : VarCursor). x.remaining) _ _ (λ (x : VarCursor). x.yielded) t e), t.sum ∙ c.loop-t.invariant.1, c.loop-t.invariant.2)
