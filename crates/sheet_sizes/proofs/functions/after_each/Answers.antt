use Rattle.sheet_sizes.proofs.MemberLaws.{from, from-none, from-turn}
use Rattle.sheet_sizes.proofs.CountLaws.{Left, left-all, left_less, left-none, left-stopped}
use Rattle.sheet_sizes.specs.Counted.{function_figures, function_counted, functions_from}
use Rattle.typelib.specs.Header.{library, type_count}
use native.Mathlib.Omega.{arith}
use Rattle.records.specs.AnswerLaws.{tells}
use Rattle.cursors.specs.declared.iterators.FuncCursor.{FuncCursor}
use Rattle.cursors.specs.Cursors.{func_step}
use Rattle.cursors.specs.NumberLaws.{func-turn}
use Rattle.cursors.specs.Told.{told_func_step}
use Rattle.describe.specs.Members.{function_of}
use Rattle.describe.specs.Values.{found}
use Rattle.sheet_members.proofs.WordLaws.{found-signed, memids-are, names-are}
use Rattle.records.specs.Answer.{or_nine}
use Rattle.util.specs.Read.{read}
use Rattle.typelib.specs.TypeInfos.{func_memid, func_name_offset}
use Prim.Native.Nat.{◌*◌, ℕ, ◌+◌}
use mathlib.Core.Path.{sym, subst, ap, ◌∙◌}
use Rattle.sheet_sizes.proofs.functions.after_each.Goals as goal

pub loop-t-init : goal.loop-t-init
loop-t-init c = let z = c.requires in (λ ti k. subst (λ (n : ℕ). Left (from (func_step c.args.s.now) (λ (x : FuncCursor). x.remaining) (function_figures (type_count (library c.args.lib.now))) (function_of c.args.s.now (library c.args.lib.now) ti) 0 c.args.cursor) c.args.from (from (func_step c.args.s.now) (λ (x : FuncCursor). x.remaining) (function_figures (type_count (library c.args.lib.now))) (function_of c.args.s.now (library c.args.lib.now) ti) n c.args.cursor) c.args.from) (sym z) left-all, omega (arith, z), omega arith)

pub returns-after-loop-t : goal.returns-after-loop-t
unfolding functions_from
returns-after-loop-t c = left-stopped (c.loop-t.invariant.0 _ c.func_rows-rows.ensures) (omega (arith, c.loop-t-test.false))

pub returns-in_default : goal.returns-in_default
unfolding functions_from
returns-in_default c = left-none (c.loop-t.invariant.0 _ c.func_rows-rows.ensures) (from-none (func_step c.args.s.now) (λ (x : FuncCursor). x.remaining) _ _ _ (tells told_func_step c.in_default.is c.step.ensures))

pub after_function-t-requires : goal.after_function-t-requires
after_function-t-requires c = c.names_of-names.ensures

pub loop-t-smaller : goal.loop-t-smaller
loop-t-smaller c = let e = tells told_func_step c.in-Record.is c.step.ensures in let t = func-turn c.args.s.now (omega (arith, c.loop-t.invariant.1, c.loop-t.invariant.2)) e in omega (arith, t.lessens.some, t.lessens.fewer)

pub loop-t-preserved : goal.loop-t-preserved
unfolding function_counted
loop-t-preserved c = let e = tells told_func_step c.in-Record.is c.step.ensures in let t = func-turn c.args.s.now (omega (arith, c.loop-t.invariant.1, c.loop-t.invariant.2)) e in let s = c.args.s.now in let i = c.in-Record.number in let r = c.func_rows-rows.result in (λ ti k. left_less (c.loop-t.invariant.0 ti k) (c.after_function-t.ensures ti i (ap found c.word-memid.ensures ∙ found-signed (or_nine (read 4 s (r.memids + 4 * i))) (func_memid s ti i) (memids-are s ti k i)) (ap found c.word-name_offset.ensures ∙ found-signed (or_nine (read 4 s (r.names + 4 * i))) (func_name_offset s ti i) (names-are s ti k i))) (from-turn (func_step s) (λ (x : FuncCursor). x.remaining) _ _ (λ (x : FuncCursor). x.yielded) t e), t.sum ∙ c.loop-t.invariant.1, c.loop-t.invariant.2)
