use Rattle.std.proofs.Common.{◌≡◌, ◌+◌, ◌-◌, ◌*◌, ◌/◌, ◌%◌, ◌∙◌, ap, rules, arith, add-zero, List, ℕ}
use Rattle.std.specs.Prelude.{set}
use Rattle.util.specs.Read.{le}
use Rattle.typelib.specs.Tabulate.{tabulate, filled, filled-turn, set-two, length-tabulate}
use Rattle.typelib.specs.Header.{pair_at}
use Rattle.typelib.specs.HeaderLaws.{word-in-part}
use Rattle.typelib.proofs.numbers_at.Goals as goal

pub loop-i-init : goal.loop-i-init
unfolding tabulate
loop-i-init c = search rules

pub loop-i-preserved : goal.loop-i-preserved
loop-i-preserved c = let s = c.args.s.now in
    let at = c.args.at in
    let i = c.loop-i.i in
    let from = at + 16 * (i / 2) + 4 * (i % 2) in
    let e = word-in-part s from (from + 4 - from) 0 _ (omega arith) (omega arith) c.or_zero.ensures in
    (c.loop-i.invariant.0, filled-turn (pair_at s at) i _ _ _ (omega arith) c.loop-i.invariant.1 (e ∙ ap (le 4 s) (add-zero from)))

pub returns : goal.returns
returns c = let f = pair_at c.args.s.now c.args.at in
    let n : c.loop-i.i ≡ 30 = omega arith in
    let e = c.loop-i.invariant.1 ∙ ap (λ (k : ℕ). filled f k _) n ∙ ap (filled f 30) c.loop-i.invariant.0 in
    let count = c.args.count in
    let table = c.args.table in
    ap (λ (l : List ℕ). set (set l 30 count) 31 table) e ∙ set-two (tabulate f 30) 0 0 count table 30 (length-tabulate f 30)
