use Rattle.std.proofs.Common.{◌≡◌, ◌+◌, ◌-◌, ℕ, ap, ◌∙◌, arith, rules}
use Rattle.util.specs.Read.{none_read}
use Rattle.cursors.specs.CursorLaws.{sized, skip-cut, skip-zero, skip-on, skip-done}
use Rattle.cursors.specs.Cursors.{skip}
use Rattle.cursors.proofs.iterators.skip_functions.Goals as goal

pub returns-in_err-read_le : goal.returns-in_err-read_le
returns-in_err-read_le c =
    let h = skip-cut (c.args.count - c.loop.counter) c.args.s.now c.loop.pos (omega arith) (none_read _ _ _ c.in_err-read_le.ensures) in
    search rules

pub returns-then-size-eq0 : goal.returns-then-size-eq0
returns-then-size-eq0 c =
    let z = sized _ _ _ _ c.in_ok-read_le.ensures c.bits-size.ensures in
    skip-zero (c.args.count - c.loop.counter) c.args.s.now c.loop.pos (omega arith) z.inside (omega (arith, z.is)) ∙ c.loop.invariant.0

pub overflow_add-pos : goal.overflow_add-pos
overflow_add-pos c =
    let z = sized _ _ _ _ c.in_ok-read_le.ensures c.bits-size.ensures in
    omega (arith, z.inside, c.bits-size.ensures, c.well_formed)

pub loop-preserved : goal.loop-preserved
loop-preserved c =
    let left : ℕ = c.args.count - c.loop.counter in
    let z = sized _ _ _ _ c.in_ok-read_le.ensures c.bits-size.ensures in
    let one : c.args.count - (c.loop.counter + 1) ≡ left - 1 = omega arith in
    let on = skip-on left c.args.s.now c.loop.pos (omega arith) z.inside (λ e. c.if-size-eq0.false (z.is ∙ e)) in
    (ap (λ (k : ℕ). skip k c.args.s.now (c.loop.pos + c.bits-size.result)) one ∙ ap (λ (n : ℕ). skip (left - 1) c.args.s.now (c.loop.pos + n)) z.is ∙ on ∙ c.loop.invariant.0, omega (arith, z.inside, c.bits-size.ensures))

pub returns : goal.returns
returns c = skip-done c.args.s.now c.loop.pos ∙ ap (λ (n : ℕ). skip n c.args.s.now c.loop.pos) (omega arith) ∙ c.loop.invariant.0
