use Rattle.std.proofs.Common.{ℕ, ap, arith}
use Rattle.util.specs.Read.{le}
use Rattle.constants.specs.ConstantLaws.{number_is, width-number}
use Rattle.constants.proofs.number.Goals as goal

pub returns-in-2 : goal.returns-in-2
returns-in-2 c = number_is 2 _ _ _ _ _ c.in-2.is c.stored_width.ensures.0 c.requires.0 c.or_zero.ensures

pub returns-in-4 : goal.returns-in-4
returns-in-4 c = number_is 4 _ _ _ _ _ c.in-4.is c.stored_width.ensures.0 c.requires.0 c.or_zero-in-4.ensures

pub returns-in-8 : goal.returns-in-8
returns-in-8 c = number_is 8 _ _ _ _ _ c.in-8.is c.stored_width.ensures.0 c.requires.0 c.or_zero-in-8.ensures

pub returns-in_default : goal.returns-in_default
unfolding le
returns-in_default c = let w = c.stored_width.ensures.0 in
    ap (λ (k : ℕ). le k c.args.s.now c.args.at) (width-number c.args.vt c.requires.1 (λ e. omega arith) (λ e. omega arith) (λ e. omega arith))
