use Rattle.sheet_bases.proofs.BaseLaws.{base-parent, base-chain, base-aliased, base-absent}
use Rattle.emit.specs.Laws.{known, skip}
use Rattle.std.proofs.Common.{arith}
use Rattle.sheet_bases.proofs.put_base.Goals as goal

pub returns-in-3 : goal.returns-in-3
returns-in-3 c = known (base-parent _ _ _ _ c.word_at-in-3.ensures (omega arith) (omega arith)) c.put_reference.ensures

pub returns-in-5 : goal.returns-in-5
returns-in-5 c = known (base-chain _ _ _ _ c.in-5.is) c.put_chain.ensures

pub returns-in-6 : goal.returns-in-6
returns-in-6 c = known (base-aliased _ _ _ _ c.word_at.ensures c.in-6.is) c.put_tree.ensures

pub returns-in_default : goal.returns-in_default
returns-in_default c = known (base-absent _ _ _ _ (λ e. omega (arith, e)) (λ e. omega (arith, e)) (λ e. omega (arith, e)) (λ e. omega (arith, e))) (skip _ _)

pub returns-in_default-2 : goal.returns-in_default-2
returns-in_default-2 c = known (base-absent _ _ _ _ (λ e. omega (arith, e)) (λ e. omega (arith, e)) (λ e. omega (arith, e)) (λ e. omega (arith, e))) (skip _ _)
