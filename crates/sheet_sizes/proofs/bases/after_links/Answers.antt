use mathlib.Core.Path.{sym}
use mathlib.Core.List.{[]}
use native.Mathlib.Omega.{arith}
use Rattle.records.specs.AnswerLaws.{tells}
use Rattle.impltypes.specs.Chain.{told_impl_type_step}
use Rattle.impltypes.specs.ChainLaws.{walk-long}
use Rattle.description.specs.Format.{le_bytes, length-le_bytes}
use Rattle.emit.specs.Laws.{known, join, numbered, skip}
use Rattle.sheet_bases.proofs.BaseLaws.{links-none}
use Rattle.sheet_sizes.proofs.CountLaws.{ahead-measured, known-e, references-e, refusing-e}
use Rattle.sheet_sizes.proofs.BaseLaws.{walked-counts, walked-refused}
use Rattle.sheet_sizes.proofs.ChainLaws.{along, along-more, along-place, along-inside, along-round, along-last, links-last}
use Rattle.sheet_sizes.proofs.bases.after_links.Goals as goal

pub returns-then-s-gt-LIMIT : goal.returns-then-s-gt-LIMIT
returns-then-s-gt-LIMIT c = known-e (walked-refused _ _ _ ((walk-long _ _).1 c.if-s-gt-LIMIT.true)) (refusing-e _ _ _ _ (numbered c.number.ensures (c.put_refusal.ensures [])))

pub loop-link-init : goal.loop-link-init
loop-link-init c = (known (sym (links-none _ _ _ 0 0 (omega arith))) (skip _ _), along _ _)

pub returns-in_default : goal.returns-in_default
returns-in_default c = known-e (walked-counts _ _ _ _ (along-last _ _ c.if-s-gt-LIMIT.false _ c.loop-link.invariant.1 (tells told_impl_type_step c.in_default.is c.step.ensures))) (rw c.ahead.ensures (references-e _ _ _ _ (join (ahead-measured _ c.ahead-t.ensures (le_bytes 4 _) (length-le_bytes 4 _)) c.loop-link.invariant.0)))

pub overflow_sub-s : goal.overflow_sub-s
overflow_sub-s c = omega (arith, along-inside _ _ c.if-s-gt-LIMIT.false _ c.loop-link.invariant.1 (tells told_impl_type_step c.in-Record.is c.step.ensures))

pub returns-then-s-n : goal.returns-then-s-n
returns-then-s-n c = known-e (walked-refused _ _ _ (along-round _ _ c.if-s-gt-LIMIT.false _ c.loop-link.invariant.1 (tells told_impl_type_step c.in-Record.is c.step.ensures) c.if-s-n.true)) (refusing-e _ _ _ _ (numbered c.number-then-s-n.ensures (c.put_refusal-then-s-n.ensures [])))

pub overflow_add-n : goal.overflow_add-n
overflow_add-n c = omega arith

pub loop-link-smaller : goal.loop-link-smaller
loop-link-smaller c = omega arith

pub loop-link-preserved : goal.loop-link-preserved
loop-link-preserved c = let e = tells told_impl_type_step c.in-Record.is c.step.ensures in (known (links-last _ _ _ _ (along-place _ _ c.if-s-gt-LIMIT.false _ c.loop-link.invariant.1 e)) (join c.loop-link.invariant.0 c.after_link-t.ensures), along-more _ _ c.if-s-gt-LIMIT.false _ c.loop-link.invariant.1 e)
