use Rattle.std.proofs.Common.{◌∙◌, ap, ℕ, arith}
use Rattle.emit.specs.Laws.{known}
use Rattle.records.specs.Answer.{value}
use Rattle.sheet_trees.specs.Parts.{internal_bytes}
use Rattle.sheet_trees.proofs.PartLaws.{here-long, here-index, here-beyond}
use Rattle.sheet_trees.proofs.references.put_here.Goals as goal

pub returns-then-s-gt-LIMIT : goal.returns-then-s-gt-LIMIT
returns-then-s-gt-LIMIT c = known (here-long _ _ _ _ c.if-s-gt-LIMIT.true) c.put_u8.ensures

pub returns-then-index-count : goal.returns-then-index-count
returns-then-index-count c = known (ap (λ (i : ℕ). value (internal_bytes c.args.bit i)) c.index_of-index.ensures ∙ here-index _ _ _ _ c.if-s-gt-LIMIT.false (omega (arith, c.index_of-index.ensures, c.count.ensures))) c.put_internal.ensures

pub returns-else-index-count : goal.returns-else-index-count
returns-else-index-count c = known (here-beyond _ _ _ _ c.if-s-gt-LIMIT.false (omega (arith, c.index_of-index.ensures, c.count.ensures))) c.put_u8-else-index-count.ensures
