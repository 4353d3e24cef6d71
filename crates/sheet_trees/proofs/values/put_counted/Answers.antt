use Rattle.std.proofs.Common.{length, ℕ, ◌+◌, ◌*◌, ◌%◌, List, ap}
use Rattle.description.specs.Format.{le_bytes}
use Rattle.records.specs.Record.{part_of}
use Rattle.records.specs.Answer.{value}
use Rattle.emit.specs.Laws.{known, join}
use Rattle.emit.specs.Emit.{counted_part, ◌▸◌}
use Rattle.sheet_trees.proofs.values.put_counted.Goals as goal

pub returns-then-end-ne0 : goal.returns-then-end-ne0
returns-then-end-ne0 c = c.put_short_counted-end.ensures.done c.if-end-ne0.true

pub returns : goal.returns
unfolding counted_part
returns c = rw (c.put_short_counted-end.ensures.none c.if-end-ne0.false) at (known (ap (λ (b : List ℕ). value (le_bytes 2 (1 + 256 * (length b % 256))) ▸ value (part_of c.args.s.now (value c.args.place))) c.part-bytes.ensures) (join c.put_le-t.ensures c.put_part.ensures))
