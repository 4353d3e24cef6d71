use Rattle.std.proofs.Common.{◌+◌, ◌-◌, ◌*◌}
use Rattle.records.specs.Answer.{value}
use Rattle.emit.specs.Emit.{put}
use Rattle.emit.specs.Laws.{Left}
use Rattle.sheet_trees.specs.Parts.{dimensions_bytes}
use Rattle.sheet_trees.proofs.trees.put_dimensions.Given as goal

abbrev pub invariant-loop-k : goal.invariant-loop-k
invariant-loop-k l =
    Left (value (dimensions_bytes l.s (l.at + 8) l.count)) (put l.initial.t) l.initial.out (value (dimensions_bytes l.s (l.at + (8 + 8 * l.k)) (l.count - l.k))) (put l.t) l.out
