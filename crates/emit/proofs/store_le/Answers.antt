use Prim.Native.Nat.{◌%◌, ◌/◌, ◌+◌, ◌-◌}
use Rattle.std.proofs.Common.{◌≡◌, length-set, arith}
use Rattle.emit.specs.Laws.{sets-turn, le_bytes-more, le_bytes-none}
use Rattle.description.specs.Format.{le_bytes}
use Rattle.emit.proofs.store_le.Goals as goal

pub loop-place-preserved : goal.loop-place-preserved
loop-place-preserved c =
    let l = c.loop-place in
    let end = c.args.at + c.args.width in
    let less : end - (l.place + 1) ≡ end - l.place - 1 = omega arith in
    (rw less (sets-turn l.out _ l.place (l.rest % 256) (le_bytes (end - l.place - 1) (l.rest / 256)) (rw (le_bytes-more (end - l.place) l.rest (omega arith)) at l.invariant.0)), simp length-set l.invariant.1)

pub returns : goal.returns
returns c = let l = c.loop-place in rw (le_bytes-none (c.args.at + c.args.width - l.place) l.rest (omega arith)) at l.invariant.0
