use mathlib.Core.Path.{◌≡◌}
use Prim.Native.Nat.{◌+◌, ◌-◌}
use native.Mathlib.Omega.{arith}
use Rattle.emit.specs.Laws.{part-stored}
use Rattle.emit.proofs.put_part.Goals as goal

pub returns-then-has_room-2 : goal.returns-then-has_room-2
returns-then-has_room-2 c =
    let count : c.args.place.at + 32 - c.args.place.at ≡ 32 = omega arith in
    part-stored c.args.s.now c.args.place 32 c.args.to c.if-place-le-SHORT.true (omega arith) c.if-has_room.ensures c.if-has_room-2.ensures (rw count c.store_short.ensures)
