use mathlib.Core.Path.{◌≡◌, refl}
use Prim.Native.Nat.{◌+◌, ◌-◌}
use native.Mathlib.Omega.{arith}
use Rattle.emit.specs.Laws.{counted-stored}
use Rattle.emit.proofs.put_short_counted.Goals as goal

pub returns-then-has_room-2 : goal.returns-then-has_room-2
returns-then-has_room-2 c =
    let count : c.args.place.at + 32 - c.args.place.at ≡ 32 = omega arith in
    counted-stored c.args.s.now c.args.place c.args.to
    (record { few = c.if-place-le-SHORT.true; within = omega arith; inside = c.if-has_room.ensures; room = c.if-has_room-2.ensures })
    c.store_le.ensures (rw count c.store_short.ensures) refl
