use Rattle.std.proofs.Common.{rules}
use Rattle.emit.specs.Laws.{known}
use Rattle.typelib.specs.TableLaws.{pattern}
use Rattle.sheet_trees.proofs.PartLaws.{in-by, in-missing, name-by, name-missing}
use Rattle.sheet_trees.proofs.values.put_name_by.Goals as goal

pub returns-in_default : goal.returns-in_default
returns-in_default g c =
    let number = g.E.Refuses.number in
    record { emits = known (in-missing _ _ _ number c.in_default.is) c.put_u8.ensures; near_name_by_put = λ near. known (name-missing _ _ number c.in_default.is) c.put_u8.ensures }

pub returns : goal.returns
returns g c =
    let number = g.E.Refuses.number in
    let x = c.in-Ok.is in
    let n = pattern c.in-Ok.x _ (search rules) c.cast_unsigned.ensures in
    let e = c.put_name_in.ensures in
    record { emits = known (in-by _ _ _ number x n) e.emits; near_name_by_put = λ near. known (name-by _ _ number x n) (e.near_name_put near) }
