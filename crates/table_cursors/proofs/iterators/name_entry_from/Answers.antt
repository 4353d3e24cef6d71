use Rattle.std.proofs.Common.{◌+◌, ap, ◌∙◌, arith, to_z}
use Rattle.std.proofs.lemmas.Int.{to_z-of_z}
use Rattle.std.specs.Int.{w32}
use Rattle.util.specs.Read.{read-zero}
use Rattle.table_cursors.proofs.iterators.name_entry_from.Goals as goal

pub returns : goal.returns
returns c =
    let h = c.requires.0 in
    let e1 = to_z-of_z w32 _ (record { sfits = c.cast_signed.type_inv }) ∙ c.cast_signed.ensures ∙ ap (to_z w32) (read-zero 4 c.args.s.now c.args.c.pos _ (omega arith) c.or_zero.ensures) in
    let e2 = to_z-of_z w32 _ (record { sfits = c.cast_signed-2.type_inv }) ∙ c.cast_signed-2.ensures ∙ ap (to_z w32) (read-zero 4 c.args.s.now (c.args.c.pos + 4) _ (omega arith) c.or_zero-2.ensures) in
    let e3 = read-zero 1 c.args.s.now (c.args.c.pos + 9) _ (omega arith) c.or_zero-3.ensures in
    let e4 = read-zero 2 c.args.s.now (c.args.c.pos + 10) _ (omega arith) c.or_zero-4.ensures in
    cc (e1, e2, e3, e4)
