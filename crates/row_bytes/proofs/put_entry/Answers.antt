use Rattle.rows.specs.ValueLaws.{entry-laid, back}
use Rattle.emit.specs.Laws.{known}
use mir.Syntax.{w32}
use Rattle.emit.specs.Laws.{join}
use Rattle.row_bytes.proofs.put_entry.Goals as goal

pub shape_of-out : goal.shape_of-out
shape_of-out c = (join c.put_longs-t.ensures (join c.put_u32-t.ensures (join c.put_u32-t-2.ensures (join c.put_le-t.ensures c.put_u16.ensures)))).keeps

pub returns : goal.returns
returns c = known (entry-laid c.args.e (back w32 c.args.e.hreftype c.struct_told-1.given.1.1.0.1 c.cast_unsigned.ensures) (back w32 c.args.e.next_hash c.struct_told-2-1.given.1.1.1.0.1 c.cast_unsigned-2.ensures)) (join c.put_longs-t.ensures (join c.put_u32-t.ensures (join c.put_u32-t-2.ensures (join c.put_le-t.ensures c.put_u16.ensures))))
