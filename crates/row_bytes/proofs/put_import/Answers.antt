use Rattle.rows.specs.ValueLaws.{import-laid}
use Rattle.emit.specs.Laws.{known, join}
use Rattle.row_bytes.proofs.put_import.Goals as goal

pub returns : goal.returns
returns g c = known (import-laid c.args.info c.file_place.ensures) (join c.put_u8-t.ensures (join c.put_place-t.ensures c.put_opt_place.ensures))
