use Rattle.records.specs.Told.{told}
use Rattle.records.specs.declared.answer.Place.{Place}
use Rattle.records.specs.declared.answer.Refusal.{Refusal}
use Rattle.std.proofs.Common.{◌≡◌, ◌+◌, ◌<◌, ℕ, ap, arith}
use Rattle.std.specs.Prelude.{Ok, Err, ◌^◌}
use Rattle.std.specs.Result.{result_unwrap_or}
use Rattle.std.specs.declared.result.Result.{Result}
use Rattle.typelib.specs.TableLaws.{small}
use Rattle.typelib.specs.Tables.{segment_of, table_of}
use Rattle.typelib.specs.declared.TypeLib.{TypeLib}
use Rattle.typelib.proofs.tables.table.Goals as goal

either : (lib : TypeLib) (k : ℕ) (r : Result Place Refusal) → told r ≡ segment_of lib k →
    let t : Place = result_unwrap_or r (record { at = 0; len = 0 }) in
    (t ≡ table_of (segment_of lib k)) × (t.at + t.len < 2 ^ 32)
either lib k (Ok p) e = let h = small lib k p e in (ap table_of e, omega arith)
either lib k (Err n) e = (ap table_of e, omega arith)

pub returns : goal.returns
returns c = rw c.unwrap_or.ensures (either _ _ _ c.segment.ensures)
