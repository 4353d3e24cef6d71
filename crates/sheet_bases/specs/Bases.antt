-- What a type is based on, as the emitters write it. Assumes nothing.
use Rattle.std.specs.Prelude.{List, ℕ, drop}
use mathlib.Core.List as lists
use Rattle.records.specs.declared.typeinfo.TypeInfoEntry.{TypeInfoEntry}
use Rattle.records.specs.declared.refrecord.RefRecord.{RefRecord}
use Rattle.records.specs.Answer.{Answer, value, map}
use Rattle.typelib.specs.declared.TypeLib.{TypeLib}
use Rattle.typelib.specs.Header.{type_count}
use Rattle.impltypes.specs.declared.ImplTypeCursor.{ImplTypeCursor}
use Rattle.impltypes.specs.Chain.{over_impl_types, place_at, records_of}
use Rattle.typelib.specs.Tabulate.{tabulate}
use Rattle.description.specs.Format.{encode, list, joined}
use Rattle.description.specs.Description.{Bytes, BaseShape, base_shape_of}
use Rattle.description.specs.Sheet.{edition-one, u32, impl_type, base}
use Rattle.describe.specs.Types.{impl_type_at, impl_types_at, base_of}

-- the base of a type, by its shape, and by the type's kind
unfoldable pub shape_emitted : List ℕ → TypeLib → TypeInfoEntry → BaseShape → Answer Bytes
shape_emitted s lib ti h = map (encode (base edition-one (type_count lib) h)) (base_of s lib ti h)

unfoldable pub base_emitted : List ℕ → TypeLib → TypeInfoEntry → ℕ → Answer Bytes
base_emitted s lib ti kind = shape_emitted s lib ti (base_shape_of kind)

-- the chain from a cursor on
unfoldable pub chain_emitted : List ℕ → TypeLib → ImplTypeCursor → Answer Bytes
chain_emitted s lib c = map (encode (list u32 (impl_type edition-one (type_count lib)))) (map (lists.map (impl_type_at s lib)) (records_of s c))

-- of the first n records of the chain, those from the k-th on
unfoldable pub links_bytes : List ℕ → TypeLib → ImplTypeCursor → ℕ → ℕ → Bytes
links_bytes s lib c n k = joined (impl_type edition-one (type_count lib)) (lists.map (impl_type_at s lib) (drop k (tabulate (place_at s (over_impl_types.stands c)) n)))

-- the chain of a typeinfo, and a record of it
abbrev pub impl_types_emitted : List ℕ → TypeLib → TypeInfoEntry → Answer Bytes
impl_types_emitted s lib ti = map (encode (list u32 (impl_type edition-one (type_count lib)))) (impl_types_at s lib ti)

abbrev pub impl_type_emitted : List ℕ → TypeLib → RefRecord → Answer Bytes
impl_type_emitted s lib link =
    value (encode (impl_type edition-one (type_count lib)) (impl_type_at s lib (record { at = link.at; len = link.len })))
