-- Document 01, "Edges": the library of 324 bytes, all zero but for the magic, has the smallest description.
-- Assumes nothing.
use Rattle.std.specs.Prelude.{◌≡◌, refl}
use Rattle.util.specs.Read.{le, read}
use Rattle.records.specs.Answer.{value}
use Rattle.describe.specs.WorkedCases.{zeros}
use Rattle.typelib.specs.Header.{library_of, parse_of}
use Rattle.typelib.specs.Tables.{lent, segment_place, segment_of}
use Rattle.typelib.specs.Tabulate.{tabulate}
use Rattle.description.specs.Edges.{smallest}
use Rattle.description.specs.Sheet.{edition-one}
use Rattle.describe.specs.Values.{all}
use Rattle.describe.specs.References.{guid_of}
use Rattle.describe.specs.Members.{name_of}
use Rattle.describe.specs.Types.{types_from}
use Rattle.describe.specs.Describe.{header_of, describe_as, describe}

pub smallest-described : describe edition-one (zeros 324) ≡ value smallest
unfolding describe describe_as header_of types_from all guid_of name_of parse_of library_of tabulate segment_of segment_place lent le read
smallest-described = refl
