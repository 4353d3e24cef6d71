-- THE DESCRIPTION OF A LIBRARY, from its bytes alone (document 01, "The sheet (added)" and "Numbers of refusal").
-- Assumes nothing.
use Rattle.std.specs.Prelude.{cond, List, ℕ, ltb}
use Rattle.records.specs.Answer.{Answer, refused, map, bind}
use Rattle.typelib.specs.declared.TypeLib.{TypeLib}
use Rattle.typelib.specs.Header.{header, parse_of, type_count}
use Rattle.description.specs.Description.{Header, TypeInfo, Library}
use Rattle.description.specs.Sheet.{Edition}
use Rattle.describe.specs.Values.{field_of, all}
use Rattle.describe.specs.References.{guid_of}
use Rattle.describe.specs.Members.{name_of}
use Rattle.describe.specs.Types.{types_from}

-- "Library: u32 at 0x0C, u32 at 0x18, opt GUID (offset at 0x08), opt name (0x38)."
unfoldable pub header_of : List ℕ → TypeLib → Header
header_of s lib =
    record {
      lcid = field_of header "lcid" s 0;
      version = field_of header "version" s 0;
      guid = guid_of s lib (field_of header "posguid" s 0);
      name = name_of s lib (field_of header "NameOffset" s 0);
    }

-- the types upward
abbrev pub types_of : List ℕ → TypeLib → Answer (List TypeInfo)
types_of s lib = all (types_from s lib (type_count lib) 0)

-- 13 where there are more types than the edition allows
unfoldable pub describe_as : Edition → List ℕ → TypeLib → Answer Library
describe_as e s lib =
    cond (ltb e.most_types (type_count lib)) (refused 13)
    (map (λ types. record { header = header_of s lib; types = types }) (types_of s lib))

-- "1 to 5 in order, 13, then types upward (6, 7, 8; base; functions with result tree before parameters; variables)"
unfoldable pub describe : Edition → List ℕ → Answer Library
describe e s = bind (parse_of s) (describe_as e s)
