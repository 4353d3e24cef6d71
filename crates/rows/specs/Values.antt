-- The bytes of each kind of value, as a call lays them into its output: numbers at their own widths, little-endian, in the
-- papers' order; a place, a length, an index, a count of bytes and a cursor's numbers in eight bytes each. Assumes nothing.
use Rattle.std.specs.Prelude.{cond, List, [], ◌∷◌, ◌++◌, ℕ}
use Rattle.std.specs.Int.{w32}
use Rattle.std.proofs.Common.{of_z}
use Rattle.utf8.specs.declared.TextCheck.{TextCheck}
use Rattle.records.specs.Answer.{Answer, value, refused}
use Rattle.records.specs.Types.{vt_of}
use Rattle.records.specs.declared.answer.Place.{Place}
use Rattle.records.specs.declared.arraydesc.SafeArrayBound.{SafeArrayBound}
use Rattle.records.specs.declared.name.NameEntry.{NameEntry}
use Rattle.records.specs.declared.types.ConstValue.{ConstValue}
use Rattle.records.specs.declared.types.TypeDescription.{TypeDescription}
use Rattle.records.specs.declared.types.TypeDescription.TheVariants as type
use Rattle.typelib.specs.declared.descriptors.WordPair.{WordPair}
use Rattle.impltypes.specs.declared.ImplTypeCursor.{ImplTypeCursor}
use Rattle.cursors.specs.declared.iterators.FuncCursor.{FuncCursor}
use Rattle.cursors.specs.declared.iterators.VarCursor.{VarCursor}
use Rattle.cursors.specs.declared.iterators.ParamCursor.{ParamCursor}
use Rattle.table_cursors.specs.declared.iterators.GuidCursor.{GuidCursor}
use Rattle.table_cursors.specs.declared.iterators.ImportCursor.{ImportCursor}
use Rattle.table_cursors.specs.declared.iterators.ImpFileCursor.{ImpFileCursor}
use Rattle.table_cursors.specs.declared.iterators.NameCursor.{NameCursor}
use Rattle.table_cursors.specs.declared.iterators.TypeInfoCursor.{TypeInfoCursor}
use Rattle.cursors.specs.Numbers.{Step, yielded, ended}
use Rattle.typelib.specs.References.{Resolved, internal, external}
use Rattle.description.specs.Format.{le_bytes}
use Rattle.description.specs.Description.{Shape, shape_of}
use Rattle.description.specs.Figures.{Figures}
use Rattle.describe.specs.Constants.{Content, content_of, number_in, place_in}

-- each number in eight bytes
abbrev pub eights : List ℕ → List ℕ
eights [] = []
eights (n ∷ ns) = le_bytes 8 n ++ eights ns

-- ---- numbers and places

abbrev pub size : ℕ → List ℕ
size n = eights (n ∷ [])

abbrev pub place : Place → List ℕ
place p = eights (p.at ∷ p.len ∷ [])

-- whether a text is valid, 1 or 0, and how many of its bytes were looked at
abbrev pub text_check : TextCheck → List ℕ
text_check c = cond c.valid 1 0 ∷ size c.looked

abbrev pub bound : SafeArrayBound → List ℕ
bound b = le_bytes 4 b.elements ++ le_bytes 4 (of_z w32 b.lower)

abbrev pub pair : WordPair → List ℕ
pair w = le_bytes 4 w.first ++ le_bytes 4 w.second

-- the figures of a sheet, four bytes each, "in the order length, functions, parameters, variables, references" (choice 18 of document 02)
abbrev pub five_words : ℕ → ℕ → ℕ → ℕ → ℕ → List ℕ
five_words a b c d e = le_bytes 4 a ++ (le_bytes 4 b ++ (le_bytes 4 c ++ (le_bytes 4 d ++ le_bytes 4 e)))

abbrev pub figures : Figures → List ℕ
figures f = five_words f.length f.functions f.parameters f.variables f.references

-- ---- descriptions of types, references and constants, each behind a code

-- the code bytes are those of the sheet's trees
abbrev pub description : TypeDescription → List ℕ
description (type.Base code) = 1 ∷ le_bytes 2 code
description (type.Pointer field) = 2 ∷ le_bytes 4 (of_z w32 field)
description (type.SafeArray field) = 3 ∷ le_bytes 4 (of_z w32 field)
description (type.CArray array) = 4 ∷ eights (array.at ∷ array.len ∷ [])
description (type.UserDefined href) = 5 ∷ le_bytes 4 (of_z w32 href)

-- 0, or 1 and the place
abbrev pub opt_place : Answer Place → List ℕ
opt_place (value p) = 1 ∷ place p
opt_place (refused n) = 0 ∷ []

-- 1 and the index; 2, the import record and the file that it names, if that is there
abbrev pub reference : Resolved → List ℕ
reference (internal index) = 1 ∷ size index
reference (external info file) = 2 ∷ (place info ++ opt_place file)

-- the place, where there is one
abbrev pub span : Answer Place → List ℕ
span (value p) = place p
span (refused n) = []

-- the place of a decimal's bytes; a text's behind 1, and 0 for the null text; a number at the width that its shape has
abbrev pub content_bytes : Shape → Content → List ℕ
content_bytes Shape.empty c = []
content_bytes (Shape.number w) c = le_bytes w (number_in c)
content_bytes Shape.bit c = le_bytes 1 (number_in c)
content_bytes (Shape.octets k) c = span (place_in c)
content_bytes Shape.text c = opt_place (place_in c)

-- the code of the case that was read, and the value
unfoldable pub constant : ConstValue → List ℕ
constant v = le_bytes 2 (vt_of v) ++ content_bytes (shape_of (vt_of v)) (content_of v)

-- ---- cursors: how many records they have yielded stands last (document 02, §10); of typeinfos it is the index

abbrev pub func_numbers : FuncCursor → List ℕ
func_numbers c = c.pos ∷ c.end ∷ c.remaining ∷ c.yielded ∷ []

abbrev pub var_numbers : VarCursor → List ℕ
var_numbers c = c.pos ∷ c.end ∷ c.remaining ∷ c.yielded ∷ []

abbrev pub param_numbers : ParamCursor → List ℕ
param_numbers c = c.pos ∷ c.end ∷ c.remaining ∷ c.yielded ∷ []

abbrev pub guid_numbers : GuidCursor → List ℕ
guid_numbers c = c.pos ∷ c.end ∷ c.yielded ∷ []

abbrev pub import_numbers : ImportCursor → List ℕ
import_numbers c = c.pos ∷ c.end ∷ c.yielded ∷ []

abbrev pub imp_file_numbers : ImpFileCursor → List ℕ
imp_file_numbers c = c.pos ∷ c.end ∷ c.yielded ∷ []

abbrev pub name_numbers : NameCursor → List ℕ
name_numbers c = c.pos ∷ c.end ∷ c.start ∷ c.yielded ∷ []

abbrev pub typeinfo_numbers : TypeInfoCursor → List ℕ
typeinfo_numbers c = c.index.0 ∷ []

-- the cursor alone
abbrev pub cursor : {C : Type 0} → (C → List ℕ) → C → List ℕ
cursor numbers c = eights (numbers c)

-- a step lays the record's place, its number and the next cursor
abbrev pub step : {C : Type 0} → (C → List ℕ) → Step Place C → Answer (List ℕ)
step numbers (yielded p number c) = value (eights (p.at ∷ p.len ∷ number ∷ numbers c))
step numbers (ended n c) = refused n

-- the next offset of a chain is a 32-bit pattern
abbrev pub chain_cursor : ImplTypeCursor → List ℕ
chain_cursor c = eights (c.table.at ∷ c.table.len ∷ []) ++ (le_bytes 4 c.next ++ le_bytes 8 c.yielded)

abbrev pub chain_step : Step Place ImplTypeCursor → Answer (List ℕ)
chain_step (yielded p number c) =
    value (eights (p.at ∷ p.len ∷ number ∷ c.table.at ∷ c.table.len ∷ []) ++ (le_bytes 4 c.next ++ le_bytes 8 c.yielded))
chain_step (ended n c) = refused n

-- a name's entry: its offset, the place of its text, and the numbers before the text
abbrev pub name_entry : NameEntry → List ℕ
name_entry e =
    eights (e.offset ∷ e.text.at ∷ e.text.len ∷ [])
    ++ (le_bytes 4 (of_z w32 e.hreftype) ++ (le_bytes 4 (of_z w32 e.next_hash) ++ (le_bytes 1 e.flags ++ le_bytes 2 e.hashcode)))

abbrev pub entry_step : Step NameEntry NameCursor → Answer (List ℕ)
entry_step (yielded e number c) = value (name_entry e ++ eights (number ∷ name_numbers c))
entry_step (ended n c) = refused n
