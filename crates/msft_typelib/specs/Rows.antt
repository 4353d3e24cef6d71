-- What exports give that needs more than a few words, by the lent bytes. Assumes nothing.
use Rattle.std.specs.Prelude.{List, ℕ, ◌-◌}
use Rattle.records.specs.Answer.{Answer, value, map}
use Rattle.records.specs.Counted.{array_desc_size, imp_file_size}
use Rattle.records.specs.Layout.{Layout, array_desc, imp_file, type_info_base}
use Rattle.records.specs.Record.{bits_of, field}
use Rattle.records.specs.Types.{kind_of}
use Rattle.records.specs.declared.typeinfo.TypeInfoEntry.{TypeInfoEntry}
use Rattle.typelib.specs.Header.{type_count}
use Rattle.typelib.specs.Descriptors.{array_desc_at, type_desc_at, type_description}
use Rattle.typelib.specs.Names.{guid_place, lib_guid, lib_helpstring, lib_name, name_bytes, name_text, segment_bytes, string_text}
use Rattle.typelib.specs.References.{href_index, href_resolved, imp_file_at}
use Rattle.typelib.specs.Tables.{lent, segment_of}
use Rattle.typelib.specs.TypeInfos.{func_name, typeinfo_of, typeinfo_offset, var_name}
use Rattle.constants.specs.Constants.{const_at}
use Rattle.impltypes.specs.Chain.{impl_types_of}
use Rattle.cursors.specs.Cursors.{func_step, param_step, var_step}
use Rattle.cursors.specs.declared.iterators.FuncCursor.{FuncCursor}
use Rattle.cursors.specs.declared.iterators.VarCursor.{VarCursor}
use Rattle.cursors.specs.declared.iterators.ParamCursor.{ParamCursor}
use Rattle.table_cursors.specs.Cursors.{guids_of, imp_file_step, imp_files_of, imports_of, names_of, typeinfo_step, typeinfos_of}
use Rattle.table_cursors.specs.Members.{member_name}
use Rattle.table_cursors.specs.declared.iterators.ImpFileCursor.{ImpFileCursor}
use Rattle.table_cursors.specs.declared.iterators.TypeInfoCursor.{TypeInfoCursor}
use Rattle.description.specs.Sheet.{edition-one}
use Rattle.describe.specs.Figures.{figures_of}
use Rattle.replies.specs.Call.{in_library, kind_number}
use Rattle.rows.specs.Values.{chain_cursor, constant, cursor, description, figures, func_numbers, guid_numbers, imp_file_numbers, import_numbers, name_numbers, pair, param_numbers, place, reference, size, step, typeinfo_numbers, var_numbers}

-- ---- of a record

-- the size of a function's or a variable's record: the low 16 bits of its first word
abbrev pub record_size_row : Layout → List ℕ → ℕ → ℕ → Answer (List ℕ)
record_size_row l s at len = map size (map (bits_of 0 16) (field l "Info" s at len))

-- the size of a descriptor with its bounds, and of an import file with its name
abbrev pub array_desc_size_row : List ℕ → ℕ → ℕ → Answer (List ℕ)
array_desc_size_row s at len = map size (map array_desc_size (field array_desc "dimensions" s at len))

abbrev pub imp_file_size_row : List ℕ → ℕ → ℕ → Answer (List ℕ)
imp_file_size_row s at len = map size (map imp_file_size (field imp_file "size" s at len))

-- the number of a typeinfo's kind
abbrev pub kind_in : List ℕ → ℕ → ℕ → Answer ℕ
kind_in s at len = map kind_number (map kind_of (map (bits_of 0 4) (field type_info_base "typekind" s at len)))

-- ---- of the library: segments, names, strings and GUIDs

abbrev pub segment_row : List ℕ → ℕ → Answer (List ℕ)
segment_row s index = in_library s (λ lib. map place (segment_of lib index))

abbrev pub segment_data_row : List ℕ → ℕ → Answer (List ℕ)
segment_data_row s index = in_library s (λ lib. map place (segment_bytes s lib index))

abbrev pub name_bytes_row : List ℕ → ℕ → Answer (List ℕ)
name_bytes_row s offset = in_library s (λ lib. map place (name_bytes s lib offset))

abbrev pub name_row : List ℕ → ℕ → Answer (List ℕ)
name_row s offset = in_library s (λ lib. map place (name_text s lib offset))

abbrev pub string_row : List ℕ → ℕ → Answer (List ℕ)
string_row s offset = in_library s (λ lib. map place (string_text s lib offset))

abbrev pub guid_row : List ℕ → ℕ → Answer (List ℕ)
guid_row s offset = in_library s (λ lib. map place (guid_place s lib offset))

abbrev pub lib_name_row : List ℕ → Answer (List ℕ)
lib_name_row s = in_library s (λ lib. map place (lib_name s lib))

abbrev pub lib_guid_row : List ℕ → Answer (List ℕ)
lib_guid_row s = in_library s (λ lib. map place (lib_guid s lib))

abbrev pub lib_helpstring_row : List ℕ → Answer (List ℕ)
lib_helpstring_row s = in_library s (λ lib. map place (lib_helpstring s lib))

-- ---- typeinfos, and the names of their members

abbrev pub typeinfo_offset_bits : List ℕ → ℕ → Answer ℕ
typeinfo_offset_bits s index = in_library s (λ lib. typeinfo_offset s lib index)

abbrev pub typeinfo_row : List ℕ → ℕ → Answer (List ℕ)
typeinfo_row s index = in_library s (λ lib. map place (typeinfo_of s lib index))

abbrev pub func_name_row : List ℕ → TypeInfoEntry → ℕ → Answer (List ℕ)
func_name_row s ti index = in_library s (λ lib. map place (func_name s lib ti index))

abbrev pub var_name_row : List ℕ → TypeInfoEntry → ℕ → Answer (List ℕ)
var_name_row s ti index = in_library s (λ lib. map place (var_name s lib ti index))

abbrev pub member_name_row : List ℕ → ℕ → ℕ → Answer (List ℕ)
member_name_row s index k = in_library s (λ lib. map place (member_name s lib index k))

-- ---- descriptions of types, references and constants

abbrev pub type_desc_row : List ℕ → ℕ → Answer (List ℕ)
type_desc_row s offset = in_library s (λ lib. map pair (type_desc_at s lib offset))

abbrev pub array_desc_row : List ℕ → ℕ → Answer (List ℕ)
array_desc_row s offset = in_library s (λ lib. map place (array_desc_at s lib offset))

abbrev pub type_description_row : List ℕ → ℕ → Answer (List ℕ)
type_description_row s datatype = in_library s (λ lib. map description (lent s (type_description s lib datatype)))

abbrev pub imp_file_row : List ℕ → ℕ → Answer (List ℕ)
imp_file_row s offset = in_library s (λ lib. map place (imp_file_at s lib offset))

abbrev pub href_index_row : List ℕ → ℕ → Answer (List ℕ)
href_index_row s hreftype = in_library s (λ lib. map size (href_index lib hreftype))

abbrev pub href_row : List ℕ → ℕ → Answer (List ℕ)
href_row s hreftype = in_library s (λ lib. map reference (href_resolved s lib hreftype))

abbrev pub constant_row : List ℕ → ℕ → Answer (List ℕ)
constant_row s word = in_library s (λ lib. map constant (const_at s lib word))

-- ---- cursors

abbrev pub guids_row : List ℕ → Answer (List ℕ)
guids_row s = in_library s (λ lib. map (cursor guid_numbers) (guids_of s lib))

abbrev pub imports_row : List ℕ → Answer (List ℕ)
imports_row s = in_library s (λ lib. map (cursor import_numbers) (imports_of s lib))

abbrev pub imp_files_row : List ℕ → Answer (List ℕ)
imp_files_row s = in_library s (λ lib. map (cursor imp_file_numbers) (imp_files_of s lib))

abbrev pub names_row : List ℕ → Answer (List ℕ)
names_row s = in_library s (λ lib. map (cursor name_numbers) (names_of s lib))

abbrev pub impl_types_row : List ℕ → TypeInfoEntry → Answer (List ℕ)
impl_types_row s ti = in_library s (λ lib. map chain_cursor (impl_types_of s lib ti))

-- what a step lays: over functions, variables and parameters, and over import files
abbrev pub func_step_row : List ℕ → FuncCursor → Answer (List ℕ)
func_step_row s c = step func_numbers (func_step s c)

abbrev pub var_step_row : List ℕ → VarCursor → Answer (List ℕ)
var_step_row s c = step var_numbers (var_step s c)

abbrev pub param_step_row : List ℕ → ParamCursor → Answer (List ℕ)
param_step_row s c = step param_numbers (param_step s c)

abbrev pub imp_file_step_row : List ℕ → ImpFileCursor → Answer (List ℕ)
imp_file_step_row s c = step imp_file_numbers (imp_file_step s c)

-- the typeinfos from the first; what a step of theirs lays; how many are left
abbrev pub typeinfos_row : List ℕ → Answer (List ℕ)
typeinfos_row s = in_library s (λ lib. map (cursor typeinfo_numbers) (typeinfos_of s))

abbrev pub typeinfo_step_row : List ℕ → TypeInfoCursor → Answer (List ℕ)
typeinfo_step_row s c = in_library s (λ lib. step typeinfo_numbers (typeinfo_step s lib c))

abbrev pub types_left_row : List ℕ → ℕ → Answer (List ℕ)
types_left_row s index = in_library s (λ lib. value (size (type_count lib - index)))

-- ---- the sheet

-- the figures of a library's sheet
abbrev pub figures_row : List ℕ → Answer (List ℕ)
figures_row s = map figures (figures_of edition-one s)
