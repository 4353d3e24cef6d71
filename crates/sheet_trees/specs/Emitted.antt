-- What the emitters of this crate emit, each an answer: bytes, or the number of a refusal. Assumes nothing.
use Rattle.std.specs.Prelude.{◌≡◌, List, ◌∷◌, ℕ, ℤ, Option}
use Rattle.records.specs.declared.answer.Place.{Place}
use Rattle.records.specs.declared.impfile.ImpFile.{ImpFile}
use Rattle.records.specs.declared.impinfo.ImpInfo.{ImpInfo}
use Rattle.records.specs.Answer.{Answer, value, map}
use Rattle.records.specs.Record.{bits_of}
use Rattle.typelib.specs.declared.TypeLib.{TypeLib}
use Rattle.std.specs.declared.result.Result.{Result}
use Rattle.records.specs.declared.answer.Refusal.{Refusal}
use Rattle.typelib.specs.declared.references.ResolvedHreftype.{ResolvedHreftype}
use Rattle.typelib.specs.Header.{type_count}
use Rattle.typelib.specs.Tables.{lent}
use Rattle.typelib.specs.Names.{name_bytes}
use Rattle.typelib.specs.Descriptors.{array_desc_at, description_of, type_description}
use Rattle.typelib.specs.Told.{told_imp_file, told_hreftype}
use Rattle.description.specs.Format.{encode, opt}
use Rattle.description.specs.Description.{Bytes, own_is_guid}
use Rattle.description.specs.Sheet.{edition-one, u32, guid, name, file, reference, nested, tree}
use Rattle.describe.specs.Values.{found, bytes_in}
use Rattle.describe.specs.References.{guid_of, file_of, own_of, import_of, reference_from, reference_of}
use Rattle.describe.specs.Members.{name_of, name_by, memid_by}
use Rattle.describe.specs.Trees.{nested_of, tree_of}
use Rattle.emit.specs.Emit.{Emitted, Emits, put}
use Rattle.sheet_trees.specs.declared.names.Names.{Names}
use Rattle.sheet_trees.specs.declared.trees.Level.{Level}
use Rattle.sheet_trees.specs.Names.{Near, name_in, name_in_by}
use Rattle.sheet_trees.specs.Parts.{opt_part, reference_bytes, here_bytes, own_bytes, file_bytes, import_bytes, array_of, Levelled}

-- ---- numbers, names and GUIDs that may be missing

abbrev pub memid_emitted : Answer ℤ → Answer Bytes
memid_emitted memid = value (encode (opt u32) (memid_by memid))

-- the bytes at a place, behind their count in w bytes
abbrev pub part_emitted : ℕ → List ℕ → Answer Place → Answer Bytes
part_emitted w s place = value (opt_part w (found (bytes_in s place)))

module _ (s : List ℕ) (lib : TypeLib) where
  abbrev pub guid_emitted : ℕ → Answer Bytes
  guid_emitted offset = value (encode (opt guid) (guid_of s lib offset))

  abbrev pub name_emitted : ℕ → Answer Bytes
  name_emitted offset = value (encode (opt name) (name_of s lib offset))

  -- a member's name: missing where its offset is
  abbrev pub name_by_emitted : Answer ℤ → Answer Bytes
  name_by_emitted offset = value (encode (opt name) (name_by s lib offset))

  -- the same by names that were looked up, whatever these are; where they are the library's own, it is the library's name
  abbrev pub name_in_emitted : Names → ℕ → Answer Bytes
  name_in_emitted names offset = part_emitted 1 s (name_in s lib names offset)

  abbrev pub name_in_by_emitted : Names → Answer ℤ → Answer Bytes
  name_in_by_emitted names offset = value (opt_part 1 (name_in_by s lib names offset))

  abbrev pub NearName : Names → ℕ → Answer Place → Type 0
  NearName names offset r = Near s lib names → r ≡ name_bytes s lib offset

  abbrev pub NearNamePut : Names → ℕ → ℕ → List ℕ → ℕ → List ℕ → Type 0
  NearNamePut names offset to o r o' = Near s lib names → Emits (name_emitted offset) to o r o'

  abbrev pub NearNameByPut : Names → Answer ℤ → ℕ → List ℕ → ℕ → List ℕ → Type 0
  NearNameByPut names offset to o r o' = Near s lib names → Emits (name_by_emitted offset) to o r o'

  -- ---- references

  abbrev pub reference_emitted : ℕ → Answer Bytes
  reference_emitted href = value (encode (reference edition-one (type_count lib)) (reference_of s lib href))

  -- the typeinfo at a byte offset, `bit` being the reference's bit 0x01000000
  abbrev pub here_emitted : ℕ → ℕ → Answer Bytes
  here_emitted bit offset = value (here_bytes s (type_count lib) bit offset)

  -- what one comes to, `bit` being its bit 0x01000000
  abbrev pub resolved_emitted : ℕ → ResolvedHreftype Refusal → Answer Bytes
  resolved_emitted bit r = value (reference_bytes lib (reference_from s lib bit (value (told_hreftype r))))

  abbrev pub import_emitted : ℕ → ImpInfo → Result ImpFile Refusal → Answer Bytes
  import_emitted bit info f = value (import_bytes (import_of s lib bit info.at (told_imp_file f)))

  abbrev pub own_emitted : ℕ → ℕ → Answer Bytes
  own_emitted flags word = value (own_bytes (own_is_guid flags) (own_of s lib (own_is_guid flags) word))

  abbrev pub opt_file_emitted : Result ImpFile Refusal → Answer Bytes
  opt_file_emitted f = value (encode (opt file) (file_of s lib (told_imp_file f)))

  -- an import file whose name is at a place
  abbrev pub file_emitted : ImpFile → Answer Place → Answer Bytes
  file_emitted f name = value (file_bytes s lib f.at name)

  -- ---- trees

  abbrev pub tree_emitted : ℕ → Answer Bytes
  tree_emitted field = map (encode (tree edition-one (type_count lib))) (tree_of s lib field)

  abbrev pub nested_emitted : ℕ → ℕ → Answer Bytes
  nested_emitted levels field = map (encode (nested edition-one (type_count lib) levels)) (nested_of s lib levels field)

  -- a tree's reference
  abbrev pub user_bytes : ℕ → Bytes
  user_bytes href = 5 ∷ encode (reference edition-one (type_count lib)) (reference_of s lib href)

  -- one description of a tree, by a type field, by the words of a type descriptor, or by the offset of an array descriptor
  abbrev pub FieldPut : ℕ → ℕ → List ℕ → Level → List ℕ → Type 0
  FieldPut field to o r o' = Levelled s lib (lent s (type_description s lib field)) (put to) o (put r.to) o' r.inner

  abbrev pub DescriptorPut : ℕ → ℕ → ℕ → List ℕ → Level → List ℕ → Type 0
  DescriptorPut first second to o r o' =
      Levelled s lib (description_of s lib (bits_of 0 12 first) second) (put to) o (put r.to) o' r.inner

  abbrev pub ArrayPut : ℕ → ℕ → List ℕ → Level → List ℕ → Type 0
  ArrayPut offset to o r o' = Levelled s lib (array_of (array_desc_at s lib offset)) (put to) o (put r.to) o' r.inner

-- a description by its bytes and the type field under it
abbrev pub HeadPut : Bytes → Option ℕ → ℕ → List ℕ → Level → List ℕ → Type 0
HeadPut bs below to o r o' = Emitted (value bs) (put to) o (put r.to) o' × (r.inner ≡ below)
