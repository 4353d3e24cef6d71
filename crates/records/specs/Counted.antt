-- Records whose length is in a field: array descriptors and import files; and texts. Assumes nothing.
use Rattle.std.specs.Prelude.{cond, List, ℕ, ◌+◌, ◌*◌, ◌/◌, leb}
use Rattle.utf8.specs.Utf8.{utf8}
use Rattle.utf8.specs.Looked.{checked}
use Rattle.utf8.specs.declared.TextCheck.{TextCheck}
use Rattle.records.specs.declared.answer.Place.{Place}
use Rattle.records.specs.declared.arraydesc.SafeArrayBound.{SafeArrayBound}
use Rattle.records.specs.Answer.{Answer, value, refused, map, bind}
use Rattle.records.specs.Layout.{size_of, width_of, array_desc, array_bound, imp_file}
use Rattle.records.specs.Record.{field, field_at, field_place, record_place, part_of, signed32}

-- ---- array descriptors

abbrev pub array_desc_size : ℕ → ℕ
array_desc_size dimensions = size_of array_desc + size_of array_bound * dimensions

-- the bound at an offset of the descriptor
abbrev pub bound_at : ℕ → List ℕ → ℕ → ℕ → Answer SafeArrayBound
bound_at offset s at len =
    bind (field_at 4 (size_of array_desc) offset s at len) (λ elements.
    map (λ lower. record { elements = elements; lower = lower })
    (signed32 (field_at 4 (size_of array_desc) (offset + width_of array_bound "cElements") s at len)))

-- dimension `index`; 9 where the descriptor has not so many, or ends before its bound does
abbrev pub bound_of : ℕ → List ℕ → ℕ → ℕ → Answer SafeArrayBound
bound_of index s at len =
    bind (field array_desc "dimensions" s at len) (λ dimensions.
    cond (leb dimensions index) (refused 9) (bound_at (array_desc_size index) s at len))

-- ---- texts (RFC 3629)

-- the place, where its bytes are text in UTF-8; else 9
unfoldable pub text_of : List ℕ → Answer Place → Answer Place
text_of s a = bind a (λ p. cond (utf8 (part_of s (value p))) (value p) (refused 9))

abbrev pub text_at : List ℕ → ℕ → ℕ → Answer Place
text_at s at len = text_of s (record_place 0 s at len)

-- whether the bytes at a place are text, and how many of them are looked at (document 02, §3)
abbrev pub check_at : List ℕ → ℕ → ℕ → Answer TextCheck
check_at s at len = map (λ p. checked (part_of s (value p))) (record_place 0 s at len)

-- ---- import files

-- the size field's bits 2 to 15 count the bytes of the name, which stands behind the fixed part
abbrev pub file_name_bytes : List ℕ → ℕ → ℕ → Answer Place
file_name_bytes s at len =
    bind (field imp_file "size" s at len) (λ size.
    field_place (size / 4) (size_of imp_file) (size_of imp_file) s at len)

abbrev pub file_name : List ℕ → ℕ → ℕ → Answer Place
file_name s at len = text_of s (file_name_bytes s at len)

-- the entry's length, filled up to a multiple of four
abbrev pub imp_file_size : ℕ → ℕ
imp_file_size size = (size / 4 + size_of imp_file + 3) / 4 * 4
