-- Laws of `TypeInfos`, a case each. Assumes nothing.
use Rattle.std.specs.Prelude.{◌≡◌, refl, List, ℕ, ◌+◌, ◌*◌, ◌<◌, length, Option, Some, None, ◌≤◌}
use Rattle.std.proofs.Common.{ap, arith, le-leb}
use Rattle.std.proofs.lemmas.Bool.{lt-leb}
use Rattle.util.specs.Read.{read, read_none}
use Rattle.records.specs.Answer.{refused, or_nine, Answer, value, bind}
use Rattle.typelib.specs.TypeInfos.{block_at, aux_word, aux_in, refusing, offset_word, typeinfo_in}
use Rattle.records.specs.declared.answer.Place.{Place}
use Rattle.typelib.specs.declared.TypeLib.{TypeLib}
use Rattle.typelib.specs.Header.{type_count, table_start}
use Rattle.typelib.specs.Tables.{segment_of, place_in}

-- the words behind a block
module _ (s : List ℕ) (memoffset k : ℕ) where
  pub aux-read : (size at : ℕ) (a : Option ℕ) → memoffset < 0x80000000 → Some size ≡ read 4 s memoffset → at ≡ memoffset + 4 + size + 4 * k → a ≡ read 4 s at → or_nine a ≡ aux_in s memoffset k
  unfolding aux_in block_at aux_word
  aux-read size at a h e f g = rw (lt-leb 0x80000000 memoffset h, ← e, ← f) (ap or_nine g)

  pub aux-far : (size : ℕ) → memoffset < 0x80000000 → Some size ≡ read 4 s memoffset → length s < 4 * k + 4 → refused 9 ≡ aux_in s memoffset k
  aux-far size h e f =
      aux-read size (memoffset + 4 + size + 4 * k) None h e refl (read_none 4 s (memoffset + 4 + size + 4 * k) (omega arith))

-- ---- the same by cases

pub refusing-value : {A : Type 0} (n : ℕ) (a : Answer A) (x : A) → value x ≡ a → value x ≡ refusing n a
refusing-value n a x e = ap (refusing n) e

pub refusing-refused : {A : Type 0} (n m : ℕ) (a : Answer A) → refused m ≡ a → refused n ≡ refusing n a
refusing-refused n m a e = ap (refusing n) e

module _ (s : List ℕ) (lib : TypeLib) (index : ℕ) where
  pub word-beyond : type_count lib ≤ index → refused 9 ≡ offset_word s lib index
  unfolding offset_word
  word-beyond h = rw (le-leb (type_count lib) index h)

  pub word_read : (a : Option ℕ) → index < type_count lib → a ≡ read 4 s (table_start lib + 4 * index) → or_nine a ≡ offset_word s lib index
  unfolding offset_word
  word_read a h e = rw (lt-leb (type_count lib) index h) (ap or_nine e)

module _ (s : List ℕ) (lib : TypeLib) (offset : ℕ) where
  pub typeinfo-negative : 0x80000000 ≤ offset → refused 6 ≡ typeinfo_in s lib offset
  unfolding typeinfo_in
  typeinfo-negative h = rw (le-leb 0x80000000 offset h)

  pub typeinfo-in : (a : Answer Place) → offset < 0x80000000 → a ≡ bind (refusing 7 (segment_of lib 0)) (λ table. refusing 8 (place_in s table offset 100)) → a ≡ typeinfo_in s lib offset
  unfolding typeinfo_in
  typeinfo-in a h e = rw (lt-leb 0x80000000 offset h) e

module _ (s : List ℕ) (memoffset k : ℕ) where
  pub aux-negative : 0x80000000 ≤ memoffset → refused 9 ≡ aux_in s memoffset k
  unfolding aux_in block_at
  aux-negative h = rw (le-leb 0x80000000 memoffset h)

  pub aux-none : memoffset < 0x80000000 → None ≡ read 4 s memoffset → refused 9 ≡ aux_in s memoffset k
  unfolding aux_in block_at
  aux-none h e = rw (lt-leb 0x80000000 memoffset h, ← e)
