-- The words behind a type's block, looked up from where they start, are those of `typelib`. Assumes nothing.
use Rattle.std.specs.Prelude.{None, ◌≡◌, refl, Bool, true, false, List, ℕ, ◌+◌, ◌*◌, ◌-◌, ◌≤◌, ◌<◌, min, length, take, drop, leb, ℤ}
use Rattle.std.proofs.Common.{sym, ap, ◌∙◌, add-zero, arith, leb-true, leb-false}
use Rattle.util.specs.Read.{read, or_zero, le, read_some, read_none}
use Rattle.records.specs.declared.answer.Place.{Place}
use Rattle.records.specs.declared.typeinfo.TypeInfoEntry.{TypeInfoEntry}
use Rattle.records.specs.Answer.{Answer, value, refused, map, bind, or_nine}
use Rattle.typelib.specs.declared.typeinfos.Counts.{Counts}
use Rattle.typelib.specs.HeaderLaws.{word-in-part}
use Rattle.typelib.specs.TypeInfos.{of_type_info, counts_of, block_at, aux_word, aux_in, member_word, func_memid, func_name_offset}
use Rattle.records.specs.Record.{signed32}
use Rattle.describe.specs.Values.{found}
use Rattle.sheet_members.specs.Words.{block_end, words_at, row_at, member_row, FuncRows}
use Rattle.typelib.specs.declared.TypeLib.{TypeLib}
use Rattle.describe.specs.Members.{memid_by, name_by}

module _ (s : List ℕ) where
  -- a word that is read from a part of just its four bytes
  pub word-there : (at v : ℕ) → at + 4 ≤ length s → v ≡ or_zero (read 4 (take (at + 4 - at) (drop at s)) 0) → value v ≡ or_nine (read 4 s at)
  word-there at v h e =
      let f : v ≡ le 4 s (at + 0) = word-in-part s at (at + 4 - at) 0 v (omega arith) (omega arith) e in
      ap value (f ∙ ap (le 4 s) (add-zero at)) ∙ ap or_nine (read_some 4 s at (le 4 s at) h refl)

  pub word-beyond : (at : ℕ) → length s < at + 4 → refused 9 ≡ or_nine (read 4 s at)
  word-beyond at h = ap or_nine (read_none 4 s at h)

  none-behind : (i : ℕ) → found (or_nine (read 4 s (length s + 4 * i))) ≡ None
  none-behind i = ap found (sym (word-beyond (length s + 4 * i) (omega arith)))

  -- a word of a row is the one so far behind where the row would start: one that is missing there is missing here too
  row_word : (a : Answer ℕ) (i : ℕ) → found (or_nine (read 4 s (row_at s a + 4 * i))) ≡ found (bind a (λ at. or_nine (read 4 s (at + 4 * i))))
  row_word (value at) i = by (leb at (length s)) refl
    where
      by : (b : Bool) → leb at (length s) ≡ b → found (or_nine (read 4 s (min at (length s) + 4 * i))) ≡ found (or_nine (read 4 s (at + 4 * i)))
      by true h = let e : min at (length s) ≡ at = omega (arith, leb-true at (length s) h) in rw e
      by false h =
          let k : length s < at = leb-false at (length s) h in
          let e : min at (length s) ≡ length s = omega arith in
          rw e (none-behind i ∙ ap found (word-beyond (at + 4 * i) (omega arith)))
  row_word (refused n) i = none-behind i

  in_block : (k i m : ℕ) → bind (map (λ at. at + 4 * k) (map block_end (block_at s m))) (λ at. or_nine (read 4 s (at + 4 * i))) ≡ aux_in s m (k + i)
  unfolding aux_in aux_word
  in_block k i m = by (block_at s m)
    where
      by : (b : Answer Place)
          → bind (map (λ at. at + 4 * k) (map block_end b)) (λ at. or_nine (read 4 s (at + 4 * i))) ≡ bind b (λ block. or_nine (read 4 s (block.at + block.len + 4 * (k + i))))
      by (value b) = ap (λ at. or_nine (read 4 s at)) (omega arith)
      by (refused n) = refl

  module _ (first : Counts → ℕ) (ti : TypeInfoEntry) where
    -- the words of the row that `first` names are the members'
    member-words : (i : ℕ) → found (or_nine (read 4 s (member_row first s ti + 4 * i))) ≡ found (member_word first s ti i)
    unfolding member_row words_at
    member-words i =
        row_word (bind (counts_of s ti) (λ c. map (λ at. at + 4 * first c) (words_at s ti))) i ∙ ap found (by (counts_of s ti) (of_type_info "memoffset" s ti))
      where
        by : (y : Answer Counts) (m : Answer ℕ)
            → bind (bind y (λ c. map (λ at. at + 4 * first c) (bind m (λ x. map block_end (block_at s x))))) (λ at. or_nine (read 4 s (at + 4 * i)))
            ≡ bind y (λ c. bind m (λ x. aux_in s x (first c + i)))
        by (value c) (value x) = in_block (first c) i x
        by (value c) (refused n) = refl
        by (refused n) m = refl

    -- it starts where the code finds it
    pub row-found : {c : Counts} {start : Answer ℕ} {k r : ℕ} → counts_of s ti ≡ value c → start ≡ words_at s ti → k ≡ first c
        → r ≡ row_at s (map (λ at. at + 4 * k) start) → r ≡ member_row first s ti
    unfolding member_row
    row-found e f g h = h ∙ rw (e, f, g)

    -- without the counts there are no words
    pub row-missing : {n : ℕ} → counts_of s ti ≡ refused n → length s ≡ member_row first s ti
    unfolding member_row
    row-missing e = rw e

  module _ (ti : TypeInfoEntry) {memids names : ℕ} (rows : FuncRows s ti memids names) where
    pub memids-are : (i : ℕ) → found (or_nine (read 4 s (memids + 4 * i))) ≡ found (func_memid s ti i)
    memids-are i = rw rows.memids-at (member-words (λ c. 0) ti i)

    pub names-are : (i : ℕ) → found (or_nine (read 4 s (names + 4 * i))) ≡ found (func_name_offset s ti i)
    names-are i = rw rows.names_at (member-words (λ c. c.funcs + c.vars) ti i)

-- a word that is the same where it is there, or missing too, is so as a signed one
pub found-signed : (x y : Answer ℕ) → found x ≡ found y → found (signed32 x) ≡ found (signed32 y)
found-signed (value a) (value b) e = let q : a ≡ b = cc in rw q
found-signed (value a) (refused n) e = absurd (let z : ◌≡◌ {A = ℕ} 0 1 = cc in omega arith)
found-signed (refused n) (value b) e = absurd (let z : ◌≡◌ {A = ℕ} 0 1 = cc in omega arith)
found-signed (refused n) (refused m) e = refl

-- and a member's identifier and name are then the same
pub memid-same : (x y : Answer ℤ) → found x ≡ found y → memid_by x ≡ memid_by y
unfolding memid_by
memid-same (value a) (value b) e = let q : a ≡ b = cc in rw q
memid-same (value a) (refused n) e = absurd (let z : ◌≡◌ {A = ℕ} 0 1 = cc in omega arith)
memid-same (refused n) (value b) e = absurd (let z : ◌≡◌ {A = ℕ} 0 1 = cc in omega arith)
memid-same (refused n) (refused m) e = refl

pub name-same : (s : List ℕ) (lib : TypeLib) (x y : Answer ℤ) → found x ≡ found y → name_by s lib x ≡ name_by s lib y
unfolding name_by
name-same s lib (value a) (value b) e = let q : a ≡ b = cc in rw q
name-same s lib (value a) (refused n) e = absurd (let z : ◌≡◌ {A = ℕ} 0 1 = cc in omega arith)
name-same s lib (refused n) (value b) e = absurd (let z : ◌≡◌ {A = ℕ} 0 1 = cc in omega arith)
name-same s lib (refused n) (refused m) e = refl
