-- A library's cursors over tables yield what is read at their offset of the table. Where a table ends is one definition for both,
-- `in_table` of `typelib`; a cursor asks it of the bytes from the file's start to its own end. Assumes nothing.
use Rattle.std.proofs.Math.Path.{◌≡◌}
use Rattle.std.specs.Prelude.{refl, Bool, true, false, List, ℕ, ◌+◌, ◌-◌, ◌≤◌, ◌<◌, leb, ltb, length}
use Rattle.std.proofs.Common.{sym, ◌∙◌, ap, arith, leb-true, leb-false, le-leb}
use Rattle.std.proofs.lemmas.Bool.{lt-leb}
use Rattle.util.specs.Read.{le, cond-elim}
use Rattle.records.specs.declared.answer.Place.{Place}
use Rattle.records.specs.declared.name.NameEntry.{NameEntry}
use Rattle.records.specs.Answer.{Answer, value, refused, map, bind}
use Rattle.records.specs.AnswerLaws.{bind-value}
use Rattle.records.specs.Counted.{imp_file_size, text_of}
use Rattle.records.specs.Record.{limit}
use Rattle.cursors.specs.Cursors.{fixed_at}
use Rattle.cursors.specs.CursorLaws.{fixed, fixed_in, fixed_out, fixed-there, lent-value}
use Rattle.cursors.specs.Numbers.{Step}
use Rattle.cursors.specs.NumberLaws.{After}
use Rattle.cursors.specs.NumberLaws.After.{start, more, still}
use Rattle.typelib.specs.declared.TypeLib.{TypeLib}
use Rattle.typelib.specs.Names.{name_bytes, name_text}
use Rattle.typelib.specs.References.{imp_file_at}
use Rattle.typelib.specs.Tables.{lent, segment_of, in_table, place_in, table_place, table_of}
use Rattle.typelib.specs.TableLaws.{lent_fits, table_is, place_out, place-there}
use Rattle.table_cursors.specs.Cursors.{NamesAt, guid_step, guids_of, import_step, imports_of, imp_file_entry, imp_file_step, imp_files_of, entry_text, name_entry_from, name_entry, name_step, names_of}
use Rattle.table_cursors.specs.NumberLaws.{Along, guid-along, import-along, imp_file-along, name-along}
use Rattle.table_cursors.specs.declared.iterators.GuidCursor.{GuidCursor}
use Rattle.table_cursors.specs.declared.iterators.ImportCursor.{ImportCursor}
use Rattle.table_cursors.specs.declared.iterators.ImpFileCursor.{ImpFileCursor}
use Rattle.table_cursors.specs.declared.iterators.NameCursor.{NameCursor}

-- ---- one record

-- bytes of a table, counted from its start, end as the same bytes do when they are counted from the file's
ends_same : (s : List ℕ) (table : Place) (end : ℕ) → in_table s (record { at = 0; len = table.at + table.len }) (table.at + end) ≡ in_table s table end
ends_same s table end = by (leb end table.len) refl
  where
    file : leb (0 + (table.at + end)) (length s) ≡ leb (table.at + end) (length s)
    file = ap (λ (n : ℕ). leb n (length s)) (omega arith)

    by : (b : Bool) → leb end table.len ≡ b → in_table s (record { at = 0; len = table.at + table.len }) (table.at + end) ≡ in_table s table end
    by true e = rw (e, le-leb (table.at + end) (table.at + table.len) (omega (arith, leb-true end table.len e))) file
    by false e = rw (e, lt-leb (table.at + end) (table.at + table.len) (omega (arith, leb-false end table.len e))) refl

-- A CURSOR'S RECORD is the one that lies at its offset of the table
pub cursor-place : (s : List ℕ) (table : Place) (offset size : ℕ) → offset < 0x80000000 → fixed_at s (table.at + offset) (table.at + table.len) size ≡ place_in s table offset size
cursor-place s table offset size small = by (in_table s table (offset + size)) refl
  where
    counted : table.at + offset + size ≡ table.at + (offset + size)
    counted = omega arith

    same : in_table s (record { at = 0; len = table.at + table.len }) (table.at + offset + size) ≡ in_table s table (offset + size)
    same = ap (λ (n : ℕ). in_table s (record { at = 0; len = table.at + table.len }) n) counted ∙ ends_same s table (offset + size)

    by : (b : Bool) → in_table s table (offset + size) ≡ b → fixed_at s (table.at + offset) (table.at + table.len) size ≡ place_in s table offset size
    by true e =
        sym (fixed_in s (table.at + offset) (table.at + table.len) size (same ∙ e)) ∙ place-there s table offset size small e
    by false e =
        sym (fixed_out s (table.at + offset) (table.at + table.len) size (same ∙ e)) ∙ place_out s table offset size small e

-- ---- a library's own cursors

-- A cursor at pos goes over segment k of the library: `guids`, `names`, `imports` and `imp_files` give it so, and steps leave it so.
pub record Own (lib : TypeLib) (k pos end : ℕ) : Type 0 where
  pub behind : (table_of (segment_of lib k)).at ≤ pos
  pub ends : end ≡ (table_of (segment_of lib k)).at + (table_of (segment_of lib k)).len

pub own : (lib : TypeLib) (k : ℕ) → Own lib k (table_of (segment_of lib k)).at ((table_of (segment_of lib k)).at + (table_of (segment_of lib k)).len)
own lib k = record { behind = omega arith; ends = refl }

-- A LIBRARY'S CURSOR STAYS IN ITS TABLE, whatever bytes it is stepped over
module _ {S R C : Type 0} {pos end : C → ℕ} {step : S → C → Step R C} (goes : Along pos end step) (lib : TypeLib) (k : ℕ) where
  pub own-after : {c d : C} {j : ℕ} → Own lib k (pos c) (end c) → After step c j d → Own lib k (pos d) (end d)
  own-after o start = o
  own-after o (more s a e) =
      let i = own-after o a in
      record { behind = omega (arith, i.behind, goes.forward.ahead e); ends = goes.ends e ∙ i.ends }
  own-after o (still s a e) =
      let i = own-after o a in
      record { behind = omega (arith, i.behind, goes.forward.keeps e); ends = goes.kept e ∙ i.ends }

begins : {C : Type 0} (s : List ℕ) (lib : TypeLib) (k : ℕ) (pos end : C → ℕ) {b c : C} → Own lib k (pos b) (end b) → value c ≡ lent s (value b) → Own lib k (pos c) (end c)
begins s lib k pos end {b} {c} o e =
    let q : c ≡ b = let w = (lent-value s c (value b) e).is in cc in
    rw q o

module _ (s : List ℕ) (lib : TypeLib) {j : ℕ} where
  pub guids-own : {c d : GuidCursor} → value c ≡ guids_of s lib → After guid_step c j d → Own lib 5 d.pos d.end
  guids-own e = own-after guid-along lib 5 (begins s lib 5 (λ (c : GuidCursor). c.pos) (λ (c : GuidCursor). c.end) (own lib 5) e)

  pub imports-own : {c d : ImportCursor} → value c ≡ imports_of s lib → After import_step c j d → Own lib 1 d.pos d.end
  imports-own e = own-after import-along lib 1 (begins s lib 1 (λ (c : ImportCursor). c.pos) (λ (c : ImportCursor). c.end) (own lib 1) e)

  pub imp_files-own : {c d : ImpFileCursor} → value c ≡ imp_files_of s lib → After imp_file_step c j d → Own lib 2 d.pos d.end
  imp_files-own e = own-after imp_file-along lib 2 (begins s lib 2 (λ (c : ImpFileCursor). c.pos) (λ (c : ImpFileCursor). c.end) (own lib 2) e)

  pub names-own : {c d : NameCursor} → value c ≡ names_of s lib → After name_step c j d → Own lib 7 d.pos d.end
  names-own e = own-after name-along lib 7 (begins s lib 7 (λ (c : NameCursor). c.pos) (λ (c : NameCursor). c.end) (own lib 7) e)

module _ (s : List ℕ) (lib : TypeLib) (k pos end : ℕ) (few : length s ≤ limit) (o : Own lib k pos end) where
  abbrev offset : ℕ
  offset = pos - (table_of (segment_of lib k)).at

  -- the bytes at a cursor inside its table and the file are those at its offset of the table, as many as they are
  pub own-place : pos < end → pos ≤ length s → (size : ℕ) → fixed_at s pos end size ≡ table_place s lib k offset size
  own-place some inside size =
      lent_fits s (bind (segment_of lib k) (λ t. place_in s t offset size)) (fixed_at s pos end size) few
      (bind-value (λ t. place_in s t offset size) (segment_of lib k) table (fixed_at s pos end size)
      (table_is (segment_of lib k) table refl (omega (arith, o.behind, o.ends, some)))
      (ap (λ (x : ℕ). fixed_at s x end size) at ∙ ap (λ (x : ℕ). fixed_at s (table.at + offset) x size) o.ends
      ∙ cursor-place s table offset size (omega (arith, inside, few))))
    where
      table : Place
      table = table_of (segment_of lib k)

      at : pos ≡ table.at + offset
      at = omega (arith, o.behind)

-- ---- import files, by their fixed part and by the whole

-- AN IMPORT FILE THAT THE CURSOR YIELDS is the one that is read at its offset
pub cursor-import-file : (s : List ℕ) (lib : TypeLib) (pos end : ℕ) (p : Place) → length s ≤ limit → Own lib 2 pos end
    → value p ≡ imp_file_entry s pos end → value p ≡ imp_file_at s lib (pos - (table_of (segment_of lib 2)).at)
unfolding imp_file_entry
cursor-import-file s lib pos end p few o = by (fixed_at s pos end 14) refl
  where
    by : (a : Answer Place) → fixed_at s pos end 14 ≡ a → value p ≡ bind a (λ (_ : Place). fixed_at s pos end (imp_file_size (le 2 s (pos + 12))))
        → value p ≡ imp_file_at s lib (pos - (table_of (segment_of lib 2)).at)
    by (value q) e g =
        let x = fixed s pos end 14 q (lent_fits s (fixed_at s pos end 14) (value q) few (sym e)) in
        let placed = own-place s lib 2 pos end few o (omega (arith, x.within)) (omega (arith, x.inside)) in
        bind-value _ _ q _ (sym e ∙ placed 14)
        (g ∙ placed (imp_file_size (le 2 s (pos + 12)))
        ∙ ap (λ (at : ℕ). table_place s lib 2 (pos - (table_of (segment_of lib 2)).at) (imp_file_size (le 2 s (at + 12)))) (sym x.start))
    by (refused n) e g = let z : ◌≡◌ {A = ℕ} 0 1 = cc in absurd (omega arith)

-- ---- names, with their texts

map_same : (f g : Place → Place) (a : Answer Place) → ((p : Place) → value p ≡ a → f p ≡ g p) → map f a ≡ map g a
map_same f g (value p) h = ap value (h p refl)
map_same f g (refused n) h = refl

module _ (s : List ℕ) (lib : TypeLib) (c : NamesAt) (few : length s ≤ limit) (o : Own lib 7 c.pos c.end) where
  abbrev at_offset : ℕ
  at_offset = c.pos - (table_of (segment_of lib 7)).at

  bytes_same : c.pos + 12 ≤ length s → c.pos + 12 ≤ c.end → entry_text s c.pos c.end (le 1 s (c.pos + 8)) ≡ name_bytes s lib at_offset
  bytes_same inside within =
      bind-value _ _ (record { at = c.pos; len = 12 }) _
      (fixed-there s c.pos c.end 12 within inside ∙ placed 12)
      (map_same _ _ (fixed_at s c.pos c.end (12 + n)) (λ p e.
      ap (λ (x : ℕ). record { at = x + 12; len = n }) (sym (fixed s c.pos c.end (12 + n) p (lent_fits s _ _ few e)).start))
      ∙ ap (map (λ (p : Place). record { at = p.at + 12; len = n })) (placed (12 + n)))
    where
      n : ℕ
      n = le 1 s (c.pos + 8)

      placed : (size : ℕ) → fixed_at s c.pos c.end size ≡ table_place s lib 7 at_offset size
      placed = own-place s lib 7 c.pos c.end few o (omega (arith, within)) (omega (arith, inside))

  -- A NAME THAT THE CURSOR YIELDS is the one that is read at its offset
  pub cursor-name : (e : NameEntry) → value e ≡ name_entry s c → value e.text ≡ name_text s lib at_offset
  unfolding name_entry
  cursor-name e =
      cond-elim (λ (r : Answer NameEntry). value e ≡ r → value e.text ≡ name_text s lib at_offset) (ltb c.pos c.start) _ _
      (λ _ g. let z : ◌≡◌ {A = ℕ} 0 1 = cc in absurd (omega arith))
      (λ _. by (fixed_at s c.pos c.end 12) refl)
    where
      text : Answer Place
      text = text_of s (entry_text s c.pos c.end (le 1 s (c.pos + 8)))

      named : (a : Answer Place) → a ≡ name_text s lib at_offset → value e ≡ map (name_entry_from s c) a → value e.text ≡ name_text s lib at_offset
      named (value q) same g =
          let x : e ≡ name_entry_from s c q = cc in
          ap (λ (y : NameEntry). value y.text) x ∙ same
      named (refused n) same g = let z : ◌≡◌ {A = ℕ} 0 1 = cc in absurd (omega arith)

      by : (a : Answer Place) → fixed_at s c.pos c.end 12 ≡ a → value e ≡ bind a (λ (_ : Place). map (name_entry_from s c) text) → value e.text ≡ name_text s lib at_offset
      by (value p) f g =
          let x = fixed s c.pos c.end 12 p (lent_fits s _ _ few (sym f)) in
          named text (ap (text_of s) (bytes_same x.inside x.within)) g
      by (refused n) f g = let z : ◌≡◌ {A = ℕ} 0 1 = cc in absurd (omega arith)
