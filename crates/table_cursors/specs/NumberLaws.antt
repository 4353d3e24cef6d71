-- The numbers of records of tables (document 02, §10): that of a record is how many came before it, and that of a typeinfo its index.
-- Assumes nothing.
use Rattle.std.proofs.Math.Path.{◌≡◌, refl, ap}
use Rattle.std.proofs.Common.{sym, ◌∙◌, arith}
use Rattle.std.specs.Prelude.{List, leb, ltb, length}
use Prim.Native.Nat.{ℕ, zero, suc, ◌+◌, ◌≤◌, ◌<◌}
use Rattle.util.specs.Read.{cond-elim}
use Rattle.records.specs.declared.answer.Place.{Place}
use Rattle.records.specs.declared.name.NameEntry.{NameEntry}
use Rattle.records.specs.Answer.{Answer, value, refused, bind}
use Rattle.records.specs.Layout.{size_of, guid_entry, imp_info}
use Rattle.records.specs.Record.{limit}
use Rattle.typelib.specs.declared.TypeLib.{TypeLib}
use Rattle.typelib.specs.Header.{type_count}
use Rattle.typelib.specs.Tables.{lent, negative, segment_of, place_in}
use Rattle.typelib.specs.TypeInfos.{refusing, offset_word, typeinfo_in, typeinfo_of}
use Rattle.cursors.specs.Cursors.{fixed_at}
use Rattle.cursors.specs.CursorLaws.{fixed, lent-value}
use Rattle.cursors.specs.Numbers.{largest, number_of, Next, item, stop, Step, yielded, ended, beside, Counting, with_number}
use Rattle.cursors.specs.NumberLaws.{number-few, without, as_before, again, by-stops, by-item, step-yields, step-ends, After, counts, Forward, Numbered, number-by-place}
use Rattle.table_cursors.specs.declared.iterators.GuidCursor.{GuidCursor}
use Rattle.table_cursors.specs.declared.iterators.ImportCursor.{ImportCursor}
use Rattle.table_cursors.specs.declared.iterators.ImpFileCursor.{ImpFileCursor}
use Rattle.table_cursors.specs.declared.iterators.NameCursor.{NameCursor}
use Rattle.table_cursors.specs.declared.iterators.TypeInfoCursor.{TypeInfoCursor}
use Rattle.table_cursors.specs.Cursors.{TableAt, NamesAt, over_guids, over_imports, over_imp_files, over_names, fixed_next, guid_step, guids_of, import_step, imports_of}
use Rattle.table_cursors.specs.Cursors.{imp_file_entry, imp_file_next, imp_file_step, imp_files_of, name_entry, name_next, name_step, names_of, typeinfos_from, typeinfo_next_from, typeinfo_next, typeinfo_step}
use Rattle.table_cursors.specs.CursorLaws.{typeinfos-next, entry-inside, name-behind}

-- ---- steps go forward, and keep the end

pub record Along {S R C : Type 0} (pos end : C → ℕ) (step : S → C → Step R C) : Type 0 where
  pub forward : Forward pos step
  pub ends : {s : S} {c d : C} {r : R} {n : ℕ} → yielded r n d ≡ step s c → end d ≡ end c
  pub kept : {s : S} {c d : C} {m : ℕ} → ended m d ≡ step s c → end d ≡ end c

-- a record found lies inside the bytes, and the next one behind it, in the same table
record Ahead {D : Type 0} (pos end : D → ℕ) (d e : D) : Type 0 where
  inside : pos d ≤ limit
  before : pos d < pos e
  same : end e ≡ end d

along : {R C D : Type 0} (k : Counting C D) (pos end : D → ℕ) (next : List ℕ → D → Next R D)
    → ((s : List ℕ) (d e : D) (r : R) → item r e ≡ next s d → Ahead pos end d e)
    → ((s : List ℕ) (d : D) (n : ℕ) (e : D) → stop n e ≡ next s d → e ≡ d)
    → Along (λ (c : C). pos (k.stands c)) (λ (c : C). end (k.stands c)) (λ s. with_number k (next s))
along k pos end next ahead stays =
    record {
      forward = record {
        ahead = λ {s} {c} {d} {r} {n} e. (ahead s (k.stands c) (k.stands d) r (step-yields k (next s) c d r n e).found).before;
        inside = λ {s} {c} {d} {r} {n} e. (ahead s (k.stands c) (k.stands d) r (step-yields k (next s) c d r n e).found).inside;
        keeps = λ {s} {c} {d} {m} e. ap pos (stays s (k.stands c) m (k.stands d) (step-ends k (next s) c d m e).none);
      };
      ends = λ {s} {c} {d} {r} {n} e. (ahead s (k.stands c) (k.stands d) r (step-yields k (next s) c d r n e).found).same;
      kept = λ {s} {c} {d} {m} e. ap end (stays s (k.stands c) m (k.stands d) (step-ends k (next s) c d m e).none);
    }

abbrev at : TableAt → ℕ
at d = d.pos

abbrev until : TableAt → ℕ
until d = d.end

abbrev name-at : NamesAt → ℕ
name-at d = d.pos

abbrev name-until : NamesAt → ℕ
name-until d = d.end

module _ (s : List ℕ) where
  fixed-ahead : (size : ℕ) → 0 < size → (d e : TableAt) (p : Place) → item p e ≡ fixed_next size s d → Ahead at until d e
  fixed-ahead size some d e p =
      by-item (λ _ x. Ahead at until d x) d _ _ (lent s (fixed_at s d.pos d.end size)) (λ q h.
      let f = fixed s d.pos d.end size q h in
      let v = lent-value s q _ h in
      record { inside = omega (arith, f.inside, v.few); before = omega (arith, some); same = refl }) p e

  fixed-stays : (size : ℕ) (d : TableAt) (n : ℕ) (e : TableAt) → stop n e ≡ fixed_next size s d → e ≡ d
  fixed-stays size d = by-stops d _ _ (lent s (fixed_at s d.pos d.end size))

  imp_file-ahead : (d e : TableAt) (p : Place) → item p e ≡ imp_file_next s d → Ahead at until d e
  imp_file-ahead d e p =
      by-item (λ _ x. Ahead at until d x) d _ _ (lent s (imp_file_entry s d.pos d.end)) (λ q h.
      let f = entry-inside s d.pos d.end q h in
      record { inside = omega (arith, f.inside, f.few); before = omega (arith, f.some); same = refl }) p e

  imp_file-stays : (d : TableAt) (n : ℕ) (e : TableAt) → stop n e ≡ imp_file_next s d → e ≡ d
  imp_file-stays d = by-stops d _ _ (lent s (imp_file_entry s d.pos d.end))

  name-ahead : (d e : NamesAt) (x : NameEntry) → item x e ≡ name_next s d → Ahead name-at name-until d e
  name-ahead d e x =
      by-item (λ _ y. Ahead name-at name-until d y) d _ _ (lent s (name_entry s d)) (λ y h.
      let b = name-behind s d y h in
      let v = lent-value s y _ h in
      record { inside = omega (arith, b.start, b.inside, v.few); before = omega (arith, b.start); same = refl }) x e

  name-stays : (d : NamesAt) (n : ℕ) (e : NamesAt) → stop n e ≡ name_next s d → e ≡ d
  name-stays d = by-stops d _ _ (lent s (name_entry s d))

pub guid-along : Along (λ (c : GuidCursor). c.pos) (λ (c : GuidCursor). c.end) guid_step
guid-along =
    along over_guids at until (fixed_next (size_of guid_entry)) (λ s. fixed-ahead s (size_of guid_entry) (omega arith)) (λ s. fixed-stays s (size_of guid_entry))

pub import-along : Along (λ (c : ImportCursor). c.pos) (λ (c : ImportCursor). c.end) import_step
import-along =
    along over_imports at until (fixed_next (size_of imp_info)) (λ s. fixed-ahead s (size_of imp_info) (omega arith)) (λ s. fixed-stays s (size_of imp_info))

pub imp_file-along : Along (λ (c : ImpFileCursor). c.pos) (λ (c : ImpFileCursor). c.end) imp_file_step
imp_file-along = along over_imp_files at until imp_file_next imp_file-ahead imp_file-stays

pub name-along : Along (λ (c : NameCursor). c.pos) (λ (c : NameCursor). c.end) name_step
name-along = along over_names name-at name-until name_next name-ahead name-stays

-- ---- THE RECORD BEHIND j RECORDS of a table has number j, whatever bytes the library's cursor is stepped over

begun : {C : Type 0} (s : List ℕ) (count : C → ℕ) {b c : C} → count b ≡ 0 → value c ≡ lent s (value b) → count c ≡ 0
begun s count {b} {c} z e =
    let q : c ≡ b = let v = lent-value s c (value b) e in let w = v.is in cc in
    ap count q ∙ z

module _ (s : List ℕ) (lib : TypeLib) {j : ℕ} where
  pub guids-number : {c d : GuidCursor} → value c ≡ guids_of s lib → After guid_step c j d → Numbered (λ (x : GuidCursor). x.yielded) guid_step j d
  guids-number e = number-by-place (counts over_guids (fixed_next (size_of guid_entry))) guid-along.forward (begun s (λ (c : GuidCursor). c.yielded) refl e)

  pub imports-number : {c d : ImportCursor} → value c ≡ imports_of s lib → After import_step c j d → Numbered (λ (x : ImportCursor). x.yielded) import_step j d
  imports-number e = number-by-place (counts over_imports (fixed_next (size_of imp_info))) import-along.forward (begun s (λ (c : ImportCursor). c.yielded) refl e)

  pub imp_files-number : {c d : ImpFileCursor} → value c ≡ imp_files_of s lib → After imp_file_step c j d → Numbered (λ (x : ImpFileCursor). x.yielded) imp_file_step j d
  imp_files-number e = number-by-place (counts over_imp_files imp_file_next) imp_file-along.forward (begun s (λ (c : ImpFileCursor). c.yielded) refl e)

  pub names-number : {c d : NameCursor} → value c ≡ names_of s lib → After name_step c j d → Numbered (λ (x : NameCursor). x.yielded) name_step j d
  names-number e = number-by-place (counts over_names name_next) name-along.forward (begun s (λ (c : NameCursor). c.yielded) refl e)

module _ (s : List ℕ) where
  -- ---- the steps without their numbers are those of before

  pub guid-as-before : (c : GuidCursor) → without over_guids.stands (guid_step s c) ≡ fixed_next (size_of guid_entry) s (over_guids.stands c)
  guid-as-before = as_before over_guids (fixed_next (size_of guid_entry) s)

  pub import-as-before : (c : ImportCursor) → without over_imports.stands (import_step s c) ≡ fixed_next (size_of imp_info) s (over_imports.stands c)
  import-as-before = as_before over_imports (fixed_next (size_of imp_info) s)

  pub imp_file-as-before : (c : ImpFileCursor) → without over_imp_files.stands (imp_file_step s c) ≡ imp_file_next s (over_imp_files.stands c)
  imp_file-as-before = as_before over_imp_files (imp_file_next s)

  pub name-as-before : (c : NameCursor) → without over_names.stands (name_step s c) ≡ name_next s (over_names.stands c)
  name-as-before = as_before over_names (name_next s)

  -- ---- a cursor at its end

  pub guid-again : (c d : GuidCursor) (m : ℕ) → ended m d ≡ guid_step s c → (d ≡ c) × (ended m d ≡ guid_step s d)
  guid-again c d m = again over_guids (fixed_next (size_of guid_entry) s) c d m (fixed-stays s (size_of guid_entry) (over_guids.stands c))

  pub import-again : (c d : ImportCursor) (m : ℕ) → ended m d ≡ import_step s c → (d ≡ c) × (ended m d ≡ import_step s d)
  import-again c d m = again over_imports (fixed_next (size_of imp_info) s) c d m (fixed-stays s (size_of imp_info) (over_imports.stands c))

  pub imp_file-again : (c d : ImpFileCursor) (m : ℕ) → ended m d ≡ imp_file_step s c → (d ≡ c) × (ended m d ≡ imp_file_step s d)
  imp_file-again c d m = again over_imp_files (imp_file_next s) c d m (imp_file-stays s (over_imp_files.stands c))

  pub name-again : (c d : NameCursor) (m : ℕ) → ended m d ≡ name_step s c → (d ≡ c) × (ended m d ≡ name_step s d)
  name-again c d m = again over_names (name_next s) c d m (name-stays s (over_names.stands c))

-- ---- typeinfos

module _ (s : List ℕ) (lib : TypeLib) where
  pub typeinfo-as-before : (c : TypeInfoCursor) → without (λ d. d) (typeinfo_step s lib c) ≡ typeinfo_next s lib c
  typeinfo-as-before c = by (typeinfo_next s lib c)
    where
      by : (t : Next Place TypeInfoCursor) → without (λ d. d) (beside (λ d _. d) c.index.0 t) ≡ t
      by (item p d) = refl
      by (stop n d) = refl

  -- an entry is refused with 6, 7 or 8, and never with 9, which is the end
  refusing-never : {A : Type 0} (n : ℕ) → (n ≡ 9 → ⊥) → (a : Answer A) (f : A → Answer Place) → ((x : A) → refused 9 ≡ f x → ⊥) → refused 9 ≡ bind (refusing n a) f → ⊥
  refusing-never n k (value x) f h e = h x e
  refusing-never n k (refused m) f h e = let q : 9 ≡ n = cc in k (sym q)

  never-place : (n : ℕ) → (n ≡ 9 → ⊥) → (a : Answer Place) → refused 9 ≡ refusing n a → ⊥
  never-place n k (value x) e = let z : ◌≡◌ {A = ℕ} 0 1 = cc in omega arith
  never-place n k (refused m) e = let q : 9 ≡ n = cc in k (sym q)

  pub never-nine : (k : ℕ) → refused 9 ≡ typeinfo_of s lib k → ⊥
  unfolding lent typeinfo_in
  never-nine k =
      let P : Answer Place → Type 0 = λ a. refused 9 ≡ a → ⊥ in
      let no : (n : ℕ) → (n ≡ 9 → ⊥) → P (refused n) = λ n h e. let q : 9 ≡ n = cc in h (sym q) in
      cond-elim P (ltb limit (length s)) _ _ (λ _. no 1 (λ q. omega (arith, q))) (λ _.
      refusing-never 6 (λ q. omega (arith, q)) (offset_word s lib k) _ (λ offset.
      cond-elim P (negative offset) _ _ (λ _. no 6 (λ q. omega (arith, q))) (λ _.
      refusing-never 7 (λ q. omega (arith, q)) (segment_of lib 0) _ (λ table.
      never-place 8 (λ q. omega (arith, q)) (place_in s table offset 100)))))

  -- THE NUMBER IS THE INDEX
  pub typeinfo-number : (c d : TypeInfoCursor) (p : Place) (n : ℕ) → yielded p n d ≡ typeinfo_step s lib c → n ≡ c.index.0
  typeinfo-number c d p n = by (typeinfo_next s lib c)
    where
      by : (t : Next Place TypeInfoCursor) → yielded p n d ≡ beside (λ d _. d) c.index.0 t → n ≡ c.index.0
      by (item q e) h = cc
      by (stop m e) h = let z : ◌≡◌ {A = ℕ} 0 1 = cc in absurd (omega arith)

  -- the cursor behind a step, whatever the step said
  abbrev pub cursor_behind : Step Place TypeInfoCursor → TypeInfoCursor
  cursor_behind (yielded p n d) = d
  cursor_behind (ended m d) = d

  -- A REFUSED ENTRY IS COUNTED: a step takes the index to the next one, while there are typeinfos
  pub typeinfo-counts : (k : ℕ) → length s ≤ limit → k < type_count lib → cursor_behind (typeinfo_step s lib (typeinfos_from k)) ≡ typeinfos_from (k + 1)
  typeinfo-counts k h l = ap cursor_behind (sym (typeinfos-next s lib (typeinfos_from k) _ h l refl)) ∙ by (typeinfo_of s lib k)
    where
      by : (a : Answer Place) → cursor_behind (beside (λ d _. d) k (typeinfo_next_from (typeinfos_from k) a)) ≡ typeinfos_from (k + 1)
      by (value p) = refl
      by (refused n) = refl

  -- which is the number behind k, as of the other cursors: a library has fewer typeinfos than there are numbers
  pub typeinfo-behind : (k : ℕ) → k < type_count lib → type_count lib ≤ largest → typeinfos_from (k + 1) ≡ typeinfos_from (number_of (k + 1))
  typeinfo-behind k h l = ap typeinfos_from (sym (number-few (k + 1) (omega (arith, h, l))))

  -- the cursor after k steps
  unfoldable pub after_steps : ℕ → TypeInfoCursor
  after_steps zero = typeinfos_from 0
  after_steps (suc k) = cursor_behind (typeinfo_step s lib (after_steps k))

  -- so that after k steps from the first, refused entries among them, the index is k
  pub typeinfos-number : (k : ℕ) → length s ≤ limit → k ≤ type_count lib → after_steps k ≡ typeinfos_from k
  unfolding after_steps
  typeinfos-number zero h l = refl
  typeinfos-number (suc k) h l =
      ap (λ (c : TypeInfoCursor). cursor_behind (typeinfo_step s lib c)) (typeinfos-number k h (omega arith))
      ∙ typeinfo-counts k h (omega arith) ∙ ap typeinfos_from (omega arith)

  -- A CURSOR THAT REPLIES 9 comes back unchanged, and replies 9 again: no entry is refused with 9
  pub typeinfo-again : (c d : TypeInfoCursor) → ended 9 d ≡ typeinfo_step s lib c → (d ≡ c) × (ended 9 d ≡ typeinfo_step s lib d)
  unfolding typeinfo_next
  typeinfo-again c d h = let same = stays h in (same, h ∙ ap (typeinfo_step s lib) (sym same))
    where
      from : (a : Answer Place) → (refused 9 ≡ a → ⊥) → ended 9 d ≡ beside (λ d _. d) c.index.0 (typeinfo_next_from c a) → d ≡ c
      from (value p) n e = let z : ◌≡◌ {A = ℕ} 0 1 = cc in absurd (omega arith)
      from (refused m) n e = let q : 9 ≡ m = cc in absurd (n (ap refused q))

      stays : ended 9 d ≡ typeinfo_step s lib c → d ≡ c
      stays =
          let P : Next Place TypeInfoCursor → Type 0 = λ t. ended 9 d ≡ beside (λ d _. d) c.index.0 t → d ≡ c in
          cond-elim P (ltb limit (length s)) _ _ (λ _ e. let q : ◌≡◌ {A = ℕ} 9 1 = cc in absurd (omega (arith, q))) (λ _.
          cond-elim P (leb (type_count lib) c.index.0) _ _ (λ _ e. cc) (λ _. from (typeinfo_of s lib c.index.0) (never-nine c.index.0)))
