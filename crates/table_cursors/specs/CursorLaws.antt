-- Laws of `Cursors`, a case each. Assumes nothing.
use Rattle.std.proofs.Math.Path.{◌≡◌}
use Rattle.std.specs.Prelude.{refl, Bool, true, false, List, ℕ, ◌+◌, ◌≤◌, ◌<◌, ltb, length}
use Rattle.std.proofs.Common.{sym, ◌∙◌, ap, arith}
use borrow.Author.Tests.{lt-leb, le-ltb, le-leb, lt-ltb}
use Rattle.util.specs.Read.{le, cond-elim}
use Rattle.records.specs.declared.answer.Place.{Place}
use Rattle.records.specs.Answer.{Answer, value, refused, map, bind}
use Rattle.utf8.specs.Utf8.{utf8}
use Rattle.records.specs.Counted.{imp_file_size, text_of}
use Rattle.records.specs.Record.{limit, part_of}
use Rattle.typelib.specs.declared.TypeLib.{TypeLib}
use Rattle.typelib.specs.Header.{type_count}
use Rattle.records.specs.declared.name.NameEntry.{NameEntry}
use Rattle.table_cursors.specs.declared.iterators.TypeInfoCursor.{TypeInfoCursor}
use Rattle.typelib.specs.TableLaws.{lent_fits, in-table}
use Rattle.typelib.specs.Tables.{lent, in_table}
use Rattle.typelib.specs.TypeInfos.{typeinfo_of}
use Rattle.cursors.specs.Cursors.{fixed_at}
use Rattle.cursors.specs.Numbers.{beside, ended}
use Rattle.cursors.specs.CursorLaws.{fixed, fixed_out, lent-value, lent-bind, lent-refused}
use Rattle.table_cursors.specs.Cursors.{NamesAt, imp_file_entry, typeinfo_next_from, typeinfo_next, typeinfo_step, entry_text, name_entry_from, name_entry}
use Rattle.records.specs.AnswerLaws.{map-value}

-- ---- typeinfos

module _ (s : List ℕ) (lib : TypeLib) (c : TypeInfoCursor) where
  pub typeinfos-next : (a : Answer Place) → length s ≤ limit → c.index.0 < type_count lib → a ≡ typeinfo_of s lib c.index.0 → beside (λ d _. d) c.index.0 (typeinfo_next_from c a) ≡ typeinfo_step s lib c
  unfolding typeinfo_next
  typeinfos-next a h k e = rw (le-ltb limit (length s) h, lt-leb (type_count lib) c.index.0 k) (ap (λ (x : Answer Place). beside (λ d _. d) c.index.0 (typeinfo_next_from c x)) e)

-- ---- import files

pub entry_more : (s : List ℕ) (pos end : ℕ) (p : Place) → value p ≡ lent s (fixed_at s pos end 14) → lent s (fixed_at s pos end (imp_file_size (le 2 s (pos + 12)))) ≡ lent s (imp_file_entry s pos end)
unfolding imp_file_entry
entry_more s pos end p e = rw (← (lent-value s p (fixed_at s pos end 14) e).is)

-- an entry lies inside the bytes, and is longer than nothing
pub record Entry (s : List ℕ) (pos : ℕ) (p : Place) : Type 0 where
  pub few : length s ≤ limit
  pub inside : pos + p.len ≤ length s
  pub some : 0 < p.len

bind-inside : (s : List ℕ) (pos end size : ℕ) (p : Place) (first : Answer Place) → length s ≤ limit → 0 < size → value p ≡ bind first (λ _. fixed_at s pos end size) → Entry s pos p
bind-inside s pos end size p (value x) h k e =
    let f = fixed s pos end size p (lent_fits s (fixed_at s pos end size) (value p) h e) in
    record { few = h; inside = omega (arith, f.inside, f.whole); some = omega (arith, f.whole) }
bind-inside s pos end size p (refused n) h k e = let z : ◌≡◌ {A = ℕ} 0 1 = cc in absurd (omega arith)

pub entry-inside : (s : List ℕ) (pos end : ℕ) (p : Place) → value p ≡ lent s (imp_file_entry s pos end) → Entry s pos p
unfolding imp_file_entry
entry-inside s pos end p e =
    let v = lent-value s p (imp_file_entry s pos end) e in
    bind-inside s pos end (imp_file_size (le 2 s (pos + 12))) p (fixed_at s pos end 14) v.few (omega arith) v.is

-- ---- names

lent-inner : {A : Type 0} (s : List ℕ) (a r : Answer A) → length s ≤ limit → r ≡ lent s a → r ≡ a
lent-inner s a r h e = e ∙ sym (lent_fits s a a h refl)

module _ (s : List ℕ) (c : NamesAt) where
  fixed-gone : length s ≤ c.pos → refused 9 ≡ fixed_at s c.pos c.end 12
  fixed-gone h = by (in_table s (record { at = 0; len = c.end }) (c.pos + 12)) refl
    where
      by : (b : Bool) → in_table s (record { at = 0; len = c.end }) (c.pos + 12) ≡ b → refused 9 ≡ fixed_at s c.pos c.end 12
      by true e = absurd (omega (arith, h, (in-table s (record { at = 0; len = c.end }) (c.pos + 12) e).file))
      by false e = fixed_out s c.pos c.end 12 e

  pub name-past : length s ≤ c.pos → refused 9 ≡ name_entry s c
  unfolding name_entry
  name-past h =
      cond-elim (λ (r : Answer NameEntry). refused 9 ≡ r) (ltb c.pos c.start) (refused 9) _
      (λ _. refl)
      (λ _. rw (← fixed-gone h))

  pub name-some : (p : Place) (a : Answer NameEntry) → c.start ≤ c.pos → value p ≡ lent s (fixed_at s c.pos c.end 12) → a ≡ map (name_entry_from s c) (text_of s (entry_text s c.pos c.end (le 1 s (c.pos + 8)))) → a ≡ name_entry s c
  unfolding name_entry
  name-some p a h e f = rw (le-ltb c.pos c.start h, ← (lent-value s p (fixed_at s c.pos c.end 12) e).is) f

  -- its text, where the length of the bytes was looked at
  pub name-text : (n : ℕ) (a b : Answer Place) → length s ≤ limit → n ≡ le 1 s (c.pos + 8) → a ≡ lent s (entry_text s c.pos c.end n) → b ≡ text_of s a → b ≡ text_of s (entry_text s c.pos c.end (le 1 s (c.pos + 8)))
  name-text n a b h q e f = f ∙ ap (text_of s) (lent-inner s (entry_text s c.pos c.end n) a h e) ∙ ap (λ (m : ℕ). text_of s (entry_text s c.pos c.end m)) q

-- a text starts right behind the intro, and ends by the table's end and by the file's
pub record Behind (s : List ℕ) (pos end : ℕ) (q : Place) : Type 0 where
  pub start : q.at ≡ pos + 12
  pub inside : q.at + q.len ≤ length s
  pub within : q.at + q.len ≤ end

entry-text : (s : List ℕ) (pos end n : ℕ) (q : Place) → length s ≤ limit → value q ≡ entry_text s pos end n → Behind s pos end q
entry-text s pos end n q h = by (fixed_at s pos end (12 + n)) refl
  where
    by : (a : Answer Place) → fixed_at s pos end (12 + n) ≡ a → value q ≡ map (λ (_ : Place). record { at = pos + 12; len = n }) a → Behind s pos end q
    by (value p) e f =
        let x = fixed s pos end (12 + n) p (lent_fits s (fixed_at s pos end (12 + n)) (value p) h (sym e)) in
        let g : q ≡ record { at = pos + 12; len = n } = cc in
        let u : q.at ≡ pos + 12 = ap (λ (x : Place). x.at) g in
        let v : q.len ≡ n = ap (λ (x : Place). x.len) g in
        record { start = u; inside = omega (arith, x.inside); within = omega (arith, x.within) }
    by (refused m) e f = let z : ◌≡◌ {A = ℕ} 0 1 = cc in absurd (omega arith)

-- what holds of a place holds of the text there, and of the text of a name's entry
module _ (s : List ℕ) (P : Place → Type 0) where
  text-place : (a : Answer Place) → ((q : Place) → value q ≡ a → P q) → (p : Place) → value p ≡ text_of s a → P p
  unfolding text_of
  text-place (value q) h p =
      cond-elim (λ (r : Answer Place). value p ≡ r → P p) (utf8 (part_of s (value q))) (value q) (refused 9)
      (λ _ e. h p e)
      (λ _ e. let z : ◌≡◌ {A = ℕ} 0 1 = cc in absurd (omega arith))
  text-place (refused n) h p = λ e. let z : ◌≡◌ {A = ℕ} 0 1 = cc in absurd (omega arith)

  module _ (c : NamesAt) (e : NameEntry) where
    abbrev text : Answer Place
    text = entry_text s c.pos c.end (le 1 s (c.pos + 8))

    map-place : (a : Answer Place) → ((q : Place) → value q ≡ a → P q) → value e ≡ map (name_entry_from s c) a → P e.text
    map-place (value q) h f =
        let g : e ≡ name_entry_from s c q = cc in
        let t : e.text ≡ q = ap (λ (x : NameEntry). x.text) g in
        rw t (h q refl)
    map-place (refused n) h f = let z : ◌≡◌ {A = ℕ} 0 1 = cc in absurd (omega arith)

    bind-place : ((q : Place) → value q ≡ text → P q) → (a : Answer Place) → value e ≡ bind a (λ _. map (name_entry_from s c) (text_of s text)) → P e.text
    bind-place holds (value q) f = map-place (text_of s text) (text-place text holds) f
    bind-place holds (refused n) f = let z : ◌≡◌ {A = ℕ} 0 1 = cc in absurd (omega arith)

    name-place : ((q : Place) → length s ≤ limit → value q ≡ text → P q) → value e ≡ lent s (name_entry s c) → P e.text
    unfolding name_entry
    name-place holds f =
        let v = lent-value s e (name_entry s c) f in
        cond-elim (λ (r : Answer NameEntry). value e ≡ r → P e.text) (ltb c.pos c.start) (refused 9)
        (bind (fixed_at s c.pos c.end 12) (λ _. map (name_entry_from s c) (text_of s text)))
        (λ _ g. let z : ◌≡◌ {A = ℕ} 0 1 = cc in absurd (omega arith))
        (λ _ g. bind-place (λ q. holds q v.few) (fixed_at s c.pos c.end 12) g)
        v.is

pub name-behind : (s : List ℕ) (c : NamesAt) (e : NameEntry) → value e ≡ lent s (name_entry s c) → Behind s c.pos c.end e.text
name-behind s c e =
    name-place s (Behind s c.pos c.end) c e (entry-text s c.pos c.end (le 1 s (c.pos + 8)))

-- ---- the same by cases

module _ (s : List ℕ) (lib : TypeLib) (c : TypeInfoCursor) where
  pub typeinfos-long : limit < length s → ended 1 c ≡ typeinfo_step s lib c
  unfolding typeinfo_next
  typeinfos-long h = rw (lt-ltb limit (length s) h)

  pub typeinfos-end : length s ≤ limit → type_count lib ≤ c.index.0 → ended 9 c ≡ typeinfo_step s lib c
  unfolding typeinfo_next
  typeinfos-end h k = rw (le-ltb limit (length s) h, le-leb (type_count lib) c.index.0 k)

pub entry-none : (s : List ℕ) (pos end n : ℕ) → refused n ≡ lent s (fixed_at s pos end 14) → refused n ≡ lent s (imp_file_entry s pos end)
unfolding imp_file_entry
entry-none s pos end n e = lent-bind s (fixed_at s pos end 14) (λ _. fixed_at s pos end (imp_file_size (le 2 s (pos + 12)))) n e

module _ (s : List ℕ) (pos end n : ℕ) where
  pub behind-value : (p : Place) → value p ≡ lent s (fixed_at s pos end (12 + n)) → value (record { at = pos + 12; len = n }) ≡ lent s (entry_text s pos end n)
  behind-value p e =
      let v = lent-value s p (fixed_at s pos end (12 + n)) e in
      lent_fits s (entry_text s pos end n) _ v.few (map-value _ (fixed_at s pos end (12 + n)) p _ v.is refl)

  pub behind-refused : (m : ℕ) → refused m ≡ lent s (fixed_at s pos end (12 + n)) → refused m ≡ lent s (entry_text s pos end n)
  behind-refused m e = lent-refused s (fixed_at s pos end (12 + n)) (map (λ (_ : Place). record { at = pos + 12; len = n })) m refl e

module _ (s : List ℕ) (c : NamesAt) where
  pub name-before : c.pos < c.start → refused 9 ≡ name_entry s c
  unfolding name_entry
  name-before h = rw (lt-ltb c.pos c.start h)

  pub name-none : (n : ℕ) → length s ≤ limit → c.start ≤ c.pos → refused n ≡ lent s (fixed_at s c.pos c.end 12) → refused n ≡ name_entry s c
  unfolding name_entry
  name-none n l h e =
      rw (le-ltb c.pos c.start h, ← lent-inner s (fixed_at s c.pos c.end 12) (refused n) l e)
