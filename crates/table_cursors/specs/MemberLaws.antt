-- Laws of `Members`. Assumes nothing.
use Rattle.std.specs.Prelude.{◌≡◌, refl, List, length}
use Rattle.std.proofs.Math.Path.{sym, ap}
use Rattle.std.proofs.Common.{◌∙◌, eq-eqb, ne_eqb, of_z}
use Prim.Native.Nat.{ℕ, zero, suc, ◌+◌, ◌-◌, ◌≤◌, ◌<◌}
use native.Mathlib.Omega.{arith}
use Rattle.std.specs.Int.{w32}
use Rattle.records.specs.declared.name.NameEntry.{NameEntry}
use Rattle.records.specs.declared.answer.Place.{Place}
use Rattle.records.specs.Answer.{Answer, value, refused}
use Rattle.table_cursors.specs.declared.iterators.NameCursor.{NameCursor}
use Rattle.cursors.specs.Numbers.{yielded, ended}
use Rattle.cursors.specs.NumberLaws.{step-none}
use Rattle.table_cursors.specs.Cursors.{over_names, name_entry, name_next_from, name_next, name_step}
use Rattle.table_cursors.specs.CursorLaws.{name-past}
use Rattle.table_cursors.specs.NumberLaws.{name-along}
use Rattle.typelib.specs.TableLaws.{lent_fits}
use Rattle.records.specs.Record.{limit}
use Rattle.table_cursors.specs.Members.{NameYield, match_or, matching, behind}

-- ---- a turn of the search

module _ (n : ℕ) (s : List ℕ) (href : ℕ) (c : NameCursor) (some : 0 < n) where
  turn : (y : NameYield) → y ≡ name_step s c → match_or (matching (n - 1) s href) href y ≡ matching n s href c
  unfolding matching
  turn y e =
      let q : suc (n - 1) ≡ n = omega arith in
      let f : match_or (matching (n - 1) s href) href y ≡ matching (suc (n - 1)) s href c =
      ap (match_or (matching (n - 1) s href) href) e in
      f ∙ ap (λ (m : ℕ). matching m s href c) q

  pub match-over : (m : ℕ) (d : NameCursor) → ended m d ≡ name_step s c → ended m d ≡ matching n s href c
  match-over m d e = turn (ended m d) e

  pub match-here : (e : NameEntry) (k : ℕ) (d : NameCursor) → yielded e k d ≡ name_step s c → of_z w32 e.hreftype ≡ href → yielded e k d ≡ matching n s href c
  match-here e k d y h = sym (rw (eq-eqb (of_z w32 e.hreftype) href h)) ∙ turn (yielded e k d) y

  pub match-on : (e : NameEntry) (k : ℕ) (d : NameCursor) → yielded e k d ≡ name_step s c → (of_z w32 e.hreftype ≡ href → ⊥) → matching (n - 1) s href d ≡ matching n s href c
  match-on e k d y h = sym (rw (ne_eqb (of_z w32 e.hreftype) href h)) ∙ turn (yielded e k d) y

pub match_none : (s : List ℕ) (href : ℕ) (c : NameCursor) → ended 9 c ≡ matching 0 s href c
unfolding matching
match_none s href c = refl

-- ---- as many entries as the file has bytes are all of them

module _ (s : List ℕ) (href : ℕ) (fits : length s ≤ limit) where
  onward : (n m : ℕ) (pos : ℕ) → ((d : NameCursor) → pos < d.pos → matching n s href d ≡ matching m s href d) → (y : NameYield) → ((e : NameEntry) (k : ℕ) (d : NameCursor) → yielded e k d ≡ y → pos < d.pos) → match_or (matching n s href) href y ≡ match_or (matching m s href) href y
  onward n m pos same (yielded e k d) h = rw (same d (h e k d refl)) refl
  onward n m pos same (ended k d) h = refl

  one_more : (n : ℕ) (c : NameCursor) → length s ≤ n + c.pos → matching (suc n) s href c ≡ matching n s href c
  unfolding matching
  one_more zero c h =
      sym (ap (match_or (matching 0 s href) href) (step-none over_names (name_next s) c 9
      (ap (name_next_from (over_names.stands c)) (lent_fits s (name_entry s (over_names.stands c)) (refused 9) fits (name-past s (over_names.stands c) (omega (arith, h)))))))
  one_more (suc n) c h =
      onward (suc n) n c.pos (λ d k. one_more n d (omega (arith, h, k))) (name_step s c) (λ e k d. name-along.forward.ahead)

  pub enough : (k : ℕ) (c : NameCursor) → matching (length s + k) s href c ≡ matching (length s) s href c
  enough zero c = ap (λ (m : ℕ). matching m s href c) (omega arith)
  enough (suc k) c =
      let q : length s + suc k ≡ suc (length s + k) = omega arith in
      ap (λ (m : ℕ). matching m s href c) q ∙ one_more (length s + k) c (omega arith) ∙ enough k c

-- ---- the k-th

pub behind-here : (s : List ℕ) (href : ℕ) (e : NameEntry) (m : ℕ) (c : NameCursor) (y : NameYield) → yielded e m c ≡ y → value e.text ≡ behind 0 s href y
unfolding behind
behind-here s href e m c y h = ap (behind 0 s href) h

pub behind-next : (k : ℕ) (s : List ℕ) (href : ℕ) (e : NameEntry) (m : ℕ) (c : NameCursor) (y : NameYield) → 0 < k → yielded e m c ≡ y → behind (k - 1) s href (matching (length s) s href c) ≡ behind k s href y
unfolding behind
behind-next k s href e m c y p h =
    let q : suc (k - 1) ≡ k = omega arith in
    let f : behind (k - 1) s href (matching (length s) s href c) ≡ behind (suc (k - 1)) s href y = ap (behind (suc (k - 1)) s href) h in
    f ∙ ap (λ (m : ℕ). behind m s href y) q

pub behind-first : (k : ℕ) (s : List ℕ) (href : ℕ) (e : NameEntry) (m : ℕ) (c : NameCursor) (y : NameYield) (r : Answer Place) → yielded e m c ≡ y → r ≡ behind k s href (matching (length s) s href c) → r ≡ behind (suc k) s href y
unfolding behind
behind-first k s href e m c y r h f = f ∙ ap (behind (suc k) s href) h

behind-cases : (k : ℕ) (s : List ℕ) (href n : ℕ) (c : NameCursor) → refused n ≡ behind k s href (ended n c)
unfolding behind
behind-cases zero s href n c = refl
behind-cases (suc k) s href n c = refl

pub behind-over : (k : ℕ) (s : List ℕ) (href n : ℕ) (c : NameCursor) (y : NameYield) → ended n c ≡ y → refused n ≡ behind k s href y
behind-over k s href n c y h = behind-cases k s href n c ∙ ap (behind k s href) h
