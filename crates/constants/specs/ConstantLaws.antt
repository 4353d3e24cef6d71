-- Laws of `Constants`. Assumes nothing.
use Rattle.std.specs.Prelude.{◌≡◌, refl, false, List, [], ◌∷◌, ℕ, ◌+◌, ◌≤◌, T, eqb, ltb, length, ◌<◌}
use Rattle.std.proofs.Common.{sym, ◌∙◌, arith, ltb→lt, ap}
use borrow.Author.Tests.{eq-eqb, ne_eqb, eqb-true, le-leb, lt-leb}
use Rattle.util.specs.Read.{le, read, or_zero, cond-elim, read-zero}
use Rattle.records.specs.declared.types.ConstValue.{ConstValue}
use Rattle.records.specs.Answer.{Answer, value, refused, map}
use Rattle.typelib.specs.declared.TypeLib.{TypeLib}
use Rattle.constants.specs.Constants.{among, stored_width, text_behind, value_at, constant_of, inline_of, stored_at, const_at}
use Rattle.records.specs.declared.types.ConstValue.TheVariants as const
use Rattle.records.specs.AnswerLaws.{when_true, when_false}
use Rattle.records.specs.Record.{limit}
use Rattle.typelib.specs.Tables.{table_place}
use Rattle.typelib.specs.TableLaws.{lent_fits}

-- a code above the table's has four bytes
pub width-beyond : (vt : ℕ) → 65 ≤ vt → stored_width vt ≡ 4
unfolding stored_width
width-beyond vt h =
    let no : (k : ℕ) → T (ltb k 65) → eqb vt k ≡ false = λ k l. ne_eqb vt k (λ e. omega (arith, ltb→lt k 65 l)) in
    rw (no 0 tt, no 1 tt, no 24 tt, no 11 tt, no 5 tt, no 6 tt, no 7 tt, no 20 tt, no 21 tt, no 64 tt, no 14 tt)

-- the width of every other value than a decimal is 0, 2, 4 or 8
pub width-number : (vt : ℕ) → (vt ≡ 14 → ⊥) → (stored_width vt ≡ 2 → ⊥) → (stored_width vt ≡ 4 → ⊥) → (stored_width vt ≡ 8 → ⊥) → 0 ≡ stored_width vt
unfolding stored_width
width-number vt d =
    let P : ℕ → Type 0 = λ w. (w ≡ 2 → ⊥) → (w ≡ 4 → ⊥) → (w ≡ 8 → ⊥) → 0 ≡ w in
    cond-elim P (among vt (0 ∷ 1 ∷ 24 ∷ [])) _ _ (λ _ a b e. refl) (λ _.
    cond-elim P (eqb vt 11) _ _ (λ _ a b e. absurd (a refl)) (λ _.
    cond-elim P (among vt (5 ∷ 6 ∷ 7 ∷ 20 ∷ 21 ∷ 64 ∷ [])) _ _ (λ _ a b e. absurd (e refl)) (λ _.
    cond-elim P (eqb vt 14) _ _ (λ h. absurd (d (eqb-true vt 14 h))) (λ _ a b e. absurd (b refl)))))

-- a number that was read with the width of its code
pub number_is : (w k vt : ℕ) (s : List ℕ) (at r : ℕ) → k ≡ w → k ≡ stored_width vt → at + stored_width vt ≤ length s → r ≡ or_zero (read w s at) → r ≡ le (stored_width vt) s at
number_is w k vt s at r h e i o =
    let x : stored_width vt ≡ w = sym e ∙ h in
    rw x (read-zero w s at r (rw x at i) o)

-- a text's value
module _ (s : List ℕ) (lib : TypeLib) (offset vt at : ℕ) where
  pub value-text : (a : Answer ConstValue) → vt ≡ 8 → a ≡ text_behind s lib offset (le 4 s at) → a ≡ value_at s lib offset vt at
  unfolding value_at
  value-text a h e = rw (eq-eqb vt 8 h) e

-- ---- the same by cases

module _ (s : List ℕ) (lib : TypeLib) (offset n : ℕ) where
  pub text-null : n ≡ 0xffffffff → value const.NullBstr ≡ text_behind s lib offset n
  unfolding text_behind
  text-null h = rw (eq-eqb n 0xffffffff h)

  pub text-negative : (n ≡ 0xffffffff → ⊥) → 0x80000000 ≤ n → refused 9 ≡ text_behind s lib offset n
  unfolding text_behind
  text-negative h k = rw (ne_eqb n 0xffffffff h, le-leb 0x80000000 n k)

  pub text-there : (a : Answer ConstValue) → (n ≡ 0xffffffff → ⊥) → n < 0x80000000 → a ≡ map (λ p. const.Bstr (record { at = p.at + 6; len = n })) (table_place s lib 11 offset (6 + n)) → a ≡ text_behind s lib offset n
  unfolding text_behind
  text-there a h k e = rw (ne_eqb n 0xffffffff h, lt-leb 0x80000000 n k) e

module _ (s : List ℕ) (lib : TypeLib) (offset vt at : ℕ) where
  pub value-decimal : vt ≡ 14 → value (const.Decimal (record { at = at; len = 16 })) ≡ value_at s lib offset vt at
  unfolding value_at
  value-decimal h = rw h

  pub value-number : (v : ConstValue) → (vt ≡ 8 → ⊥) → (vt ≡ 14 → ⊥) → v ≡ constant_of vt (le (stored_width vt) s at) → value v ≡ value_at s lib offset vt at
  unfolding value_at
  value-number v h k e = rw (ne_eqb vt 8 h, ne_eqb vt 14 k) (ap value e)

module _ (s : List ℕ) (lib : TypeLib) (word : ℕ) where
  pub const-inline : (v : ConstValue) → length s ≤ limit → 0x80000000 ≤ word → v ≡ inline_of word → value v ≡ const_at s lib word
  const-inline v h k e = lent_fits s _ _ h (when_true _ _ _ _ (le-leb 0x80000000 word k) (ap value e))

  pub const-stored : (a : Answer ConstValue) → length s ≤ limit → word < 0x80000000 → a ≡ stored_at s lib word → a ≡ const_at s lib word
  const-stored a h k e = lent_fits s _ _ h (when_false _ _ _ _ (lt-leb 0x80000000 word k) e)
