-- Laws of `Record`, over the width, the offset and the fixed part. Assumes nothing.
use Rattle.std.proofs.Math.Path.{◌≡◌, sym, ap}
use Rattle.std.specs.Prelude.{refl, List, [], ℕ, ◌+◌, ◌/◌, ◌%◌, ◌^◌, ◌≤◌, ◌<◌, leb, ltb, length, drop, Option, Some, None, ok_or}
use Rattle.std.proofs.Common.{◌∙◌, mod-lt, lt_of_lt_of_le, arith, pow_pos, pow_mono}
use Rattle.std.proofs.Math.Bool.{cond}
use Rattle.std.proofs.Math.ListN.{take}
use borrow.Author.Tests.{le-leb, lt-leb, le-ltb, lt-ltb, leb-true, ltb-false}
use Rattle.util.specs.Read.{le, read, cond-elim, some_read, none_read}
use Rattle.records.specs.declared.answer.Place.{Place}
use Rattle.records.specs.declared.answer.Refusal.{Refusal}
use Rattle.records.specs.Told.{told}
use Rattle.records.specs.Answer.{Answer, value, refused, map, bind}
use Rattle.records.specs.Record.{limit, held, field_place, field_at, part_of}

-- ---- `held`, by its four cases

module _ (s : List ℕ) (at len fixed : ℕ) where
  pub held-long : limit < length s → refused 1 ≡ held s at len fixed
  unfolding held
  held-long h = rw (lt-ltb limit (length s) h)

  pub held-short : length s ≤ limit → len < fixed → refused 9 ≡ held s at len fixed
  unfolding held
  held-short h k = rw (le-ltb limit (length s) h, lt-ltb len fixed k)

  pub held-outside : length s ≤ limit → fixed ≤ len → length s < at + len → refused 9 ≡ held s at len fixed
  unfolding held
  held-outside h k o = rw (le-ltb limit (length s) h, le-ltb len fixed k, lt-leb (at + len) (length s) o)

  pub held-inside : length s ≤ limit → fixed ≤ len → at + len ≤ length s → value tt ≡ held s at len fixed
  unfolding held
  held-inside h k i = rw (le-ltb limit (length s) h, le-ltb len fixed k, le-leb (at + len) (length s) i)

-- a record that is held
pub record Holds (s : List ℕ) (at len fixed : ℕ) : Type 0 where
  pub few : length s ≤ limit
  pub whole : fixed ≤ len
  pub inside : at + len ≤ length s

pub holds : (s : List ℕ) (at len fixed : ℕ) → value tt ≡ held s at len fixed → Holds s at len fixed
unfolding held
holds s at len fixed =
    let P : Answer Unit → Type 0 = λ r. value tt ≡ r → Holds s at len fixed in
    let no : (n : ℕ) → P (refused n) = λ n e. let z : ◌≡◌ {A = ℕ} 0 1 = cc in absurd (omega arith) in
    cond-elim P (ltb limit (length s)) _ _ (λ _. no 1) (λ h1.
    cond-elim P (ltb len fixed) _ _ (λ _. no 9) (λ h2.
    cond-elim P (leb (at + len) (length s)) _ _ (λ h3 e.
    record {
      few = ltb-false limit (length s) h1;
      whole = ltb-false len fixed h2;
      inside = leb-true (at + len) (length s) h3;
    })
    (λ _. no 9)))

-- what holds of a record that is held, and of every refusal, holds of what `held` answers
pub held-elim : (P : Answer Unit → Type 0) (s : List ℕ) (at len fixed : ℕ) → (Holds s at len fixed → P (value tt)) → ((n : ℕ) → P (refused n)) → P (held s at len fixed)
held-elim P s at len fixed f g = go (held s at len fixed) refl
  where
    go : (r : Answer Unit) → held s at len fixed ≡ r → P r
    go (value u) e = f (holds s at len fixed (sym e))
    go (refused n) e = g n

-- ---- the place of a field

module _ (w fixed offset : ℕ) (s : List ℕ) (at len : ℕ) where
  pub place-some : value tt ≡ held s at len fixed → offset + w ≤ len → value (record { at = at + offset; len = w }) ≡ field_place w fixed offset s at len
  unfolding field_place
  place-some h k = rw (← h, le-leb (offset + w) len k)

  pub place_none : value tt ≡ held s at len fixed → len < offset + w → refused 9 ≡ field_place w fixed offset s at len
  unfolding field_place
  place_none h k = rw (← h, lt-leb (offset + w) len k)

  pub place-refused : (n : ℕ) → refused n ≡ held s at len fixed → refused n ≡ field_place w fixed offset s at len
  unfolding field_place
  place-refused n h = rw (← h)

-- a field's bytes stand inside the list
pub record Lies (w : ℕ) (s : List ℕ) (p : Place) : Type 0 where
  pub inside : p.at + w ≤ length s
  pub size : p.len ≡ w

module _ (w fixed offset : ℕ) (s : List ℕ) (at len : ℕ) where
  pub lies : (p : Place) → value p ≡ field_place w fixed offset s at len → Lies w s p
  unfolding field_place
  lies p =
      let P : Answer Place → Type 0 = λ r. value p ≡ r → Lies w s p in
      let no : (n : ℕ) → P (refused n) = λ n e. let z : ◌≡◌ {A = ℕ} 0 1 = cc in absurd (omega arith) in
      held-elim (λ h. P (bind h (λ _. cond (leb (offset + w) len) (value (record { at = at + offset; len = w })) (refused 9)))) s at len fixed
      (λ h. cond-elim P (leb (offset + w) len) _ _
      (λ b e.
      let q : p ≡ record { at = at + offset; len = w } = cc in
      let a : p.at ≡ at + offset = ap (λ (x : Place). x.at) q in
      record { inside = omega (arith, h.inside, leb-true (offset + w) len b); size = ap (λ (x : Place). x.len) q })
      (λ _. no 9))
      no

  -- so its number is read
  pub field-value : (p : Place) (x : ℕ) → value p ≡ field_place w fixed offset s at len → Some x ≡ read w s p.at → value x ≡ field_at w fixed offset s at len
  field-value p x e r = ap value (some_read w s p.at x r).is ∙ ap (map (λ (q : Place). le w s q.at)) e

  pub field-never : {X : Type 0} (p : Place) → value p ≡ field_place w fixed offset s at len → None ≡ read w s p.at → X
  field-never p e r = absurd (omega (arith, (lies p e).inside, none_read w s p.at r))

  -- whatever stands for a number that is not there
  pub field-number : (p : Place) (e : Refusal) → value p ≡ field_place w fixed offset s at len → told (ok_or (read w s p.at) e) ≡ field_at w fixed offset s at len
  field-number p e h = go (read w s p.at) refl
    where
      go : (r : Option ℕ) → r ≡ read w s p.at → told (ok_or r e) ≡ field_at w fixed offset s at len
      go (Some x) k = field-value p x h k
      go None k = field-never p h k

  pub field-refused : (n : ℕ) → refused n ≡ field_place w fixed offset s at len → refused n ≡ field_at w fixed offset s at len
  field-refused n e = ap (map (λ (q : Place). le w s q.at)) e

-- ---- bits

-- so many bits stay below that power of two
pub bits-lt : (n low k most : ℕ) → k ≤ most → n / 2 ^ low % 2 ^ k < 2 ^ most
bits-lt n low k most h = lt_of_lt_of_le (mod-lt (n / 2 ^ low) (pow_pos k)) (pow_mono h)

-- the same bits, where their count is known by another name
pub bits_most : (n low k j r : ℕ) → r ≡ n / 2 ^ low % 2 ^ k → k ≡ j → r ≡ n / 2 ^ low % 2 ^ j
bits_most n low k j r e h = e ∙ ap (λ (i : ℕ). n / 2 ^ low % 2 ^ i) h

-- ---- a part of the list

module _ (s : List ℕ) where
  pub part-refused : (a : Answer Place) (n : ℕ) → refused n ≡ a → [] ≡ part_of s a
  unfolding part_of
  part-refused a n e = ap (part_of s) e

  pub part-outside : (a : Answer Place) (p : Place) → value p ≡ a → length s < p.at + p.len → [] ≡ part_of s a
  unfolding part_of
  part-outside a p e h = sym (rw (lt-leb (p.at + p.len) (length s) h)) ∙ ap (part_of s) e

  pub part-inside : (a : Answer Place) (p : Place) (n : ℕ) → value p ≡ a → n ≡ p.len → p.at + p.len ≤ length s → take n (drop p.at s) ≡ part_of s a
  unfolding part_of
  part-inside a p n e l h =
      ap (λ (k : ℕ). take k (drop p.at s)) l ∙ sym (rw (le-leb (p.at + p.len) (length s) h)) ∙ ap (part_of s) e
