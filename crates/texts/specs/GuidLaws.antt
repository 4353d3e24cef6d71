-- Laws of a GUID's text. Assumes nothing.
use Rattle.std.specs.Prelude.{◌≡◌, length, set, take, drop}
use Rattle.std.proofs.Math.Path.{refl, ap}
use Rattle.std.proofs.Common.{sym, ◌∙◌, zero-add, suc-add, lit≤, length-append, length-take, length-drop, drop-drop, take-take}
use mathlib.Core.List.{List, [], ◌∷◌, ◌++◌, append_assoc}
use Prim.Native.Nat.{ℕ, zero, suc, ◌+◌, ◌*◌, ◌-◌, ◌/◌, ◌%◌, ◌≤◌, ◌<◌}
use Prim.Native.Char.{code}
use Rattle.std.proofs.Math.Nat.{add-zero}
use Rattle.std.proofs.Math.Numerals.{add-one, add-two}
use native.Mathlib.Omega.{arith}
use Rattle.std.proofs.Math.ListN.{get_or}
use Rattle.std.proofs.lemmas.List.Edits.{sets}
use Rattle.std.proofs.Math.Seq.{drop-cons, take-nil}
use Rattle.util.specs.Read.{le}
use Rattle.records.specs.declared.answer.Place.{Place}
use Rattle.records.specs.Answer.{value, refused, map}
use Rattle.records.specs.AnswerLaws.{map-value, bind-value, bind-refused}
use Rattle.records.specs.Record.{held, field_at}
use Rattle.records.specs.RecordLaws.{holds, place-some, place-refused, field-refused}
use Rattle.texts.specs.Text.{ascii, digit, digits, Laid}
use Rattle.texts.specs.Stores.{sets-next}
use Rattle.texts.specs.TextLaws.{laid-all, laid_none, laid-refused, length_digits, digit-last}
use Rattle.texts.specs.Guid.{hex_bytes, text_form, guid_text}

-- ---- a number's bytes, as they are stored behind `to`

module _ (s o w : List ℕ) (to from : ℕ) where
  -- the two digits of the lowest byte at the end, and those of the bytes above it
  pub number-less : (left : ℕ) → sets o (suc to) (digits 16 (2 * left) (le left s from)) ≡ w → 0 < left → get_or s from 0 < 256 → sets (set (set o (to + 2 * (left - 1) + 2) (digit (get_or s from 0 % 16))) (to + 2 * (left - 1) + 1) (digit (get_or s from 0 / 16))) (suc to) (digits 16 (2 * (left - 1)) (le (left - 1) s (from + 1))) ≡ w
  unfolding le
  number-less zero e h k = absurd (omega arith)
  number-less (suc l) e h k =
      let b = get_or s from 0 in
      let m = le l s (from + 1) in
      let two : 2 * suc l ≡ suc (suc (2 * l)) = omega arith in
      let low = digit-last o w (suc to) (suc (2 * l)) (b + 256 * m) (b % 16) ((b + 256 * m) / 16) (omega arith) refl (rw two at e) in
      let high = digit-last _ w (suc to) (2 * l) ((b + 256 * m) / 16) (b / 16) m (omega arith) (omega arith) low in
      let one : suc l - 1 ≡ l = omega arith in
      let at_low : to + 2 * l + 2 ≡ suc to + suc (2 * l) = omega arith in
      let at_high : to + 2 * l + 1 ≡ suc to + 2 * l = omega arith in
      rw (one, at_low, at_high) high

  -- no byte is left
  pub number-none : (left : ℕ) → sets o (suc to) (digits 16 (2 * left) (le left s from)) ≡ w → left ≤ 0 → o ≡ w
  unfolding digits
  number-none zero e h = e
  number-none (suc l) e h = absurd (omega arith)

-- ---- bytes in their order, as they are stored behind `to`

module _ (s o w : List ℕ) (at count to i : ℕ) (e : sets o (suc (to + 2 * i)) (hex_bytes (take (count - i) (drop (at + i) s))) ≡ w) where
  -- the two digits of the first, and those of the bytes behind it
  pub bytes-less : i < count → at + count ≤ length s → get_or s (at + i) 0 < 256 → sets (set (set o (to + 2 * i + 1) (digit (get_or s (at + i) 0 / 16))) (to + 2 * i + 2) (digit (get_or s (at + i) 0 % 16))) (suc (to + 2 * (i + 1))) (hex_bytes (take (count - (i + 1)) (drop (at + (i + 1)) s))) ≡ w
  unfolding hex_bytes digits
  bytes-less h k m =
      let less : count - i ≡ suc (count - (i + 1)) = omega arith in
      let high : get_or s (at + i) 0 / 16 ≡ get_or s (at + i) 0 / 16 % 16 = omega arith in
      let next : at + (i + 1) ≡ suc (at + i) = omega arith in
      let on : to + 2 * (i + 1) ≡ to + 2 * i + 2 = omega arith in
      rw (on, next, add-one (to + 2 * i), add-two (to + 2 * i)) (rw (less, drop-cons s (at + i) 0 (omega arith), ← high) at e)

  -- no byte is left
  pub bytes-none : count ≤ i → o ≡ w
  unfolding hex_bytes
  bytes-none h = let none : count - i ≡ 0 = omega arith in rw none at e

-- ---- the whole text

pub length-bytes : (l : List ℕ) → length (hex_bytes l) ≡ 2 * length l
unfolding hex_bytes
length-bytes [] = refl
length-bytes (b ∷ l) =
    let h : length (digits 16 2 b ++ hex_bytes l) ≡ 2 + length (hex_bytes l) = rw (length-append, length_digits) in
    omega (arith, h, length-bytes l)

module _ (a b c : ℕ) (d : List ℕ) (h : length d ≡ 8) where
  four : length (hex_bytes (take 2 d)) ≡ 4
  four = omega (arith, length-bytes (take 2 d), length-take 2 d)

  twelve : length (hex_bytes (drop 2 d)) ≡ 12
  twelve = omega (arith, length-bytes (drop 2 d), length-drop 2 d)

  pub length-text : length (text_form a b c d) ≡ 38
  unfolding text_form
  length-text = simp (length-append, length_digits, four, twelve)

  -- its groups one behind another
  pub text-stored : (o o₁ o₂ o₃ o₄ o₅ : List ℕ)
      → o₁ ≡ sets o 0 (code "{" ∷ digits 16 8 a)
      → o₂ ≡ sets o₁ 9 (code "-" ∷ digits 16 4 b)
      → o₃ ≡ sets o₂ 14 (code "-" ∷ digits 16 4 c)
      → o₄ ≡ sets o₃ 19 (code "-" ∷ hex_bytes (take 2 d))
      → o₅ ≡ sets o₄ 24 (code "-" ∷ hex_bytes (drop 2 d))
      → set o₅ 37 (code "}") ≡ sets o 0 (text_form a b c d)
  unfolding text_form
  text-stored o o₁ o₂ o₃ o₄ o₅ e₁ e₂ e₃ e₄ e₅ =
      let g₁ = code "{" ∷ digits 16 8 a in
      let g₂ = code "-" ∷ digits 16 4 b in
      let g₃ = code "-" ∷ digits 16 4 c in
      let g₄ = code "-" ∷ hex_bytes (take 2 d) in
      let g₅ = code "-" ∷ hex_bytes (drop 2 d) in
      let t₄ = g₄ ++ (g₅ ++ ascii "}") in
      let t₂ = g₂ ++ (g₃ ++ t₄) in
      let e : g₁ ++ t₂ ≡ text_form a b c d = simp append_assoc in
      sets-next g₅ (ascii "}") o₄ o₅ 24 37 e₅ (omega (arith, twelve))
      ∙ sets-next g₄ (g₅ ++ ascii "}") o₃ o₄ 19 24 e₄ (omega (arith, four))
      ∙ sets-next g₃ t₄ o₂ o₃ 14 19 e₃ (omega (arith, length_digits 16 4 c))
      ∙ sets-next g₂ (g₃ ++ t₄) o₁ o₂ 9 14 e₂ (omega (arith, length_digits 16 4 b))
      ∙ sets-next g₁ t₂ o o₁ 0 9 e₁ (omega (arith, length_digits 16 8 a))
      ∙ ap (sets o 0) e

-- ---- the text of a record

drop-take : (n m : ℕ) (l : List ℕ) → drop n (take (n + m) l) ≡ take m (drop n l)
drop-take zero m l = rw zero-add
drop-take (suc n) m [] = rw (suc-add n m) (sym (take-nil m))
drop-take (suc n) m (x ∷ l) = rw (suc-add n m) (drop-take n m l)

-- the text of the 16 bytes at `at`
abbrev pub data4_at : List ℕ → ℕ → List ℕ
data4_at s at = take 8 (drop (at + 8) s)

abbrev pub text_at : List ℕ → ℕ → List ℕ
text_at s at = text_form (le 4 s at) (le 2 s (at + 4)) (le 2 s (at + 6)) (data4_at s at)

module _ (s : List ℕ) (at : ℕ) where
  pub length-data4 : at + 16 ≤ length s → length (data4_at s at) ≡ 8
  length-data4 h = simp (length-take, length-drop) (omega arith)

  pub first_two : take 2 (drop (at + 8) s) ≡ take 2 (data4_at s at)
  first_two = sym (take-take 2 8 (drop (at + 8) s) (lit≤ tt))

  pub other-six : take 6 (drop (at + 10) s) ≡ drop 2 (data4_at s at)
  other-six =
      let e : at + 10 ≡ at + 8 + 2 = omega arith in
      rw e (ap (take 6) (sym (drop-drop 2 (at + 8) s)) ∙ sym (drop-take 2 6 (drop (at + 8) s)))

-- it is that of a record which is held; the three ways of a call that lays it
module _ (s : List ℕ) (at len : ℕ) where
  text-held : value tt ≡ held s at len 16 → value (text_at s at) ≡ guid_text s at len
  unfolding guid_text
  text-held h =
      let w = holds s at len 16 h in
      let f : (k o : ℕ) → o + k ≤ len → value (le k s (at + o)) ≡ field_at k 16 o s at len = λ k o i. ap (map (λ (p : Place). le k s p.at)) (place-some k 16 o s at len h i) in
      let f₁ : value (le 4 s at) ≡ field_at 4 16 0 s at len = rw add-zero at (f 4 0 (omega arith)) in
      bind-value _ _ _ _ f₁
      (bind-value _ _ _ _ (f 2 4 (omega arith))
      (bind-value _ _ _ _ (f 2 6 (omega arith))
      (map-value _ _ _ _ (place-some 8 16 8 s at len h (omega arith)) refl)))

  text-refused : (n : ℕ) → refused n ≡ held s at len 16 → refused n ≡ guid_text s at len
  unfolding guid_text
  text-refused n h = bind-refused _ _ n (field-refused 4 16 0 s at len n (place-refused 4 16 0 s at len n h))

  text-length : value tt ≡ held s at len 16 → length (text_at s at) ≡ 38
  text-length h =
      let w = holds s at len 16 h in
      length-text (le 4 s at) (le 2 s (at + 4)) (le 2 s (at + 6)) (data4_at s at) (length-data4 s at (omega arith))

  pub laid-text : (o o' : List ℕ) → value tt ≡ held s at len 16 → 38 ≤ length o → o' ≡ sets o 0 (text_at s at) → Laid (guid_text s at len) o (value 38) o'
  laid-text o o' h k e = rw (← text-held h) (laid-all (rw (text-length h) k) (sym (text-length h)) e)

  pub laid-no-room : (o : List ℕ) → value tt ≡ held s at len 16 → length o < 38 → Laid (guid_text s at len) o (refused 12) o
  laid-no-room o h k = rw (← text-held h) (laid_none (rw (text-length h) k))

  pub laid-no-record : (o : List ℕ) (n : ℕ) → refused n ≡ held s at len 16 → Laid (guid_text s at len) o (refused n) o
  laid-no-record o n h = rw (← text-refused n h) laid-refused
