-- The laws of replies. Assumes nothing.
use Rattle.std.specs.Prelude.{◌≡◌, refl, List, ℕ, zero, suc, ◌<◌, ◌^◌, ℤ, pos, neg_ℤ}
use Rattle.std.proofs.Common.{sym, ◌∙◌, arith, SFits, to_z, of_z}
use Rattle.std.proofs.Math.Path.{ap}
use Rattle.std.specs.Int.{w64}
use Rattle.std.proofs.lemmas.Int.{to_z-of_z, to_z_pos}
use Rattle.records.specs.Answer.{Answer, value, refused}
use Rattle.std.specs.declared.result.Result.{Result}
use Rattle.records.specs.Told.{refusal_number, told}
use Rattle.records.specs.declared.answer.Refusal.{Refusal}
use Rattle.records.specs.declared.answer.Refusal.TheVariants.{OverLong, ShortHeader, WrongMagic, BadCount, ShortDirectory, NoSuchTypeInfo, NoTypeInfoTable, ShortTypeInfo, NothingThere, Circle, TooDeep, NoSpace, TooManyTypes}
use Rattle.typelib.specs.declared.TypeLib.{TypeLib}
use Rattle.typelib.specs.Header.{Parsed}
use Rattle.typelib.specs.Header.{parse_of, parsed}
use Rattle.replies.specs.Call.{refusal_of, library_in, after, past, reply, reply_behind, Outcome, laid}

-- ---- a reply is an i64, which the machine reads back from its bits

pub minus-fits : (n : ℕ) → n < 256 → SFits w64 (neg_ℤ (pos n))
minus-fits zero h = record { sfits = omega arith }
minus-fits (suc n) h = record { sfits = omega arith }

pub minus-back : (n : ℕ) {z : ℤ} → n < 256 → z ≡ neg_ℤ (pos n) → to_z w64 (of_z w64 (to_z w64 (of_z w64 z))) ≡ neg_ℤ (pos n)
minus-back n {z} h e = rw (e, to_z-of_z w64 (neg_ℤ (pos n)) (minus-fits n h), to_z-of_z w64 (neg_ℤ (pos n)) (minus-fits n h))

pub pos-back : (n : ℕ) → n < 2 ^ 63 → to_z w64 (of_z w64 (to_z w64 n)) ≡ pos n
pos-back n h = rw (to_z_pos w64 n h) (to_z-of_z w64 (pos n) (record { sfits = h }))

-- the number of a refusal is a byte
pub refusal-byte : (e : Refusal) → refusal_number e < 256
refusal-byte OverLong = omega arith
refusal-byte ShortHeader = omega arith
refusal-byte WrongMagic = omega arith
refusal-byte BadCount = omega arith
refusal-byte ShortDirectory = omega arith
refusal-byte NoSuchTypeInfo = omega arith
refusal-byte NoTypeInfoTable = omega arith
refusal-byte ShortTypeInfo = omega arith
refusal-byte NothingThere = omega arith
refusal-byte Circle = omega arith
refusal-byte TooDeep = omega arith
refusal-byte NoSpace = omega arith
refusal-byte TooManyTypes = omega arith

-- ---- the library

pub number_is : (s : List ℕ) (p : Parsed) → p ≡ parsed (parse_of s) → refusal_of s ≡ p.number
unfolding refusal_of
number_is s p e = sym (ap (λ p. p.number) e)

pub library-is : (s : List ℕ) (p : Parsed) → p ≡ parsed (parse_of s) → library_in s ≡ p.lib
unfolding library_in
library-is s p e = sym (ap (λ p. p.lib) e)

-- the same of what `parse` replies, told by that number and that library
module _ (s : List ℕ) (r : Result TypeLib Refusal) (e : told r ≡ parse_of s) where
  pub number-replied : refusal_of s ≡ (parsed (told r)).number
  number-replied = number_is s (parsed (told r)) (ap parsed e)

  pub library-replied : library_in s ≡ (parsed (told r)).lib
  library-replied = library-is s (parsed (told r)) (ap parsed e)

-- ---- what was refused before

pub after_none : {A : Type 0} (n : ℕ) (a : Answer A) → n ≡ 0 → a ≡ after n a
unfolding after
after_none zero a e = refl
after_none (suc n) a e = absurd (omega arith)

pub after-some : {A : Type 0} (n : ℕ) (a : Answer A) → (n ≡ 0 → ⊥) → refused n ≡ after n a
unfolding after
after-some zero a h = absurd (h refl)
after-some (suc n) a h = refl

-- ---- a number that is replied, by what `told` tells of an answer

module _ {E : Type 0} (told : E → Answer ℕ) {a e : E} {n : ℕ} where
  -- a value
  pub valued : n < 2 ^ 63 → a ≡ e → value n ≡ told e → to_z w64 (of_z w64 (to_z w64 n)) ≡ reply (told a)
  unfolding reply
  valued h g k = pos-back n h ∙ ap reply (k ∙ ap told (sym g))

  -- a refusal
  pub declined : {z : ℤ} → n < 256 → a ≡ e → refused n ≡ told e → z ≡ neg_ℤ (pos n)
      → to_z w64 (of_z w64 (to_z w64 (of_z w64 z))) ≡ reply (told a)
  unfolding reply
  declined h g k m = minus-back n h m ∙ ap reply (k ∙ ap told (sym g))

-- ---- behind what was refused before

pub replied-first : (n : ℕ) (y : ℤ) {z : ℤ} → n < 256 → (n ≡ 0 → ⊥) → z ≡ neg_ℤ (pos n) → to_z w64 (of_z w64 (to_z w64 (of_z w64 z))) ≡ reply_behind n y
unfolding reply_behind
replied-first zero y h k e = absurd (k refl)
replied-first (suc n) y h k e = minus-back (suc n) h e

pub replied-behind : (n : ℕ) {y z : ℤ} → n ≡ 0 → y ≡ z → y ≡ reply_behind n z
unfolding reply_behind
replied-behind zero k e = e
replied-behind (suc n) k e = absurd (omega arith)

pub behind-reply : (n : ℕ) (a : Answer ℕ) → reply_behind n (reply a) ≡ reply (after n a)
unfolding reply_behind reply after
behind-reply zero a = refl
behind-reply (suc n) a = refl

-- what an export replies of a library's answer is the reply of `parse` first: its number, unless that is 0
pub replied-past : (s : List ℕ) (r : Result TypeLib Refusal) (a : Answer ℕ) {z : ℤ} → told r ≡ parse_of s → z ≡ reply (past s a)
    → z ≡ reply_behind (parsed (told r)).number (reply a)
replied-past s r a e h = h ∙ sym (behind-reply (refusal_of s) a) ∙ ap (λ (n : ℕ). reply_behind n (reply a)) (number-replied s r e)

-- the same of what it lays out
pub laid-past : (s o : List ℕ) (r : Result TypeLib Refusal) (a : Answer (List ℕ)) {w : Outcome} → told r ≡ parse_of s → w ≡ laid (past s a) o
    → w ≡ laid (after (parsed (told r)).number a) o
laid-past s o r a e h = h ∙ ap (λ (n : ℕ). laid (after n a) o) (number-replied s r e)

-- ---- an export: what it calls replies or lays out, by the definitions that are cited

pub replied : (n : ℕ) {x y : Answer ℕ} {k z : ℤ} → z ≡ reply_behind n k → k ≡ reply x → x ≡ y → z ≡ reply (after n y)
replied n {x} e f g = e ∙ ap (reply_behind n) f ∙ behind-reply n x ∙ ap (λ (a : Answer ℕ). reply (after n a)) g

module _ (o : List ℕ) {x y : Answer (List ℕ)} {w : Outcome} where
  pub laid_as : w ≡ laid x o → x ≡ y → w ≡ laid y o
  laid_as e g = e ∙ ap (λ (a : Answer (List ℕ)). laid a o) g

  pub laid-after : (n : ℕ) → w ≡ laid (after n x) o → x ≡ y → w ≡ laid (after n y) o
  laid-after n e g = e ∙ ap (λ (a : Answer (List ℕ)). laid (after n a) o) g
