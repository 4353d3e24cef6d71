-- Laws of `Text`, over the text and the output. Assumes nothing.
use Rattle.std.specs.Prelude.{◌≡◌, refl, Bool, true, false, cond, not, Option, Some, None, unwrap_or, List, [], ◌∷◌, ◌++◌, ℕ, zero, suc, ◌+◌, ◌/◌, ◌%◌, ◌≤◌, ◌<◌, T, eqb, ltb, length, get_or, set, take, drop}
use Rattle.std.proofs.Common.{sym, ◌∙◌, ap, zero-add, add-one, arith, length-append, length-take, le-leb, ltb-false, drop_of_length-le, drop-cons, get_or-take, eq-eqb, ne_eqb}
use Rattle.std.specs.List.{position_or_len}
use Prim.Native.Char.{code}
use Rattle.std.proofs.lemmas.List.Edits.{sets, sets-eq}
use Rattle.std.proofs.lemmas.Bool.{lt-leb}
use Rattle.util.specs.Read.{cond-elim}
use Rattle.records.specs.Answer.{Answer, value, refused}
use Rattle.texts.specs.Stores.{sets_last}
use Rattle.texts.specs.Text.{ascii, word_of, digit, digits, fitted, fronted, Laid}

-- ---- the three ways of a call that lays a text

-- there is room: the text was copied over the front,
pub laid-front : {t o o' : List ℕ} {n : ℕ} → length t ≤ length o → n ≡ length t → o' ≡ t ++ drop (length t) o → Laid (value t) o (value n) o'
unfolding fitted fronted
laid-front {t} {o} {o'} {n} h e s =
    let f = le-leb (length t) (length o) h in
    record { replies = rw f (ap value e); leaves = rw f s }

-- or stored byte by byte from there
pub laid-all : {t o o' : List ℕ} {n : ℕ} → length t ≤ length o → n ≡ length t → o' ≡ sets o 0 t → Laid (value t) o (value n) o'
laid-all {t} {o} {o'} {n} h e s = laid-front h e (s ∙ sets-eq t o 0 (rw zero-add h) ∙ rw zero-add)

-- there is none
pub laid_none : {t o : List ℕ} → length o < length t → Laid (value t) o (refused 12) o
unfolding fitted fronted
laid_none {t} {o} h =
    let f = lt-leb (length t) (length o) h in
    record { replies = rw f; leaves = rw f }

-- there is no text
pub laid-refused : {o : List ℕ} {n : ℕ} → Laid (refused n) o (refused n) o
unfolding fitted fronted
laid-refused = record { replies = refl; leaves = refl }

-- the same text by another name
pub laid_as : {t u o o' : List ℕ} {r : Answer ℕ} → Laid (value t) o r o' → t ≡ u → Laid (value u) o r o'
laid_as l e = rw e at l

-- ---- the word of a cell

-- how one more byte changes both, by whether it is a blank
blank-next : (x : Bool) (b n : ℕ) (w : List ℕ) → n ≡ length w → cond (not x) (1 + n) 0 ≡ length (cond x [] (b ∷ w))
blank-next true b n w e = refl
blank-next false b n w e = omega arith

-- the place of the first blank is the word's length,
first_blank : (l : List ℕ) → position_or_len (λ b. eqb b (code " ")) l ≡ length (word_of l)
first_blank [] = refl
first_blank (b ∷ l) = blank-next (eqb b (code " ")) b (position_or_len (λ b. eqb b (code " ")) l) (word_of l) (first_blank l)

-- it is the cell's first bytes
pub word-front : (l : List ℕ) → word_of l ≡ take (length (word_of l)) l
word-front [] = refl
word-front (b ∷ l) =
    cond-elim (λ w. w ≡ take (length w) (b ∷ l)) (eqb b (code " ")) [] (b ∷ word_of l) (λ _. refl) (λ _. ap (λ (w : List ℕ). b ∷ w) (word-front l))

pub word-le : (l : List ℕ) → length (word_of l) ≤ length l
word-le l = omega (arith, ap length (word-front l) ∙ length-take (length (word_of l)) l)

-- and where there is none, the cell's
pub word_length : (l : List ℕ) (r : Option ℕ) → r ≡ cond (ltb (position_or_len (λ b. eqb b (code " ")) l) (length l)) (Some (position_or_len (λ b. eqb b (code " ")) l)) None → unwrap_or r (length l) ≡ length (word_of l)
word_length l r e =
    rw (e, first_blank l)
    (cond-elim (λ (o : Option ℕ). unwrap_or o (length l) ≡ length (word_of l)) (ltb (length (word_of l)) (length l)) (Some (length (word_of l))) None (λ _. refl)
    (λ h. omega (arith, ltb-false (length (word_of l)) (length l) h, word-le l)))

-- ---- bytes that are no blanks

abbrev pub no_blank : List ℕ → Bool
no_blank [] = true
no_blank (b ∷ l) = cond (eqb b (code " ")) false (no_blank l)

pub no-blank : (l : List ℕ) (i : ℕ) → T (no_blank l) → eqb (get_or l i 0) (code " ") ≡ false
no-blank [] i t = refl
no-blank (b ∷ l) i t = go (eqb b (code " ")) i refl t (no-blank l)
  where
    go : (x : Bool) (k : ℕ) → eqb b (code " ") ≡ x → T (cond x false (no_blank l)) → ((j : ℕ) → T (no_blank l) → eqb (get_or l j 0) (code " ") ≡ false) → eqb (get_or (b ∷ l) k 0) (code " ") ≡ false
    go true k e u f = absurd u
    go false zero e u f = e
    go false (suc k) e u f = f k u

pub digit-no-blank : (d : ℕ) → eqb (digit d) (code " ") ≡ false
digit-no-blank d = no-blank (ascii "0123456789ABCDEF") d tt

-- ---- digits

pub length_digits : (base k n : ℕ) → length (digits base k n) ≡ k
unfolding digits
length_digits base zero n = refl
length_digits base (suc k) n = length-append (digits base k (n / base)) _ ∙ add-one (length (digits base k (n / base))) ∙ ap suc (length_digits base k (n / base))

-- the last digit, and those before it
pub digit-last : (o w : List ℕ) (to k n d m : ℕ) → d ≡ n % 16 → m ≡ n / 16 → sets o to (digits 16 (suc k) n) ≡ w → sets (set o (to + k) (digit d)) to (digits 16 k m) ≡ w
unfolding digits
digit-last o w to k n d m e f h =
    rw (e, f) (sym (sets_last (digits 16 k (n / 16)) o to (digit (n % 16)) ∙ ap (λ (j : ℕ). sets (set o (to + j) (digit (n % 16))) to (digits 16 k (n / 16))) (length_digits 16 k (n / 16))) ∙ h)

-- ---- the same by cases

module _ (l : List ℕ) (i n : ℕ) (e : i + length (word_of (drop i l)) ≡ n) where
  -- its length, from the bytes before i and the cell from there on
  pub word_more : i < length l → (get_or l i 0 ≡ code " " → ⊥) → i + 1 + length (word_of (drop (i + 1) l)) ≡ n
  word_more h k =
      let f = rw (drop-cons l i 0 h, ne_eqb (get_or l i 0) (code " ") k) at e in
      rw add-one (omega arith)

  pub word-ends : i < length l → get_or l i 0 ≡ code " " → i ≡ n
  word-ends h k =
      let f = rw (drop-cons l i 0 h, eq-eqb (get_or l i 0) (code " ") k) at e in
      omega arith

  pub word-whole : length l ≤ i → i ≡ n
  word-whole h =
      let f = rw (drop_of_length-le l {i = i} h) at e in
      omega arith

pub word_at : (l : List ℕ) (i : ℕ) → i < length (word_of l) → get_or l i 0 ≡ get_or (word_of l) i 0
word_at l i h = sym (ap (λ (w : List ℕ). get_or w i 0) (word-front l) ∙ get_or-take (length (word_of l)) l i 0 h)

module _ (l o w : List ℕ) (i : ℕ) (e : sets o i (drop i (word_of l)) ≡ w) where
  -- it is stored byte by byte: what is left of it, stored from here, makes the whole
  pub store-less : i < length (word_of l) → sets (set o i (get_or l i 0)) (i + 1) (drop (i + 1) (word_of l)) ≡ w
  store-less h = rw (word_at l i h, add-one) (rw (drop-cons (word_of l) i 0 h) at e)

  pub store-none : length (word_of l) ≤ i → o ≡ w
  store-none h = rw (drop_of_length-le (word_of l) {i = i} h) at e
