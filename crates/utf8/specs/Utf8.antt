-- UTF-8: the grammar of RFC 3629, section 4; how many bytes of a text are looked at, by that grammar; and a test that goes byte by
-- byte. `Utf8Laws` and `LookedLaws` show that they agree. Assumes nothing.
use Rattle.std.specs.Prelude.{◌≡◌, Bool, false, cond, List, [], ◌∷◌, ◌++◌, ℕ, ◌≤◌, ◌<◌, length, take, leb, ltb, eqb}

-- ---- the grammar

-- a byte from lo to hi: %xLO-HI
pub record In (lo hi b : ℕ) : Type 0 where
  pub low : lo ≤ b
  pub high : b ≤ hi

-- UTF8-tail = %x80-BF
abbrev pub Tail : ℕ → Type 0
Tail b = In 0x80 0xbf b

-- UTF8-octets = *( UTF8-char ): one constructor for each alternative of UTF8-1, UTF8-2, UTF8-3 and UTF8-4
pub data Text : List ℕ → Type 0 where
  none : Text []
  utf8-1 : {a : ℕ} {t : List ℕ} → In 0x00 0x7f a → Text t → Text (a ∷ t)
  utf8-2 : {a b : ℕ} {t : List ℕ} → In 0xc2 0xdf a → Tail b → Text t → Text (a ∷ b ∷ t)
  utf8-3-e0 : {a b c : ℕ} {t : List ℕ} → In 0xe0 0xe0 a → In 0xa0 0xbf b → Tail c → Text t → Text (a ∷ b ∷ c ∷ t)
  utf8-3-e1 : {a b c : ℕ} {t : List ℕ} → In 0xe1 0xec a → Tail b → Tail c → Text t → Text (a ∷ b ∷ c ∷ t)
  utf8-3-ed : {a b c : ℕ} {t : List ℕ} → In 0xed 0xed a → In 0x80 0x9f b → Tail c → Text t → Text (a ∷ b ∷ c ∷ t)
  utf8-3-ee : {a b c : ℕ} {t : List ℕ} → In 0xee 0xef a → Tail b → Tail c → Text t → Text (a ∷ b ∷ c ∷ t)
  utf8-4-f0 : {a b c d : ℕ} {t : List ℕ} → In 0xf0 0xf0 a → In 0x90 0xbf b → Tail c → Tail d → Text t → Text (a ∷ b ∷ c ∷ d ∷ t)
  utf8-4-f1 : {a b c d : ℕ} {t : List ℕ} → In 0xf1 0xf3 a → Tail b → Tail c → Tail d → Text t → Text (a ∷ b ∷ c ∷ d ∷ t)
  utf8-4-f4 : {a b c d : ℕ} {t : List ℕ} → In 0xf4 0xf4 a → In 0x80 0x8f b → Tail c → Tail d → Text t → Text (a ∷ b ∷ c ∷ d ∷ t)

-- ---- how many bytes are looked at

-- p is the beginning of a valid text
pub record Begins (p : List ℕ) : Type 0 where
  pub rest : List ℕ
  pub text : Text (p ++ rest)

-- Of the bytes s, n are looked at (document 02, §3): the whole length, unless some beginning of s is the beginning of no valid text;
-- then the length of the shortest such beginning.
pub data LookedAt (s : List ℕ) (n : ℕ) : Type 0 where
  whole : n ≡ length s → ((k : ℕ) → Begins (take k s)) → LookedAt s n
  shortest : n ≤ length s → (Begins (take n s) → ⊥) → ((k : ℕ) → k < n → Begins (take k s)) → LookedAt s n

-- ---- the test

-- What may follow the bytes so far is a number: 0 a character, 1 to 3 so many tails, 4 to 7 what may follow a first byte of
-- E0, ED, F0, F4, and 8 nothing: no text begins with these bytes.

-- after the first byte of a character
unfoldable pub after_first : ℕ → ℕ
after_first b =
    cond (ltb b 0x80) 0
    (cond (ltb b 0xc2) 8
    (cond (ltb b 0xe0) 1
    (cond (eqb b 0xe0) 4
    (cond (eqb b 0xed) 5
    (cond (ltb b 0xf0) 2
    (cond (eqb b 0xf0) 6
    (cond (ltb b 0xf4) 3
    (cond (eqb b 0xf4) 7 8))))))))

-- after a byte that has to lie from lo to hi
unfoldable pub after_tail : ℕ → ℕ → ℕ → ℕ → ℕ
after_tail b lo hi then = cond (leb lo b) (cond (leb b hi) then 8) 8

unfoldable pub after_byte : ℕ → ℕ → ℕ
after_byte state b =
    cond (eqb state 0) (after_first b)
    (cond (eqb state 1) (after_tail b 0x80 0xbf 0)
    (cond (eqb state 2) (after_tail b 0x80 0xbf 1)
    (cond (eqb state 3) (after_tail b 0x80 0xbf 2)
    (cond (eqb state 4) (after_tail b 0xa0 0xbf 1)
    (cond (eqb state 5) (after_tail b 0x80 0x9f 1)
    (cond (eqb state 6) (after_tail b 0x90 0xbf 2)
    (cond (eqb state 7) (after_tail b 0x80 0x8f 2) 8)))))))

-- whether the bytes that are left may follow
unfoldable pub accepts : ℕ → List ℕ → Bool
accepts state [] = eqb state 0
accepts state (b ∷ bs) = cond (eqb (after_byte state b) 8) false (accepts (after_byte state b) bs)

-- whether a list of bytes is text in UTF-8
abbrev pub utf8 : List ℕ → Bool
utf8 s = accepts 0 s
