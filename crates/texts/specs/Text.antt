-- Text, and text in a lent output. Assumes nothing.
use Rattle.std.specs.Prelude.{◌≡◌, cond, List, [], ◌∷◌, ◌++◌, ℕ, zero, suc, ◌/◌, ◌%◌, leb, ltb, eqb, length, drop, get_or}
use Prim.Native.Char.{code}
use Prim.Native.String.{String, [] as ε, ◌∷◌ as ◌◂◌}
use Rattle.records.specs.Answer.{Answer, value, refused, map, bind}

-- the bytes of a text in ASCII: its characters' codes
abbrev pub ascii : String → List ℕ
ascii ε = []
ascii (c ◂ s) = code c ∷ ascii s

-- a word in a cell that blanks fill up: the bytes before the first blank
abbrev pub word_of : List ℕ → List ℕ
word_of [] = []
word_of (b ∷ l) = cond (eqb b (code " ")) [] (b ∷ word_of l)

-- ---- numbers

-- the digit for a number below 16
abbrev pub digit : ℕ → ℕ
digit d = get_or (ascii "0123456789ABCDEF") d 0

-- the lowest `count` digits of n to that base, the most significant first
unfoldable pub digits : ℕ → ℕ → ℕ → List ℕ
digits base zero n = []
digits base (suc count) n = digits base count (n / base) ++ (digit (n % base) ∷ [])

-- a number below 1000 in base ten, with no zero before it
unfoldable pub decimal : ℕ → List ℕ
decimal n = digits 10 (cond (ltb n 10) 1 (cond (ltb n 100) 2 3)) n

-- ---- a text at the front of a lent output

-- the text, where the output has room for it; else refusal 12
unfoldable pub fitted : Answer (List ℕ) → List ℕ → Answer (List ℕ)
fitted text o = bind text (λ t. cond (leb (length t) (length o)) (value t) (refused 12))

-- the output with the text over its front; where there is none, as it was
unfoldable pub fronted : Answer (List ℕ) → List ℕ → List ℕ
fronted (value t) o = t ++ drop (length t) o
fronted (refused n) o = o

-- a call that writes a text to the front of the output `o` replies how many bytes it wrote, and leaves `o'`
pub record Laid (text : Answer (List ℕ)) (o : List ℕ) (reply : Answer ℕ) (o' : List ℕ) : Type 0 where
  pub replies : reply ≡ map length (fitted text o)
  pub leaves : o' ≡ fronted (fitted text o) o
