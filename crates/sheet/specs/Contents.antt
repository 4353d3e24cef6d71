-- Contents and bodies. They are written in another order than they are laid out: the length of a body goes into the contents once
-- the body is written. Assumes nothing.
use Rattle.std.specs.Prelude.{◌≡◌, cond, List, [], ◌∷◌, ◌++◌, ℕ, ◌+◌, ◌-◌, ◌≤◌, min, leb, length, take}
use Rattle.std.proofs.lemmas.List.Edits.{sets}
use Rattle.records.specs.Answer.{Answer, value, refused, map, bind}
use Rattle.records.specs.Record.{limit}
use Rattle.typelib.specs.declared.TypeLib.{TypeLib}
use Rattle.typelib.specs.Header.{type_count}
use Rattle.description.specs.Format.{Format, encode, le_bytes}
use Rattle.description.specs.Description.{Bytes}
use Rattle.description.specs.Sheet.{edition-one, header, type_info, sheet_bytes}
use Rattle.describe.specs.Call.{within, written}
use Rattle.describe.specs.Describe.{header_of, types_of}
use Rattle.describe.specs.Types.{types_from}
use Rattle.emit.specs.Emit.{Put}
use Rattle.emit.specs.Emit.{At, Refused}
use Rattle.emit.specs.Emit.{◌▸◌, past, put, moved, overwritten, Emitted}
use Rattle.sheet_members.specs.Bodies.{bodies_emitted}

-- the whole sheet of a library
unfoldable pub sheet_emitted : List ℕ → TypeLib → Answer Bytes
sheet_emitted s lib = map (sheet_bytes edition-one) (map (λ types. record { header = header_of s lib; types = types }) (types_of s lib))

-- the length of what is emitted, and the lengths of all that is
abbrev pub len_of : Answer Bytes → Answer Bytes
len_of (value bs) = value (le_bytes 4 (length bs))
len_of (refused n) = refused n

unfoldable pub lens_of : {A : Type 0} → Format A → List (Answer A) → Answer Bytes
lens_of F [] = value []
lens_of F (x ∷ xs) = len_of (map (encode F) x) ▸ lens_of F xs

-- THE OUTPUT WITH THE DISTANCE OF TWO PLACES over what stands at `at`; as it was where one of them is a refusal
unfoldable pub distanced : Put → Put → ℕ → List ℕ → List ℕ
distanced (At p) (At q) at o = cond (leb p q) (overwritten (le_bytes 4 (q - p)) (put at) o) o
distanced (At p) (Refused m) at o = o
distanced (Refused m) end at o = o

pub record Patched (from end : Put) (at : ℕ) (o o' : List ℕ) : Type 0 where
  pub puts : o' ≡ distanced from end at o

-- ks were laid from c, and bs from the place; what stands behind bs is left to the emitter
abbrev pub LaidTwo : Answer Bytes → Answer Bytes → ℕ → Put → List ℕ → List ℕ → Type 0
LaidTwo (value ks) (value bs) c (At p) o o' = c + length ks ≤ p → p + length bs ≤ limit → p + length bs ≤ length o → take (p + length bs) o' ≡ take p (sets o c ks) ++ bs
LaidTwo (value ks) (value bs) c (Refused m) o o' = Unit {0}
LaidTwo (value ks) (refused n) c t o o' = Unit {0}
LaidTwo (refused n) x c t o o' = Unit {0}

-- what is left alone, whatever happens: what stands before both; called at a refusal, all of the output
abbrev pub spared_two : ℕ → Put → List ℕ → List ℕ
spared_two c (At p) o = take (min c p) o
spared_two c (Refused m) o = o

-- an emitter of bodies xs from the place t, with their lengths ks from c
pub record Twofold (ks xs : Answer Bytes) (c : ℕ) (t : Put) (o : List ℕ) (r : Put) (o' : List ℕ) : Type 0 where
  pub moves : r ≡ moved t xs
  pub lays : LaidTwo ks xs c t o o'
  pub spares : spared_two c t o' ≡ spared_two c t o
  pub keeps : length o' ≡ length o

-- An emitter that replies r has done P, unless it gave up where its bytes passed the place `most`. Then it replies the last place, so it
-- has done P where it replies another (`short`), and where no place is past `most` (`endless`).
pub record Within (most r : ℕ) (o o' : List ℕ) (P : Type 0) : Type 0 where
  pub short : (r ≡ past → ⊥) → P
  pub endless : past ≤ most → P
  pub keeps : length o' ≡ length o

-- ---- what the emitters of contents and bodies leave

module _ (s : List ℕ) (lib : TypeLib) where
  -- the library's own body
  abbrev pub header_emitted : Answer Bytes
  header_emitted = value (encode header (header_of s lib))

  -- the whole sheet, from the output's first byte
  abbrev pub SheetPut : ℕ → List ℕ → ℕ → List ℕ → Type 0
  SheetPut most o r o' = Within most r o o' (Emitted (sheet_emitted s lib) (put 0) o (put r) o')

  -- the bodies of all types from the place `to`, and their lengths in the contents, from the eighth byte
  abbrev pub BodiesPut : ℕ → ℕ → List ℕ → ℕ → List ℕ → Type 0
  BodiesPut most to o r o' =
      Within most r o o' (Twofold (lens_of (type_info edition-one (type_count lib)) (types_from s lib (type_count lib) 0)) (bodies_emitted s lib) 8 (put to) o (put r) o')

-- a call that was to write x into an output that held o: its reply, and the output after it
pub record Answered (x : Answer Bytes) (o : List ℕ) (r : Answer ℕ) (o' : List ℕ) : Type 0 where
  pub replies : r ≡ map length (bind x (within (length o)))
  pub leaves : o' ≡ written o (bind x (within (length o)))

-- x ends at `size`, and stands at the front of e where it is no longer than that
pub record Made (x : Answer Bytes) (size : ℕ) (e : List ℕ) : Type 0 where
  pub measured : put size ≡ moved (put 0) x
  pub made : size ≤ limit → size ≤ length e → value (take size e) ≡ x
