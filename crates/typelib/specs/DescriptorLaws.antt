-- Laws of `Descriptors`, a case each. Assumes nothing.
use Rattle.std.specs.Prelude.{◌≡◌, List, ℕ, ◌≤◌, ◌<◌}
use Rattle.std.proofs.Common.{sym, ◌∙◌, ap, le-leb, ne_eqb}
use Rattle.std.proofs.lemmas.Bool.{lt-leb}
use Rattle.records.specs.Answer.{Answer, value, bind}
use Rattle.records.specs.Record.{bits_of}
use Rattle.records.specs.declared.types.TypeDescription.{TypeDescription}
use Rattle.records.specs.declared.types.TypeDescription.TheVariants as type
use Rattle.typelib.specs.declared.TypeLib.{TypeLib}
use Rattle.typelib.specs.Descriptors.{type_desc_at, description_of, type_description}

-- a code that has no case of its own
pub description-base : (s : List ℕ) (lib : TypeLib) (code second : ℕ) → (code ≡ 26 → ⊥) → (code ≡ 27 → ⊥) → (code ≡ 28 → ⊥) → (code ≡ 29 → ⊥) → value (type.Base code) ≡ description_of s lib code second
unfolding description_of
description-base s lib code second a b c d = rw (ne_eqb code 26 a, ne_eqb code 27 b, ne_eqb code 28 c, ne_eqb code 29 d)

-- a code that has one
pub description-case : (k : ℕ) (s : List ℕ) (lib : TypeLib) (code second : ℕ) (a : Answer TypeDescription) → code ≡ k → a ≡ description_of s lib k second → a ≡ description_of s lib code second
description-case k s lib code second a e h = h ∙ ap (λ (n : ℕ). description_of s lib n second) (sym e)

module _ (s : List ℕ) (lib : TypeLib) (field : ℕ) where
  pub field-base : (code : ℕ) → 0x80000000 ≤ field → code ≡ bits_of 0 12 field → value (type.Base code) ≡ type_description s lib field
  unfolding type_description
  field-base code h e = rw (le-leb 0x80000000 field h) (ap (λ (n : ℕ). value (type.Base n)) e)

  pub field-entry : (a : Answer TypeDescription) → field < 0x80000000 → a ≡ bind (type_desc_at s lib field) (λ w. description_of s lib (bits_of 0 12 w.first) w.second) → a ≡ type_description s lib field
  unfolding type_description
  field-entry a h e = rw (lt-leb 0x80000000 field h) e
