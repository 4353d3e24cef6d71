-- References that hit no typeinfo (document 02, §4): which these are, and how the description and `resolve_hreftype_full` stand to each
-- other.
-- Assumes nothing.
use Rattle.std.specs.Prelude.{◌≡◌, refl, Bool, true, false, not, ◌&&◌, List, ℕ, ◌%◌, ◌<◌, eqb}
use Rattle.std.proofs.Common.{arith, leb-false, eq-eqb, eqb-true, ne_eqb}
use Rattle.std.proofs.lemmas.Bool.{lt-leb, eqb-false}
use Rattle.records.specs.Answer.{value, refused}
use Rattle.records.specs.Record.{bits_of}
use Rattle.typelib.specs.declared.TypeLib.{TypeLib}
use Rattle.typelib.specs.Tables.{negative}
use Rattle.typelib.specs.References.{in_this_file, cleared, href_resolved}
use Rattle.description.specs.Description.Reference.{misplaced}
use Rattle.describe.specs.References.{is_misplaced, misplaced_offset, reference_from, reference_of}

-- "a reference not negative, with its low two bits clear, that is not a multiple of 100 after the 0x01000000 bit is cleared"
pub record HitsNone (h : ℕ) : Type 0 where
  pub not_negative : h < 0x80000000
  pub low_bits_clear : h % 4 ≡ 0
  pub no_multiple : cleared h % 100 ≡ 0 → ⊥

-- the test `is_misplaced` is these words
pub misplaced-if : (h : ℕ) → HitsNone h → is_misplaced h ≡ true
unfolding is_misplaced
misplaced-if h n = rw (lt-leb 0x80000000 h n.not_negative, eq-eqb (h % 4) 0 n.low_bits_clear, ne_eqb (cleared h % 100) 0 n.no_multiple)

pub misplaced-only-if : (h : ℕ) → is_misplaced h ≡ true → HitsNone h
unfolding is_misplaced
misplaced-only-if h e = by (negative h) (in_this_file h) (eqb (cleared h % 100) 0) refl refl refl e
  where
    by : (x y z : Bool) → negative h ≡ x → in_this_file h ≡ y → eqb (cleared h % 100) 0 ≡ z → not x && (y && not z) ≡ true → HitsNone h
    by true y z f g k t = absurd (let w : ◌≡◌ {A = ℕ} 0 1 = cc in omega arith)
    by false false z f g k t = absurd (let w : ◌≡◌ {A = ℕ} 0 1 = cc in omega arith)
    by false true true f g k t = absurd (let w : ◌≡◌ {A = ℕ} 0 1 = cc in omega arith)
    by false true false f g k t = record {
      not_negative = leb-false 0x80000000 h f;
      low_bits_clear = eqb-true (h % 4) 0 g;
      no_multiple = eqb-false (cleared h % 100) 0 k;
    }

not-misplaced : (h : ℕ) → (HitsNone h → ⊥) → is_misplaced h ≡ false
not-misplaced h n = by (is_misplaced h) refl
  where
    by : (x : Bool) → is_misplaced h ≡ x → x ≡ false
    by true e = absurd (n (misplaced-only-if h e))
    by false e = refl

-- so a number is replied just for the references that have code 3 (`code-three`), and it is the number there
pub offset-there : (h : ℕ) → HitsNone h → value (cleared h) ≡ misplaced_offset h
unfolding misplaced_offset
offset-there h n = rw (misplaced-if h n)

pub offset-missing : (h : ℕ) → (HitsNone h → ⊥) → refused 9 ≡ misplaced_offset h
unfolding misplaced_offset
offset-missing h n = rw (not-misplaced h n)

module _ (s : List ℕ) (lib : TypeLib) (h : ℕ) where
  -- such a reference has code 3 in the description, whatever `resolve_hreftype_full` says of it
  pub code-three : HitsNone h → misplaced (record { bit = bits_of 24 1 h; offset = cleared h }) ≡ reference_of s lib h
  unfolding reference_of
  code-three n = rw (misplaced-if h n)

  -- every other has what the answer of `resolve_hreftype_full` gives
  pub as-resolved : (HitsNone h → ⊥) → reference_from s lib (bits_of 24 1 h) (href_resolved s lib h) ≡ reference_of s lib h
  unfolding reference_of
  as-resolved n = rw (not-misplaced h n)
