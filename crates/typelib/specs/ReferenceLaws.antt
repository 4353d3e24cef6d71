-- Laws of `References`, a case each. Assumes nothing.
use Rattle.std.specs.Prelude.{◌≡◌, List, ℕ, ◌/◌, ◌%◌, ◌≤◌, ◌<◌, ◌-◌, ◌^◌}
use borrow.Author.Tests.{le-ltb, lt-ltb, eq-eqb, le-leb, lt-leb, ne_eqb}
use Rattle.records.specs.Answer.{Answer, value, refused, map}
use Rattle.typelib.specs.declared.TypeLib.{TypeLib}
use Rattle.typelib.specs.Header.{type_count}
use Rattle.typelib.specs.References.{internal_index, Resolved, internal, resolved_at, href_index, dispatch_bit, cleared, import_at}
use Rattle.std.proofs.Common.{sym, ◌∙◌, arith}

module _ (count h : ℕ) where
  pub index-there : h / 100 < count → value (h / 100) ≡ internal_index count h
  unfolding internal_index
  index-there k = rw (lt-ltb (h / 100) count k)

  pub index-beyond : count ≤ h / 100 → refused 9 ≡ internal_index count h
  unfolding internal_index
  index-beyond k = rw (le-ltb (h / 100) count k)

module _ (s : List ℕ) (lib : TypeLib) (h : ℕ) where
  pub resolved-internal : (a : Answer Resolved) → h % 4 ≡ 0 → a ≡ map internal (internal_index (type_count lib) h) → a ≡ resolved_at s lib h
  unfolding resolved_at
  resolved-internal a z e = rw (eq-eqb (h % 4) 0 z) e

-- ---- the same by cases

module _ (lib : TypeLib) (h : ℕ) where
  pub href-negative : 0x80000000 ≤ h → refused 9 ≡ href_index lib h
  unfolding href_index
  href-negative k = rw (le-leb 0x80000000 h k)

  pub href-internal : (a : Answer ℕ) → h < 0x80000000 → h % 4 ≡ 0 → a ≡ internal_index (type_count lib) h → a ≡ href_index lib h
  unfolding href_index
  href-internal a k z e = rw (lt-leb 0x80000000 h k, eq-eqb (h % 4) 0 z) e

  pub href-import : h < 0x80000000 → (h % 4 ≡ 0 → ⊥) → refused 9 ≡ href_index lib h
  unfolding href_index
  href-import k z = rw (lt-leb 0x80000000 h k, ne_eqb (h % 4) 0 z)

-- the low two bits, as the code takes them
pub low_bits : (h r : ℕ) → r ≡ h / 2 ^ 0 % 2 ^ 2 → r ≡ h % 4
low_bits h r e = omega arith

module _ (s : List ℕ) (lib : TypeLib) (h : ℕ) where
  pub resolved-import : (a : Answer Resolved) → (h % 4 ≡ 0 → ⊥) → a ≡ import_at s lib (h - h % 4) → a ≡ resolved_at s lib h
  unfolding resolved_at
  resolved-import a z e = rw (ne_eqb (h % 4) 0 z) e

pub cleared-set : (h b : ℕ) → b ≡ 1 → b ≡ h / 2 ^ 24 % 2 ^ 1 → h - dispatch_bit ≡ cleared h
cleared-set h b o e =
    let f : h / 16777216 % 2 ≡ 1 = sym e ∙ o in
    rw (eq-eqb (h / 16777216 % 2) 1 f)

pub cleared-clear : (h b : ℕ) → (b ≡ 1 → ⊥) → b ≡ h / 2 ^ 24 % 2 ^ 1 → h ≡ cleared h
cleared-clear h b o e = rw (ne_eqb (h / 16777216 % 2) 1 (λ f. o (e ∙ f)))
