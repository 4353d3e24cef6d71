-- The figures of what a type is based on. Assumes nothing.
use mathlib.Core.Path.{◌≡◌, refl, sym, ap, ◌∙◌}
use mathlib.Core.List.{List, ◌++◌}
use mathlib.Core.List as lists
use Prim.Native.Nat.{ℕ, zero, suc, ◌+◌, ◌≤◌, ◌<◌}
use native.Mathlib.Omega.{arith}
use lib.ListN.{length, length-map}
use Rattle.util.specs.Read.{read, or_zero}
use Rattle.records.specs.declared.typeinfo.TypeInfoEntry.{TypeInfoEntry}
use Rattle.records.specs.Answer.{Answer, value, refused, map}
use Rattle.typelib.specs.declared.TypeLib.{TypeLib}
use Rattle.typelib.specs.Header.{type_count}
use Rattle.typelib.specs.Tabulate.{tabulate, length-tabulate}
use Rattle.impltypes.specs.declared.ImplTypeCursor.{ImplTypeCursor}
use Rattle.impltypes.specs.Chain.{over_impl_types, impl_types_of, place_at, records_from, walk_of}
use Rattle.description.specs.Format.{joined, le_bytes}
use Rattle.description.specs.Description.{BaseShape, base_shape_of}
use Rattle.description.specs.Description.BaseShape.{absent, parent, impl_types, aliased}
use Rattle.description.specs.Figures.{Figures, base_references}
use Rattle.description.specs.Sheet.{edition-one, impl_type}
use Rattle.describe.specs.Types.{impl_type_at, impl_types_at, base_of}
use Rattle.sheet_bases.specs.Bases.{links_bytes}
use Rattle.sheet_bases.proofs.BaseLaws.{absent-shape}
use Rattle.sheet_sizes.specs.Counts.{figures, none}
use Rattle.sheet_sizes.specs.Counted.{base_figures, reference_counted, tree_counted, chain_counted, impl_types_counted, base_counted}

module _ (s : List ℕ) (lib : TypeLib) where
  -- ---- the chain

  -- a walk that took n records, a reference each
  pub walked-counts : (c : ImplTypeCursor) (n : ℕ) → value n ≡ walk_of s c → value (figures (length (le_bytes 4 n ++ links_bytes s lib c n 0)) 0 0 0 n) ≡ chain_counted s lib c
  unfolding chain_counted records_from links_bytes
  walked-counts c n e =
      let f = impl_type_at s lib in
      let at = tabulate (place_at s (over_impl_types.stands c)) n in
      let l : length (lists.map f at) ≡ n = length-map at f ∙ length-tabulate (place_at s (over_impl_types.stands c)) n in
      rw (← e) (ap (λ (m : ℕ). value (figures (length (le_bytes 4 m ++ joined (impl_type edition-one (type_count lib)) (lists.map f at))) 0 0 0 m)) (sym l))

  pub walked-refused : (c : ImplTypeCursor) {n : ℕ} → refused n ≡ walk_of s c → refused n ≡ chain_counted s lib c
  unfolding chain_counted records_from
  walked-refused c e = rw (← e)

  module _ (ti : TypeInfoEntry) (a : Answer ImplTypeCursor) (e : a ≡ impl_types_of s lib ti) where
    pub chain-is : {c : ImplTypeCursor} → a ≡ value c → chain_counted s lib c ≡ impl_types_counted s lib ti
    unfolding chain_counted impl_types_counted impl_types_at
    chain-is {c} f = let q : impl_types_of s lib ti ≡ value c = sym e ∙ f in rw q

    pub chain-refused : {n : ℕ} → a ≡ refused n → refused n ≡ impl_types_counted s lib ti
    unfolding impl_types_counted impl_types_at
    chain-refused {n} f = let q : impl_types_of s lib ti ≡ refused n = sym e ∙ f in rw q

  -- ---- the base, by its kind

  module _ (ti : TypeInfoEntry) where
    abbrev shape : BaseShape → Answer Figures
    shape h = map (base_figures (type_count lib) h) (base_of s lib ti h)

    shaped : (k : ℕ) (h : BaseShape) → base_shape_of k ≡ h → shape h ≡ base_counted s lib ti k
    unfolding base_counted
    shaped k h e = ap shape (sym e)

    parent-shape : (k : ℕ) → 3 ≤ k → k < 5 → base_shape_of k ≡ parent
    parent-shape zero a b = absurd (omega (arith, a))
    parent-shape (suc zero) a b = absurd (omega (arith, a))
    parent-shape (suc (suc zero)) a b = absurd (omega (arith, a))
    parent-shape (suc (suc (suc zero))) a b = refl
    parent-shape (suc (suc (suc (suc zero)))) a b = refl
    parent-shape (suc (suc (suc (suc (suc k))))) a b = absurd (omega (arith, b))

    pub base-parent : {x : ℕ} (k : ℕ) → x ≡ or_zero (read 4 s (ti.at + 84)) → 3 ≤ k → k < 5 → reference_counted s lib x ≡ base_counted s lib ti k
    unfolding reference_counted base_references
    base-parent {x} k e g h = rw e (shaped k parent (parent-shape k g h))

    pub base-chain : (k : ℕ) → k ≡ 5 → impl_types_counted s lib ti ≡ base_counted s lib ti k
    unfolding impl_types_counted base_references
    base-chain k h = shaped k impl_types (ap base_shape_of h)

    pub base-aliased : {x : ℕ} (k : ℕ) → x ≡ or_zero (read 4 s (ti.at + 84)) → k ≡ 6 → tree_counted s lib x ≡ base_counted s lib ti k
    unfolding tree_counted base_references
    base-aliased {x} k e h = rw e (shaped k aliased (ap base_shape_of h))

    pub base-absent : (k : ℕ) → (k ≡ 3 → ⊥) → (k ≡ 4 → ⊥) → (k ≡ 5 → ⊥) → (k ≡ 6 → ⊥) → value none ≡ base_counted s lib ti k
    unfolding base_references
    base-absent k a b c d = shaped k absent (absent-shape s lib ti k a b c d)
