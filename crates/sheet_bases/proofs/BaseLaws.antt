-- What a type is based on: its emissions, one behind the other, are those of its format. Assumes nothing.
use Rattle.typelib.specs.Header.{type_count}
use Rattle.std.specs.Prelude.{◌≡◌, refl, List, [], ◌∷◌, ◌++◌, ℕ, zero, suc, ◌+◌, ◌≤◌, ◌<◌, length, drop}
use Rattle.std.proofs.Common.{sym, ap, ◌∙◌, add-one, arith, drop_of_length-le, drop-cons}
use Rattle.std.proofs.lemmas.List.{length-map}
use mathlib.Core.List as lists
use Rattle.util.specs.Read.{read, or_zero}
use Rattle.records.specs.declared.answer.Place.{Place}
use Rattle.records.specs.declared.typeinfo.TypeInfoEntry.{TypeInfoEntry}
use Rattle.records.specs.Answer.{Answer, value, refused, map}
use Rattle.typelib.specs.declared.TypeLib.{TypeLib}
use Rattle.impltypes.specs.declared.ImplTypeCursor.{ImplTypeCursor}
use Rattle.impltypes.specs.Chain.{ChainAt, over_impl_types, impl_types_of, offset_at, walk_of, place_at, records_from, stands_at, impl_type_next, impl_type_step}
use Rattle.impltypes.specs.ChainLaws.{walk-took, next-along}
use Rattle.cursors.specs.Numbers.{item, stop, yielded, ended}
use Rattle.cursors.specs.NumberLaws.{step-yields, step-ends}
use Rattle.typelib.specs.Tabulate.{tabulate, length-tabulate, get_d_tabulate}
use Rattle.description.specs.Format.{encode, list, joined, le_bytes}
use Rattle.description.specs.Description.{BaseShape, base_shape_of}
use Rattle.description.specs.Description.BaseShape.{absent, parent, impl_types, aliased}
use Rattle.description.specs.Sheet.{edition-one, u32, reference, tree, impl_type}
use Rattle.describe.specs.References.{reference_of}
use Rattle.describe.specs.Trees.{tree_of}
use Rattle.describe.specs.Types.{impl_type_at, impl_types_at}
use Rattle.emit.specs.Emit.{◌▸◌}
use Rattle.sheet_bases.specs.Bases.{shape_emitted, base_emitted, chain_emitted, links_bytes}

module _ (s : List ℕ) (lib : TypeLib) where
  -- ---- the chain

  pub link-is : (p : Place) {href : ℕ} → href ≡ or_zero (read 4 s (p.at + 0))
      → value (encode (reference edition-one (type_count lib)) (reference_of s lib href)) ▸ value (le_bytes 4 (or_zero (read 4 s (p.at + 4))))
      ≡ value (encode (impl_type edition-one (type_count lib)) (impl_type_at s lib p))
  unfolding impl_type
  link-is p {href} e = rw e

  module _ (c : ImplTypeCursor) (n : ℕ) where
    abbrev from : ChainAt
    from = over_impl_types.stands c

    -- the cursor stands at the k-th record
    pub record At (k : ℕ) (d : ImplTypeCursor) : Type 0 where
      pub is : over_impl_types.stands d ≡ stands_at s from k
      pub most : k ≤ n

    pub at-start : At 0 c
    unfolding offset_at
    at-start = record { is = refl; most = omega arith }

    module _ (walked : value n ≡ walk_of s c) (k : ℕ) (h : k < n) {d : ImplTypeCursor} (a : At k d) where
      along : item (place_at s from k) (stands_at s from (suc k)) ≡ impl_type_next s (over_impl_types.stands d)
      along = let w = (walk-took s from n).0 walked in next-along s from k w.0 (w.1.passes k h) ∙ ap (impl_type_next s) (sym a.is)

      stepped : {p : Place} {m : ℕ} {e : ImplTypeCursor} → yielded p m e ≡ impl_type_step s d → item p (over_impl_types.stands e) ≡ item (place_at s from k) (stands_at s from (suc k))
      stepped {p} {m} {e} q = (step-yields over_impl_types (impl_type_next s) d e p m q).found ∙ sym along

      pub at_next : {p : Place} {m : ℕ} {e : ImplTypeCursor} → yielded p m e ≡ impl_type_step s d → At (k + 1) e
      at_next {e = e} q =
          let g : over_impl_types.stands e ≡ stands_at s from (suc k) = let z = stepped q in cc in
          record { is = g ∙ ap (stands_at s from) (sym (add-one k)); most = omega arith }

      pub at_place : {p : Place} {m : ℕ} {e : ImplTypeCursor} → yielded p m e ≡ impl_type_step s d → p ≡ place_at s from k
      at_place q = let z = stepped q in cc

      -- the walk took it, so it is there
      pub at-end : {X : Type 0} {m : ℕ} {e : ImplTypeCursor} → ended m e ≡ impl_type_step s d → X
      at-end {X} {m} {e} q =
          let z : item (place_at s from k) (stands_at s from (suc k)) ≡ stop m (over_impl_types.stands e) = along ∙ sym (step-ends over_impl_types (impl_type_next s) d e m q).none in
          absurd (let y : ◌≡◌ {A = ℕ} 0 1 = cc in omega arith)

    pub links-more : (k : ℕ) {p : Place} → k < n → p ≡ place_at s from k
        → value (links_bytes s lib c n k) ≡ value (encode (impl_type edition-one (type_count lib)) (impl_type_at s lib p)) ▸ value (links_bytes s lib c n (k + 1))
    unfolding links_bytes
    links-more k {p} h e =
        let l : k < length (tabulate (place_at s from) n) = omega (arith, length-tabulate (place_at s from) n) in
        let q : drop k (tabulate (place_at s from) n) ≡ place_at s from k ∷ drop (k + 1) (tabulate (place_at s from) n) =
        rw (add-one k) (drop-cons (tabulate (place_at s from) n) k (place_at s from k) l ∙ ap (λ x. x ∷ drop (suc k) (tabulate (place_at s from) n)) (get_d_tabulate (place_at s from) n k (place_at s from k) h)) in
        rw (q, e)

    pub links-none : (k : ℕ) → n ≤ k → value (links_bytes s lib c n k) ≡ value []
    unfolding links_bytes
    links-none k h = rw (drop_of_length-le (tabulate (place_at s from) n) {i = k} (omega (arith, length-tabulate (place_at s from) n)))

    pub walked-is : (a : Answer ℕ) → a ≡ walk_of s c → a ≡ value n → value (le_bytes 4 n) ▸ value (links_bytes s lib c n 0) ≡ chain_emitted s lib c
    unfolding chain_emitted records_from links_bytes
    walked-is a e f =
        let q : walk_of s c ≡ value n = sym e ∙ f in
        let l : length (lists.map (impl_type_at s lib) (tabulate (place_at s from) n)) ≡ n =
        length-map (tabulate (place_at s from) n) (impl_type_at s lib) ∙ length-tabulate (place_at s from) n in
        rw q (ap (λ m. value (le_bytes 4 m ++ joined (impl_type edition-one (type_count lib)) (lists.map (impl_type_at s lib) (tabulate (place_at s from) n)))) (sym l))

  pub walked-refused : (c : ImplTypeCursor) (a : Answer ℕ) {n : ℕ} → a ≡ walk_of s c → a ≡ refused n → refused n ≡ chain_emitted s lib c
  unfolding chain_emitted records_from
  walked-refused c a {n} e f = let q : walk_of s c ≡ refused n = sym e ∙ f in rw q

  module _ (ti : TypeInfoEntry) (a : Answer ImplTypeCursor) (e : a ≡ impl_types_of s lib ti) where
    pub chain-is : {c : ImplTypeCursor} → a ≡ value c → chain_emitted s lib c ≡ map (encode (list u32 (impl_type edition-one (type_count lib)))) (impl_types_at s lib ti)
    unfolding chain_emitted impl_types_at
    chain-is {c} f = let q : impl_types_of s lib ti ≡ value c = sym e ∙ f in rw q

    pub chain-refused : {n : ℕ} → a ≡ refused n → refused n ≡ map (encode (list u32 (impl_type edition-one (type_count lib)))) (impl_types_at s lib ti)
    unfolding impl_types_at
    chain-refused {n} f = let q : impl_types_of s lib ti ≡ refused n = sym e ∙ f in rw q

  -- ---- the base, by its kind

  module _ (ti : TypeInfoEntry) where
    shaped : (k : ℕ) (h : BaseShape) → base_shape_of k ≡ h → shape_emitted s lib ti h ≡ base_emitted s lib ti k
    unfolding base_emitted
    shaped k h e = ap (shape_emitted s lib ti) (sym e)

    parent-shape : (k : ℕ) → 3 ≤ k → k < 5 → base_shape_of k ≡ parent
    parent-shape zero a b = absurd (omega (arith, a))
    parent-shape (suc zero) a b = absurd (omega (arith, a))
    parent-shape (suc (suc zero)) a b = absurd (omega (arith, a))
    parent-shape (suc (suc (suc zero))) a b = refl
    parent-shape (suc (suc (suc (suc zero)))) a b = refl
    parent-shape (suc (suc (suc (suc (suc k))))) a b = absurd (omega (arith, b))

    pub base-parent : {x : ℕ} (k : ℕ) → x ≡ or_zero (read 4 s (ti.at + 84)) → 3 ≤ k → k < 5
        → value (encode (reference edition-one (type_count lib)) (reference_of s lib x)) ≡ base_emitted s lib ti k
    unfolding shape_emitted
    base-parent {x} k e g h = ap (λ y. value (encode (reference edition-one (type_count lib)) (reference_of s lib y))) e ∙ shaped k parent (parent-shape k g h)

    pub base-chain : (k : ℕ) → k ≡ 5 → map (encode (list u32 (impl_type edition-one (type_count lib)))) (impl_types_at s lib ti) ≡ base_emitted s lib ti k
    unfolding shape_emitted
    base-chain k h = shaped k impl_types (ap base_shape_of h)

    pub base-aliased : {x : ℕ} (k : ℕ) → x ≡ or_zero (read 4 s (ti.at + 84)) → k ≡ 6
        → map (encode (tree edition-one (type_count lib))) (tree_of s lib x) ≡ base_emitted s lib ti k
    unfolding shape_emitted
    base-aliased {x} k e h = ap (λ y. map (encode (tree edition-one (type_count lib))) (tree_of s lib y)) e ∙ shaped k aliased (ap base_shape_of h)

    pub absent-shape : (k : ℕ) → (k ≡ 3 → ⊥) → (k ≡ 4 → ⊥) → (k ≡ 5 → ⊥) → (k ≡ 6 → ⊥) → base_shape_of k ≡ absent
    absent-shape zero a b c d = refl
    absent-shape (suc zero) a b c d = refl
    absent-shape (suc (suc zero)) a b c d = refl
    absent-shape (suc (suc (suc zero))) a b c d = absurd (a refl)
    absent-shape (suc (suc (suc (suc zero)))) a b c d = absurd (b refl)
    absent-shape (suc (suc (suc (suc (suc zero))))) a b c d = absurd (c refl)
    absent-shape (suc (suc (suc (suc (suc (suc zero)))))) a b c d = absurd (d refl)
    absent-shape (suc (suc (suc (suc (suc (suc (suc k))))))) a b c d = refl

    pub base-absent : (k : ℕ) → (k ≡ 3 → ⊥) → (k ≡ 4 → ⊥) → (k ≡ 5 → ⊥) → (k ≡ 6 → ⊥) → value [] ≡ base_emitted s lib ti k
    unfolding shape_emitted
    base-absent k a b c d = shaped k absent (absent-shape k a b c d)
