-- A tree's figures are those of its descriptions, one behind the other. Assumes nothing.
use Rattle.std.specs.Prelude.{Option, Some, None}
use mathlib.Core.Path.{◌≡◌, refl, sym, ap, ap₂, ◌∙◌}
use mathlib.Core.List.{List, [], ◌∷◌}
use Prim.Native.Nat.{ℕ, zero, suc, ◌+◌, ◌*◌, ◌-◌, ◌/◌, ◌%◌, ◌^◌, ◌≤◌, ◌<◌}
use native.Mathlib.Omega.{arith}
use lib.ListN.{length, length-append}
use mir.Syntax.{w32}
use mir.Val.{to_z, of_z, Fits}
use mir.ValLaws.{of_z-to_z}
use Rattle.records.specs.declared.types.TypeDescription.{TypeDescription}
use Rattle.records.specs.declared.types.TypeDescription.TheVariants as type
use Rattle.records.specs.Answer.{Answer, value, refused, map}
use Rattle.records.specs.Layout.{array_desc}
use Rattle.records.specs.Record.{limit, bits_of}
use Rattle.typelib.specs.TableLaws.{lent-long, lent_fits}
use Rattle.typelib.specs.DescriptorLaws.{field-base}
use Rattle.records.specs.declared.answer.Place.{Place}
use Rattle.util.specs.Read.{cond-elim}
use lib.Dec.{eqb}
use borrow.Author.Tests.{ne_eqb, eqb-false}
use Rattle.typelib.specs.declared.TypeLib.{TypeLib}
use Rattle.typelib.specs.Header.{type_count}
use Rattle.typelib.specs.Tables.{lent}
use Rattle.typelib.specs.Descriptors.{array_desc_at, description_of, type_description}
use Rattle.description.specs.Format.{encode, le_bytes, length-le_bytes}
use Rattle.description.specs.Description.{Tree}
use Rattle.description.specs.Description.Tree.{pointer, safe_array, c_array}
use Rattle.description.specs.Figures.{Figures, tree_references}
use Rattle.description.specs.Sheet.{edition-one, level, nested, tree}
use Rattle.describe.specs.Values.{field_of}
use Rattle.describe.specs.Trees.{dimensions_of, tree_from, nested_of, tree_of}
use Rattle.sheet_trees.proofs.TreeLaws.{array-tree}
use Rattle.emit.specs.Emit.{Put, At, past, put, advance, moved}
use Rattle.emit.specs.Laws.{advance-none, put-at, put_refused, place_is}
use Rattle.sheet_trees.specs.declared.trees.Level.{Level}
use Rattle.sheet_trees.specs.Emitted.{user_bytes}
use Rattle.sheet_trees.specs.Parts.{array_bytes, head_bytes, inner_of, Levelled}
use Rattle.sheet_sizes.specs.Counts.{Measured, figures, ◌⊕◌, ends, Ending}
use Rattle.sheet_sizes.proofs.CountLaws.{ahead-measured, known-e, then-e, bytes-e, references-e, refusing-e}
use Rattle.sheet_sizes.specs.Counts.{none as nil}
use Rattle.sheet_sizes.specs.Counted.{nested_figures, tree_figures, nested_counted, tree_counted}
use Rattle.sheet_sizes.specs.Trees.{own_references, LevelCounted, NestedCounted, Under}

advance-most : (to n : ℕ) → to ≤ past → advance to n ≤ past
unfolding advance
advance-most to n h = omega arith

pub ahead-most : (to n : ℕ) {r : ℕ} → to ≤ past → r ≡ advance to n → r ≤ past
ahead-most to n h e = omega (arith, e, advance-most to n h)

module _ (s : List ℕ) (lib : TypeLib) where
  abbrev N : ℕ
  N = type_count lib

  -- one description, without the tree under it
  abbrev own : Answer TypeDescription → Figures
  own a = figures (length (head_bytes s lib a)) 0 0 0 (own_references a)

  abbrev rest : ℕ → (ℕ → Answer Tree) → Option ℕ → Answer Figures
  rest k below None = value nil
  rest k below (Some field) = map (nested_figures N k) (below field)

  -- a description with nothing under it
  closes : (n r : ℕ) → value (figures n 0 0 0 r) ≡ value (figures n 0 0 0 r) ⊕ value nil
  closes n r = let a : n + 0 ≡ n = omega arith in let b : r + 0 ≡ r = omega arith in rw (a, b)

  -- one with a tree under it
  wrapped : (k : ℕ) (w : Tree → Tree) (n : ℕ) → ((t : Tree) → length (encode (nested edition-one N (suc k)) (w t)) ≡ n + length (encode (nested edition-one N k) t))
      → ((t : Tree) → tree_references (w t) ≡ tree_references t) → (a : Answer Tree)
      → map (nested_figures N (suc k)) (map w a) ≡ value (figures n 0 0 0 0) ⊕ map (nested_figures N k) a
  wrapped k w n h g (value t) =
      let e : tree_references (w t) ≡ 0 + tree_references t = omega (arith, g t) in
      ap₂ (λ (i j : ℕ). value (figures i 0 0 0 j)) (h t) e
  wrapped k w n h g (refused m) = refl

  array-length : (k at : ℕ) (t : Tree) → length (encode (nested edition-one N (suc k)) (c_array (dimensions_of s at) t)) ≡ length (array_bytes s at) + length (encode (nested edition-one N k) t)
  array-length k at t = ap length (array-tree s lib k at t) ∙ length-append (array_bytes s at) (encode (nested edition-one N k) t)

  one_more : (n : ℕ) → suc n ≡ 1 + n
  one_more n = omega arith

  laid : (k : ℕ) (below : ℕ → Answer Tree) (a : Answer TypeDescription)
      → map (nested_figures N (suc k)) (tree_from s lib below a) ≡ value (own a) ⊕ rest k below (inner_of s a)
  unfolding tree_from head_bytes inner_of nested level tree_references
  laid k below (value (type.Base vt)) = closes (length (1 ∷ le_bytes 2 vt)) 0
  laid k below (value (type.Pointer x)) = wrapped k pointer 1 (λ t. one_more _) (λ t. refl) (below (of_z w32 x))
  laid k below (value (type.SafeArray x)) = wrapped k safe_array 1 (λ t. one_more _) (λ t. refl) (below (of_z w32 x))
  laid k below (value (type.CArray d)) =
      wrapped k (c_array (dimensions_of s d.at)) (length (array_bytes s d.at)) (array-length k d.at) (λ t. refl) (below (field_of array_desc "element type" s d.at))
  laid k below (value (type.UserDefined x)) = closes _ 1
  laid k below (refused n) = closes 1 0

  module _ (n field : ℕ) where
    pub too-deep : n ≡ 0 → refused 11 ≡ nested_counted s lib n field
    unfolding nested_counted nested_of
    too-deep e = rw e

    -- a description, and what is under it
    pub step : (n ≡ 0 → ⊥) → nested_counted s lib n field ≡ value (own (lent s (type_description s lib field))) ⊕ rest (n - 1) (nested_of s lib (n - 1)) (inner_of s (lent s (type_description s lib field)))
    unfolding nested_counted nested_of
    step = by n
      where
        by : (m : ℕ) → (m ≡ 0 → ⊥) → map (nested_figures N m) (nested_of s lib m field) ≡ value (own (lent s (type_description s lib field))) ⊕ rest (m - 1) (nested_of s lib (m - 1)) (inner_of s (lent s (type_description s lib field)))
        by zero p = absurd (p refl)
        by (suc m) p = let f : suc m - 1 ≡ m = omega arith in rw f (laid m (nested_of s lib m) (lent s (type_description s lib field)))

  pub whole-tree : (field : ℕ) → nested_counted s lib 32 field ≡ tree_counted s lib field
  unfolding nested_counted tree_counted tree
  whole-tree field = by (tree_of s lib field)
    where
      by : (a : Answer Tree) → map (nested_figures N 32) a ≡ map (tree_figures N) a
      by (value t) = refl
      by (refused n) = refl

  -- a negative field is a base type
  module _ (field : ℕ) where
    headed : (a : Answer TypeDescription) → a ≡ lent s (type_description s lib field) → inner_of s a ≡ None → value (own a) ≡ tree_counted s lib field
    headed a e f =
        closes _ _
        ∙ ap (λ (i : Option ℕ). value (own a) ⊕ rest 31 (nested_of s lib 31) i) (sym f)
        ∙ ap (λ (x : Answer TypeDescription). value (own x) ⊕ rest 31 (nested_of s lib 31) (inner_of s x)) e
        ∙ sym (step 32 field (λ z. omega (arith, z)))
        ∙ whole-tree field

    pub inline-long : limit < length s → value (figures 1 0 0 0 0) ≡ tree_counted s lib field
    unfolding head_bytes inner_of
    inline-long h = headed (refused 1) (lent-long _ _ h) refl

    pub inline-base : 0x80000000 ≤ field → length s ≤ limit → value (figures 3 0 0 0 0) ≡ tree_counted s lib field
    unfolding head_bytes inner_of
    inline-base k h =
        ap (λ (n : ℕ). value (figures (suc n) 0 0 0 0)) (sym (length-le_bytes 2 (bits_of 0 12 field)))
        ∙ headed (value (type.Base (bits_of 0 12 field))) (lent_fits _ _ _ h (field-base s lib field (bits_of 0 12 field) k refl)) refl

  -- ---- a description, and the number that stands for a place and a reference

  module _ (a : Answer TypeDescription) where
    -- what is under a description is under no reference
    no-reference : {below : ℕ} → inner_of s a ≡ Some below → own_references a ≡ 0
    unfolding inner_of
    no-reference {below} = by a
      where
        by : (a : Answer TypeDescription) → inner_of s a ≡ Some below → own_references a ≡ 0
        by (value (type.Base vt)) h = refl
        by (value (type.Pointer x)) h = refl
        by (value (type.SafeArray x)) h = refl
        by (value (type.CArray d)) h = refl
        by (value (type.UserDefined x)) h = absurd (let z : ◌≡◌ {A = ℕ} 0 1 = cc in omega arith)
        by (refused n) h = refl

  -- where a description ends, and how many references it is
  module _ (to : ℕ) (few : to ≤ past) where
    own-counted : (a : Answer TypeDescription) (r n : ℕ) → r ≡ advance to (length (head_bytes s lib a)) + 2 ^ 32 * own_references a
        → Ending (value (own a)) (ends to n) (ends (r % 2 ^ 32) (advance n (r / 2 ^ 32)))
    own-counted a r n e =
        let m : advance to (length (head_bytes s lib a)) ≤ past = advance-most to (length (head_bytes s lib a)) few in
        let p : r % 2 ^ 32 ≡ advance to (length (head_bytes s lib a)) = omega (arith, e, m) in
        let q : r / 2 ^ 32 ≡ own_references a = omega (arith, e, m) in
        rw (p, q) (references-e to (advance to (length (head_bytes s lib a))) n (own_references a) (ahead-measured to refl (head_bytes s lib a) refl))

    module _ (levels field : ℕ) (some_left : levels ≡ 0 → ⊥) {r : Level} (h : LevelCounted s lib (lent s (type_description s lib field)) to r) where
      -- the description at the field
      abbrev a : Answer TypeDescription
      a = lent s (type_description s lib field)

      -- nothing is under it
      pub leaf-counted : r.inner ≡ None → NestedCounted s lib levels field to r.to
      leaf-counted g =
          let e : value (own a) ≡ nested_counted s lib levels field =
          closes _ _ ∙ ap (λ (i : Option ℕ). value (own a) ⊕ rest (levels - 1) (nested_of s lib (levels - 1)) i) (sym g ∙ h.under) ∙ sym (step levels field some_left) in
          record { is = λ n. known-e e (own-counted a r.to n h.ends) }

      -- a tree is under it
      pub branch-counted : {below q : ℕ} → r.inner ≡ Some below → NestedCounted s lib (levels - 1) below r.to q → NestedCounted s lib levels field to q
      unfolding nested_counted
      branch-counted {below} {q} g k =
          let m : advance to (length (head_bytes s lib a)) ≤ past = advance-most to (length (head_bytes s lib a)) few in
          let z : own_references a ≡ 0 = no-reference a (sym h.under ∙ g) in
          let e : r.to % 2 ^ 32 ≡ r.to = omega (arith, h.ends, z, m) in
          let f : r.to / 2 ^ 32 ≡ 0 = omega (arith, h.ends, z, m) in
          let w : value (own a) ⊕ nested_counted s lib (levels - 1) below ≡ nested_counted s lib levels field =
          ap (λ (i : Option ℕ). value (own a) ⊕ rest (levels - 1) (nested_of s lib (levels - 1)) i) (sym g ∙ h.under) ∙ sym (step levels field some_left) in
          record { is = λ n. known-e w (then-e (rw (e, f, advance-none n) at (own-counted a r.to n h.ends)) (k.is n)) }

    -- where a tree is under it, it ends at a place
    pub branch-place : (field : ℕ) {below : ℕ} {r : Level} → LevelCounted s lib (lent s (type_description s lib field)) to r → r.inner ≡ Some below → r.to ≤ past
    branch-place field {below} {r} h g =
        let a : Answer TypeDescription = lent s (type_description s lib field) in
        let m : advance to (length (head_bytes s lib a)) ≤ past = advance-most to (length (head_bytes s lib a)) few in
        let z : own_references a ≡ 0 = no-reference a (sym h.under ∙ g) in
        omega (arith, h.ends, z, m)

  -- ---- pointers and safe arrays

  -- one of them
  pub under_first : (field second : ℕ) (a : Answer TypeDescription) (i : Option ℕ) → a ≡ lent s (type_description s lib field) → inner_of s a ≡ Some second
      → length (head_bytes s lib a) ≡ 1 → own_references a ≡ 0 → i ≡ Some second → Under s lib 1 field i
  unfolding nested_counted
  under_first field second a i e f g h k =
      record {
        is = λ below n t.
            let u : Some second ≡ Some below = sym k ∙ t in
            let v : second ≡ below = cc in
            let m : 1 + n - 1 ≡ n = omega arith in
            step (1 + n) field (λ z. omega (arith, z))
            ∙ ap (λ (x : Answer TypeDescription). value (own x) ⊕ rest (1 + n - 1) (nested_of s lib (1 + n - 1)) (inner_of s x)) (sym e)
            ∙ rw (f, g, h, m, v);
      }

  module _ (field : ℕ) {second : ℕ} (fits : Fits w32 second) {i : Option ℕ} where
    pub under-pointer : value (type.Pointer (to_z w32 second)) ≡ lent s (type_description s lib field) → i ≡ Some second → Under s lib 1 field i
    unfolding head_bytes inner_of
    under-pointer e h = under_first field second (value (type.Pointer (to_z w32 second))) i e (ap Some (of_z-to_z w32 second fits)) refl refl h

    pub under-safe-array : value (type.SafeArray (to_z w32 second)) ≡ lent s (type_description s lib field) → i ≡ Some second → Under s lib 1 field i
    unfolding head_bytes inner_of
    under-safe-array e h = under_first field second (value (type.SafeArray (to_z w32 second))) i e (ap Some (of_z-to_z w32 second fits)) refl refl h

  plus-plus : (k j : ℕ) (x : Answer Figures) → value (figures k 0 0 0 0) ⊕ (value (figures j 0 0 0 0) ⊕ x) ≡ value (figures (k + j) 0 0 0 0) ⊕ x
  plus-plus k j (value x) =
      let a : k + (j + x.length) ≡ k + j + x.length = omega arith in
      let b : 0 + (0 + x.functions) ≡ 0 + x.functions = omega arith in
      let c : 0 + (0 + x.parameters) ≡ 0 + x.parameters = omega arith in
      let d : 0 + (0 + x.variables) ≡ 0 + x.variables = omega arith in
      let e : 0 + (0 + x.references) ≡ 0 + x.references = omega arith in
      rw (a, b, c, d, e)
  plus-plus k j (refused n) = refl

  -- one of them to another
  pub under-second : (field below : ℕ) {i j : Option ℕ} → Under s lib 1 field i → i ≡ Some below → Under s lib 1 below j → Under s lib 2 field j
  under-second field below {i} {j} u e v =
      record {
        is = λ x n t.
            let m : 2 + n ≡ 1 + (1 + n) = omega arith in
            ap (λ (l : ℕ). nested_counted s lib l field) m
            ∙ u.is below (1 + n) e
            ∙ ap (λ (y : Answer Figures). value (figures 1 0 0 0 0) ⊕ y) (v.is x n t)
            ∙ plus-plus 1 1 (nested_counted s lib n x);
      }

  -- nothing is said
  pub under_none : (k field : ℕ) {i : Option ℕ} → i ≡ None → Under s lib k field i
  under_none k field h = record { is = λ below n t. absurd (let y : None ≡ Some below = sym h ∙ t in let z : ◌≡◌ {A = ℕ} 0 1 = cc in omega arith) }

  -- two of them, and the tree under them
  pub two-counted : (to levels field below : ℕ) {r q : ℕ} {i : Option ℕ} → 2 ≤ levels → Under s lib 2 field i → i ≡ Some below → r ≡ advance to 2
      → NestedCounted s lib (levels - 2) below r q → NestedCounted s lib levels field to q
  two-counted to levels field below {r} {q} h u e f k =
      let m : levels ≡ 2 + (levels - 2) = omega arith in
      let w : value (figures 2 0 0 0 0) ⊕ nested_counted s lib (levels - 2) below ≡ nested_counted s lib levels field =
      sym (u.is below (levels - 2) e) ∙ ap (λ (l : ℕ). nested_counted s lib l field) (sym m) in
      record { is = λ n. known-e w (then-e (bytes-e to r n (ahead-measured to f (0 ∷ 0 ∷ []) refl)) (k.is n)) }

  -- refusal 11
  pub deep-counted : (to levels field : ℕ) → to ≤ past → levels ≡ 0 → NestedCounted s lib levels field to 16777229
  deep-counted to levels field few e =
      record { is = λ n. known-e (too-deep levels field e) (refusing-e to 16777229 n _ {o = []} (record { moves = rw (put-at to few) (put_refused 16777229 (omega arith)); lays = rw (put-at to few) tt; spares = refl; keeps = refl })) }

-- ---- one description, by its case

module _ (s : List ℕ) (lib : TypeLib) (to : ℕ) {r : Level} where
  pub level-as : {a b : Answer TypeDescription} → a ≡ b → LevelCounted s lib a to r → LevelCounted s lib b to r
  level-as e l = rw (← e) l

  -- one that is no reference
  plain : (a : Answer TypeDescription) {n : ℕ} → length (head_bytes s lib a) ≡ n → own_references a ≡ 0 → r.to ≡ advance to n → r.inner ≡ inner_of s a → LevelCounted s lib a to r
  plain a {n} e f g h =
      let k : advance to n ≡ advance to (length (head_bytes s lib a)) = ap (advance to) (sym e) in
      record { ends = omega (arith, f, g, k); under = h }

  pub level-nothing : (n : ℕ) → (r.to ≡ advance to 1) × (r.inner ≡ None) → LevelCounted s lib (refused n) to r
  unfolding head_bytes inner_of
  level-nothing n l = plain (refused n) refl refl l.0 l.1

  pub level-base : (code : ℕ) → (r.to ≡ advance to 3) × (r.inner ≡ None) → LevelCounted s lib (value (type.Base code)) to r
  unfolding head_bytes inner_of
  level-base code l = plain (value (type.Base code)) (ap suc (length-le_bytes 2 code)) refl l.0 l.1

  module _ {second : ℕ} (fits : Fits w32 second) where
    pub level-pointer : r.to ≡ advance to 1 → r.inner ≡ Some second → LevelCounted s lib (value (type.Pointer (to_z w32 second))) to r
    unfolding head_bytes inner_of
    level-pointer e f = plain (value (type.Pointer (to_z w32 second))) refl refl e (f ∙ ap Some (sym (of_z-to_z w32 second fits)))

    pub level-safe-array : r.to ≡ advance to 1 → r.inner ≡ Some second → LevelCounted s lib (value (type.SafeArray (to_z w32 second))) to r
    unfolding head_bytes inner_of
    level-safe-array e f = plain (value (type.SafeArray (to_z w32 second))) refl refl e (f ∙ ap Some (sym (of_z-to_z w32 second fits)))

    pub level-user : {n : ℕ} → n ≡ advance to (length (user_bytes s lib second)) → r.to ≡ n + 2 ^ 32 → r.inner ≡ None → LevelCounted s lib (value (type.UserDefined (to_z w32 second))) to r
    unfolding head_bytes inner_of
    level-user {n} e f g = record { ends = rw (of_z-to_z w32 second fits) (omega (arith, e, f)); under = g }

  -- by its emitter
  pub level-put : (a : Answer TypeDescription) → to ≤ past → own_references a ≡ 0 → Levelled s lib a (put to) [] (put r.to) [] r.inner → LevelCounted s lib a to r
  level-put a few e l =
      let m : put r.to ≡ At (advance to (length (head_bytes s lib a))) = l.0.moves ∙ ap (λ (t : Put). moved t (value (head_bytes s lib a))) (put-at to few) in
      plain a refl e (place_is r.to m) l.1

-- where an emission of bytes ends that began at a place
pub place-measured : (to r : ℕ) (bs : List ℕ) → to ≤ past → Measured (value bs) to r → r ≡ advance to (length bs)
place-measured to r bs few h = place_is r (h.moves ∙ ap (λ (t : Put). moved t (value bs)) (put-at to few))

-- the code of a pointer or of a safe array
pub over-one : (s : List ℕ) (lib : TypeLib) (code second : ℕ) (P : Answer TypeDescription → Type 0) → 26 ≤ code → code < 28
    → P (value (type.Pointer (to_z w32 second))) → P (value (type.SafeArray (to_z w32 second))) → P (description_of s lib code second)
unfolding description_of
over-one s lib code second P h k a b =
    cond-elim P (eqb code 26) _ _ (λ _. a) (λ e.
    cond-elim P (eqb code 27) _ _ (λ _. b) (λ f. absurd (omega (arith, eqb-false code 26 e, eqb-false code 27 f))))

-- a descriptor of another code is no reference
pub no-user : (s : List ℕ) (lib : TypeLib) (code second : ℕ) → (code ≡ 29 → ⊥) → own_references (description_of s lib code second) ≡ 0
unfolding description_of
no-user s lib code second h =
    let P : Answer TypeDescription → Type 0 = λ a. own_references a ≡ 0 in
    rw (ne_eqb code 29 h)
    (cond-elim P (eqb code 26) (value (type.Pointer (to_z w32 second))) _ (λ _. refl) (λ _.
    cond-elim P (eqb code 27) (value (type.SafeArray (to_z w32 second))) _ (λ _. refl) (λ _.
    cond-elim P (eqb code 28) _ (value (type.Base code)) (λ _. by (array_desc_at s lib (bits_of 0 16 second))) (λ _. refl))))
  where
    by : (a : Answer Place) → own_references (map (λ p. type.CArray (record { at = p.at; len = p.len })) a) ≡ 0
    by (value p) = refl
    by (refused n) = refl
