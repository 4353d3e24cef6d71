-- A tree is its head, and then the tree under it. Assumes nothing.
use Rattle.std.proofs.Common.{Option, Some, None, ◌≡◌, refl, sym, ap, ◌∙◌, Bool, true, false, cond, List, [], ◌∷◌, ◌++◌, append-nil, ℕ, zero, suc, ◌+◌, ◌-◌, ◌*◌, ◌≤◌, ◌<◌, arith, ltb, length, ltb-true, ltb-false, w32, Fits, to_z, of_z}
use Rattle.std.proofs.lemmas.Int.{of_z-to_z}
use Rattle.typelib.specs.Header.{type_count}
use Rattle.util.specs.Read.{read, or_zero}
use Rattle.records.specs.declared.answer.Place.{Place}
use Rattle.records.specs.declared.types.TypeDescription.{TypeDescription}
use Rattle.records.specs.declared.types.TypeDescription.TheVariants as type
use Rattle.records.specs.Answer.{Answer, value, refused, map}
use Rattle.records.specs.Layout.{size_of, array_desc}
use Rattle.records.specs.Record.{limit, bits_of}
use Rattle.typelib.specs.declared.TypeLib.{TypeLib}
use Rattle.typelib.specs.Tables.{lent}
use Rattle.typelib.specs.TableLaws.{lent-long, lent_fits}
use Rattle.typelib.specs.Descriptors.{type_description}
use Rattle.typelib.specs.DescriptorLaws.{field-base}
use Rattle.description.specs.Format.{encode, le_bytes, joined}
use Rattle.description.specs.Description.{Bytes, Dimension, Tree}
use Rattle.description.specs.Description.Tree.{pointer, safe_array, c_array}
use Rattle.description.specs.Sheet.{edition-one, dimension, level, nested, tree, reference as referred}
use Rattle.describe.specs.Values.{field_of}
use Rattle.describe.specs.References.{reference_of}
use Rattle.describe.specs.Trees.{dimensions_at, dimensions_of, tree_from, nested_of, tree_of}
use Rattle.emit.specs.Emit.{◌▸◌, Put, At, past, put, advance, Emitted}
use Rattle.emit.specs.Laws.{join, skip, put-at, refused-stays}
use Rattle.sheet_trees.specs.Parts.{dimensions_bytes, array_bytes, array_of, head_bytes, base_bytes, inline_bytes, inner_of, Levelled}

-- ---- dimensions

dimensions-length : (s : List ℕ) (at n : ℕ) → length (dimensions_at s at n) ≡ n
unfolding dimensions_at
dimensions-length s at zero = refl
dimensions-length s at (suc n) = ap suc (dimensions-length s (at + 8) n)

-- those behind the first k of n: the next of them, and the others
dimensions-more : (s : List ℕ) (at n : ℕ)
    → value (dimensions_bytes s at (suc n))
    ≡ (value (le_bytes 4 (or_zero (read 4 s (at + 0)))) ▸ value (le_bytes 4 (or_zero (read 4 s (at + 4))))) ▸ value (dimensions_bytes s (at + 8) n)
unfolding dimensions_bytes dimensions_at dimension
dimensions-more s at n = refl

pub dimensions-turn : (s : List ℕ) (at k n : ℕ) → k < n
    → value (dimensions_bytes s (at + (8 + 8 * k)) (n - k))
    ≡ (value (le_bytes 4 (or_zero (read 4 s (at + (8 + 8 * k))))) ▸ value (le_bytes 4 (or_zero (read 4 s (at + (8 + 8 * k + 4))))))
    ▸ value (dimensions_bytes s (at + (8 + 8 * (k + 1))) (n - (k + 1)))
dimensions-turn s at k n h =
    let e : n - k ≡ suc (n - (k + 1)) = omega (arith, h) in
    let f : at + (8 + 8 * k) + 0 ≡ at + (8 + 8 * k) = omega arith in
    let g : at + (8 + 8 * k) + 4 ≡ at + (8 + 8 * k + 4) = omega arith in
    let j : at + (8 + 8 * k) + 8 ≡ at + (8 + 8 * (k + 1)) = omega arith in
    rw e (rw (f, g, j) at (dimensions-more s (at + (8 + 8 * k)) (n - (k + 1))))

pub dimensions-none : (s : List ℕ) (at k n : ℕ) → n ≤ k → value (dimensions_bytes s at (n - k)) ≡ value []
unfolding dimensions_bytes dimensions_at
dimensions-none s at k n h = let e : n - k ≡ 0 = omega (arith, h) in rw e

last-place : (n : ℕ) → past ≡ advance past n
unfolding advance
last-place n = omega arith

at_last : (bs o : List ℕ) → Emitted (value bs) (put past) o (put past) o
at_last bs o =
    rw (put-at past (omega arith))
    (record { moves = ap At (last-place (length bs)); lays = λ l k. absurd (omega (arith, l)); spares = refl; keeps = refl })

-- at the last place, and at a refusal, no byte is laid
pub stays : (bs o : List ℕ) (p : ℕ) → past ≤ p → Emitted (value bs) (put p) o (put p) o
stays bs o p h = by (ltb past p) refl
  where
    by : (b : Bool) → ltb past p ≡ b → Emitted (value bs) (put p) o (put p) o
    by true e = refused-stays (ltb-true past p e)
    by false e = let q : p ≡ past = omega (arith, h, ltb-false past p e) in rw q (at_last bs o)

pub array-is : (s : List ℕ) (at : ℕ) {n : ℕ} → n ≡ or_zero (read 2 s (at + 4))
    → value (4 ∷ []) ▸ (value (le_bytes 2 n) ▸ value (dimensions_bytes s (at + 8) n)) ≡ value (array_bytes s at)
unfolding array_bytes
array-is s at {n} e = rw e

-- ---- a tree

module _ (s : List ℕ) (lib : TypeLib) where
  abbrev bytes : ℕ → Answer Tree → Answer Bytes
  bytes k = map (encode (nested edition-one (type_count lib) k))

  abbrev rest : ℕ → (ℕ → Answer Tree) → Option ℕ → Answer Bytes
  rest k below None = value []
  rest k below (Some field) = bytes k (below field)

  wrapped : (k : ℕ) (w : Tree → Tree) (head : Bytes)
      → ((t : Tree) → encode (nested edition-one (type_count lib) (suc k)) (w t) ≡ head ++ encode (nested edition-one (type_count lib) k) t)
      → (a : Answer Tree) → bytes (suc k) (map w a) ≡ value head ▸ bytes k a
  wrapped k w head h (value t) = ap value (h t)
  wrapped k w head h (refused n) = refl

  pub array-tree : (k at : ℕ) (t : Tree)
      → encode (nested edition-one (type_count lib) (suc k)) (c_array (dimensions_of s at) t) ≡ array_bytes s at ++ encode (nested edition-one (type_count lib) k) t
  unfolding nested level array_bytes dimensions_of dimensions_bytes
  array-tree k at t =
      let n : ℕ = field_of array_desc "dimensions" s at in
      let ds : List Dimension = dimensions_at s (at + size_of array_desc) n in
      ap (λ m. 4 ∷ ((le_bytes 2 m ++ joined dimension ds) ++ encode (nested edition-one (type_count lib) k) t)) (dimensions-length s (at + size_of array_desc) n)

  laid : (k : ℕ) (below : ℕ → Answer Tree) (a : Answer TypeDescription)
      → bytes (suc k) (tree_from s lib below a) ≡ value (head_bytes s lib a) ▸ rest k below (inner_of s a)
  unfolding tree_from head_bytes inner_of nested level le_bytes
  laid k below (value (type.Base vt)) = refl
  laid k below (value (type.Pointer x)) = wrapped k pointer (2 ∷ []) (λ t. refl) (below (of_z w32 x))
  laid k below (value (type.SafeArray x)) = wrapped k safe_array (3 ∷ []) (λ t. refl) (below (of_z w32 x))
  laid k below (value (type.CArray d)) =
      wrapped k (c_array (dimensions_of s d.at)) (array_bytes s d.at) (array-tree k d.at) (below (field_of array_desc "element type" s d.at))
  laid k below (value (type.UserDefined x)) = ap value (sym (append-nil _))
  laid k below (refused n) = refl

  module _ (n field : ℕ) where
    pub too-deep : {t r : Put} {o o' : List ℕ} → n ≡ 0 → Emitted (refused 11) t o r o' → Emitted (bytes n (nested_of s lib n field)) t o r o'
    unfolding nested_of
    too-deep e h = rw e h

    module _ (some_left : n ≡ 0 → ⊥) {a : Answer TypeDescription} (e : a ≡ lent s (type_description s lib field)) where
      step : bytes n (nested_of s lib n field) ≡ value (head_bytes s lib a) ▸ rest (n - 1) (nested_of s lib (n - 1)) (inner_of s a)
      unfolding nested_of
      step = by-levels n some_left
        where
          by-levels : (m : ℕ) → (m ≡ 0 → ⊥) → bytes m (nested_of s lib m field) ≡ value (head_bytes s lib a) ▸ rest (m - 1) (nested_of s lib (m - 1)) (inner_of s a)
          by-levels zero p = absurd (p refl)
          by-levels (suc m) p = let f : suc m - 1 ≡ m = omega arith in rw (f, ← e) (laid m (nested_of s lib m) a)

      pub leaf-laid : {i : Option ℕ} {t u : Put} {o o' : List ℕ} → i ≡ inner_of s a → i ≡ None
          → Emitted (value (head_bytes s lib a)) t o u o' → Emitted (bytes n (nested_of s lib n field)) t o u o'
      leaf-laid {i} {t} {u} {o} {o'} f g h =
          let q : None ≡ inner_of s a = sym g ∙ f in
          rw (step, ← q) (join h (skip u o'))

      pub branch-laid : {i : Option ℕ} {t u r : Put} {o o' o'' : List ℕ} {below : ℕ} → i ≡ inner_of s a → i ≡ Some below
          → Emitted (value (head_bytes s lib a)) t o u o' → Emitted (bytes (n - 1) (nested_of s lib (n - 1) below)) u o' r o''
          → Emitted (bytes n (nested_of s lib n field)) t o r o''
      branch-laid {i} {t} {u} {r} {o} {o'} {o''} {below} f g h k =
          let q : Some below ≡ inner_of s a = sym g ∙ f in
          rw (step, ← q) (join h k)

  pub whole-tree : (field : ℕ) → bytes 32 (tree_of s lib field) ≡ map (encode (tree edition-one (type_count lib))) (tree_of s lib field)
  unfolding tree
  whole-tree field = by_answer (tree_of s lib field)
    where
      by_answer : (a : Answer Tree) → bytes 32 a ≡ map (encode (tree edition-one (type_count lib))) a
      by_answer (value t) = refl
      by_answer (refused n) = refl

  module _ (field : ℕ) where
    headed : {a : Answer TypeDescription} → a ≡ lent s (type_description s lib field) → inner_of s a ≡ None
        → value (head_bytes s lib a ++ []) ≡ map (encode (tree edition-one (type_count lib))) (tree_of s lib field)
    headed {a} e f = sym (step 32 field (λ z. omega (arith, z)) e ∙ ap (λ (i : Option ℕ). value (head_bytes s lib a) ▸ rest 31 (nested_of s lib 31) i) f) ∙ whole-tree field

    inline-by : 0x80000000 ≤ field → (b : Bool) → ltb limit (length s) ≡ b
        → value (base_bytes (cond b (refused 1) (value (bits_of 0 12 field)))) ≡ map (encode (tree edition-one (type_count lib))) (tree_of s lib field)
    unfolding head_bytes inner_of le_bytes
    inline-by k true e = headed {a = refused 1} (lent-long _ _ (ltb-true limit (length s) e)) refl
    inline-by k false e =
        headed {a = value (type.Base (bits_of 0 12 field))} (lent_fits _ _ _ (ltb-false limit (length s) e) (field-base s lib field (bits_of 0 12 field) k refl)) refl

    -- a negative field is a base type
    pub inline-tree : 0x80000000 ≤ field → value (inline_bytes s field) ≡ map (encode (tree edition-one (type_count lib))) (tree_of s lib field)
    unfolding inline_bytes lent
    inline-tree k = inline-by k (ltb limit (length s)) refl

-- the cases of `inline_bytes`
module _ (s : List ℕ) (field : ℕ) where
  pub inline-long : limit < length s → value (0 ∷ []) ≡ value (inline_bytes s field)
  unfolding inline_bytes
  inline-long h = ap (λ (a : Answer ℕ). value (base_bytes a)) (lent-long _ _ h)

  pub inline-base : {code : ℕ} → length s ≤ limit → code ≡ bits_of 0 12 field → value (1 ∷ le_bytes 2 code) ≡ value (inline_bytes s field)
  unfolding inline_bytes
  inline-base {code} h e = ap (λ (a : Answer ℕ). value (base_bytes a)) (lent_fits _ _ (value code) h (ap value e))

-- ---- one description

module _ (s : List ℕ) (lib : TypeLib) {t u : Put} {o o' : List ℕ} {i : Option ℕ} where
  pub level-as : {a b : Answer TypeDescription} → a ≡ b → Levelled s lib a t o u o' i → Levelled s lib b t o u o' i
  level-as e l = rw (← e) l

  pub level-nothing : (n : ℕ) → Emitted (value (0 ∷ [])) t o u o' × (i ≡ None) → Levelled s lib (refused n) t o u o' i
  unfolding head_bytes inner_of
  level-nothing n l = l

  pub level-base : (code : ℕ) → Emitted (value (1 ∷ le_bytes 2 code)) t o u o' × (i ≡ None) → Levelled s lib (value (type.Base code)) t o u o' i
  unfolding head_bytes inner_of
  level-base code l = l

  pub level-array : (p : Place) → Emitted (value (array_bytes s p.at)) t o u o' × (i ≡ Some (or_zero (read 4 s (p.at + 0)))) → Levelled s lib (array_of (value p)) t o u o' i
  unfolding head_bytes inner_of
  level-array p l = l

  module _ {second : ℕ} (fits : Fits w32 second) where
    pub level-pointer : Emitted (value (2 ∷ [])) t o u o' × (i ≡ Some second) → Levelled s lib (value (type.Pointer (to_z w32 second))) t o u o' i
    unfolding head_bytes inner_of
    level-pointer l = (l.0, l.1 ∙ ap Some (sym (of_z-to_z w32 second fits.fits)))

    pub level-safe-array : Emitted (value (3 ∷ [])) t o u o' × (i ≡ Some second) → Levelled s lib (value (type.SafeArray (to_z w32 second))) t o u o' i
    unfolding head_bytes inner_of
    level-safe-array l = (l.0, l.1 ∙ ap Some (sym (of_z-to_z w32 second fits.fits)))

    pub level-user : Emitted (value (5 ∷ encode (referred edition-one (type_count lib)) (reference_of s lib second))) t o u o' × (i ≡ None)
        → Levelled s lib (value (type.UserDefined (to_z w32 second))) t o u o' i
    unfolding head_bytes inner_of
    level-user l = rw (of_z-to_z w32 second fits.fits) l
