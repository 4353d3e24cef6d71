-- The dimensions of an array descriptor that is held are what their readings answer. Assumes nothing.
use Rattle.std.specs.Prelude.{◌≡◌, cond, List, leb, get_or}
use Rattle.std.proofs.Common.{sym, ◌∙◌, to_z}
use Rattle.std.proofs.Math.Path.{ap}
use Prim.Native.Nat.{ℕ, zero, suc, ◌+◌, ◌*◌, ◌≤◌, ◌<◌}
use native.Mathlib.Omega.{arith}
use Rattle.std.proofs.lemmas.Bool.{lt-leb}
use Rattle.std.specs.Int.{w32}
use Rattle.util.specs.Read.{read, or_zero}
use Rattle.records.specs.declared.arraydesc.SafeArrayBound.{SafeArrayBound}
use Rattle.records.specs.Answer.{Answer, value, refused, map, bind}
use Rattle.records.specs.Counted.{array_desc_size, bound_at, bound_of}
use Rattle.records.specs.Layout.{size_of, array_desc, array_bound}
use Rattle.records.specs.Record.{field_at, signed32}
use Rattle.records.specs.RecordLaws.{Holds}
use Rattle.description.specs.Description.{Dimension}
use Rattle.describe.specs.Values.{field_of}
use Rattle.describe.specs.Trees.{dimensions_at, dimensions_of}
use Rattle.describe.specs.FieldLaws.{number_is, field_is}

-- the dimension at `at`
abbrev dimension_at : List ℕ → ℕ → Dimension
dimension_at s at = record { count = field_of array_bound "cElements" s at; lower_bound = field_of array_bound "lLbound" s at }

dimension-at : (s : List ℕ) (at n i : ℕ) (d : Dimension) → i < n → get_or (dimensions_at s at n) i d ≡ dimension_at s (at + size_of array_bound * i)
unfolding dimensions_at
dimension-at s at zero i d h = absurd (omega arith)
dimension-at s at (suc n) zero d h =
    let q : at ≡ at + 8 * 0 = omega arith in
    ap (dimension_at s) q
dimension-at s at (suc n) (suc i) d h =
    let q : at + 8 + 8 * i ≡ at + 8 * suc i = omega arith in
    dimension-at s (at + 8) n i d (omega arith) ∙ ap (dimension_at s) q

-- the bound that a dimension stands for
abbrev pub bound_from : Dimension → SafeArrayBound
bound_from d = record { elements = d.count; lower = to_z w32 d.lower_bound }

bound-from : (a b : Answer ℕ) (x y : ℕ) → a ≡ value x → b ≡ value y
    → bind a (λ elements. map (λ lower. record { elements = elements; lower = lower }) (signed32 b)) ≡ value (bound_from (record { count = x; lower_bound = y }))
bound-from a b x y p q = rw (p, q)

module _ (s : List ℕ) (at len : ℕ) where
  word-is : (offset from : ℕ) → Holds s at len (size_of array_desc) → offset + 4 ≤ len → at + offset ≡ from → field_at 4 8 offset s at len ≡ value (or_zero (read 4 s from))
  word-is offset from h k q = number_is 4 8 offset s at len h k ∙ ap (λ (x : ℕ). value (or_zero (read 4 s x))) q

  bound-is : (offset : ℕ) → Holds s at len (size_of array_desc) → offset + 8 ≤ len → bound_at offset s at len ≡ value (bound_from (dimension_at s (at + offset)))
  bound-is offset h k =
      bound-from _ _ _ _
      (word-is offset (at + offset + 0) h (omega arith) (omega arith))
      (word-is (offset + 4) (at + offset + 4) h (omega arith) (omega arith))

  counted_is : (a : Answer ℕ) (n i : ℕ) → a ≡ value n → i < n → bind a (λ dimensions. cond (leb dimensions i) (refused 9) (bound_at (array_desc_size i) s at len)) ≡ bound_at (array_desc_size i) s at len
  counted_is a n i p h = rw (p, lt-leb n i h)

  -- dimension i, of as many as the descriptor counts
  pub dimension-is : (i : ℕ) (d : Dimension) → Holds s at len (array_desc_size (field_of array_desc "dimensions" s at)) → i < field_of array_desc "dimensions" s at
      → bound_of i s at len ≡ value (bound_from (get_or (dimensions_of s at) i d))
  unfolding dimensions_of
  dimension-is i d h k =
      let n : ℕ = field_of array_desc "dimensions" s at in
      let f : Holds s at len (size_of array_desc) = record { few = h.few; whole = omega (arith, h.whole); inside = h.inside } in
      let q : at + (8 + 8 * i) ≡ at + 8 + 8 * i = omega arith in
      counted_is _ n i (field_is array_desc "dimensions" s at len f) k
      ∙ bound-is (array_desc_size i) f (omega (arith, h.whole))
      ∙ ap (λ (x : ℕ). value (bound_from (dimension_at s x))) q
      ∙ ap (λ (x : Dimension). value (bound_from x)) (sym (dimension-at s (at + size_of array_desc) n i d k))
