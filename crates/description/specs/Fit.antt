-- Which values fit the formats of `Sheet`: what there is to show of a value, case by case, and of a description.
-- Assumes nothing.
use Rattle.std.specs.Prelude.{refl, List, length, Option}
use Prim.Native.Nat.{ℕ, zero, suc, ◌^◌, ◌≤◌, ◌<◌}
use native.Mathlib.Omega.{arith}
use Rattle.std.proofs.Common.{lit<}
use Rattle.description.specs.Format.{IfAny, Format, Fits, Each, list, counted, opt}
use Rattle.description.specs.Format.IfAny.{missing, found}
use Rattle.description.specs.Description.{Bytes, Internal, Import, Misplaced, Reference, Dimension, Tree, depth, Library}
use Rattle.description.specs.Sheet.{Edition, u16, bit, import, internal, misplaced, reference, dimension, level, nested, tree, type_info, header}

-- ---- fields

module _ {A : Type 0} (F : Format A) where
  pub opt-fits : {o : Option A} → IfAny (Fits F) o → Fits (opt F) o
  unfolding opt
  opt-fits missing = (lit< tt, tt)
  opt-fits (found h) = (lit< tt, h)

  pub list-fits : (N : Format ℕ) (xs : List A) → Fits N (length xs) → Each (Fits F) xs → Fits (list N F) xs
  list-fits N xs h k = (h, (refl, k))

pub counted-fits : (N : Format ℕ) (xs : Bytes) → Fits N (length xs) → Each (λ b. b < 256) xs → Fits (counted N) xs
counted-fits N xs h k = (h, (refl, k))

pub bit-fits : (b : ℕ) → b < 2 → Fits bit b
unfolding bit
bit-fits b h = (omega arith, h)

-- ---- references and trees

module _ (e : Edition) (n : ℕ) where
  pub unresolved-fits : Fits (reference e n) Reference.unresolved
  unfolding reference
  unresolved-fits = (lit< tt, tt)

  pub internal-fits : (r : Internal) → r.bit < 2 → r.index < 256 ^ e.index_width → r.index < n
      → Fits (reference e n) (Reference.internal r)
  unfolding reference internal
  internal-fits r h k l = (lit< tt, (bit-fits r.bit h, (k, l)))

  pub imported-fits : (r : Import) → Fits import r → Fits (reference e n) (Reference.imported r)
  unfolding reference
  imported-fits r h = (lit< tt, h)

  pub misplaced-fits : (r : Misplaced) → r.bit < 2 → r.offset < 256 ^ 4 → Fits (reference e n) (Reference.misplaced r)
  unfolding reference misplaced
  misplaced-fits r h k = (lit< tt, (bit-fits r.bit h, k))

  module _ (k : ℕ) where
    pub nothing-fits : Fits (nested e n (suc k)) Tree.nothing
    unfolding nested level
    nothing-fits = (lit< tt, tt)

    pub base-fits : (vt : ℕ) → Fits u16 vt → Fits (nested e n (suc k)) (Tree.base vt)
    unfolding nested level
    base-fits vt h = (lit< tt, h)

    pub pointer-fits : (t : Tree) → Fits (nested e n k) t → Fits (nested e n (suc k)) (Tree.pointer t)
    unfolding nested level
    pointer-fits t h = (lit< tt, h)

    pub safe_array-fits : (t : Tree) → Fits (nested e n k) t → Fits (nested e n (suc k)) (Tree.safe_array t)
    unfolding nested level
    safe_array-fits t h = (lit< tt, h)

    pub c_array-fits : (ds : List Dimension) (t : Tree) → Fits (list u16 dimension) ds → Fits (nested e n k) t
        → Fits (nested e n (suc k)) (Tree.c_array ds t)
    unfolding nested level
    c_array-fits ds t h l = (lit< tt, (h, l))

    pub reference-fits : (r : Reference) → Fits (reference e n) r → Fits (nested e n (suc k)) (Tree.reference r)
    unfolding nested level
    reference-fits r h = (lit< tt, h)

  -- "A tree nests at most 32 descriptions, the outermost and the base included."
  nested-depth : (k : ℕ) (t : Tree) → Fits (nested e n k) t → depth t ≤ k
  unfolding nested level depth
  nested-depth zero t h = absurd h
  nested-depth (suc k) Tree.nothing h = omega arith
  nested-depth (suc k) (Tree.base vt) h = omega arith
  nested-depth (suc k) (Tree.pointer t) h = omega (arith, nested-depth k t h.1)
  nested-depth (suc k) (Tree.safe_array t) h = omega (arith, nested-depth k t h.1)
  nested-depth (suc k) (Tree.c_array ds t) h = omega (arith, nested-depth k t h.1.1)
  nested-depth (suc k) (Tree.reference r) h = omega arith

  pub tree-depth : (t : Tree) → Fits (tree e n) t → depth t ≤ 32
  unfolding tree
  tree-depth t h = nested-depth 32 t h

-- ---- descriptions

-- each field fits: numbers are below their widths, lists short enough for their counts, trees not too deep, internal indexes
-- below the count of types, and the types no more than the edition allows
pub record Fitting (e : Edition) (d : Library) : Type 0 where
  pub header : Fits header d.header
  pub types : Each (Fits (type_info e (length d.types))) d.types
  pub count : length d.types ≤ e.most_types
