-- A table of bytes whose cells follow a rule, shown at all of them by one test that computes. Assumes nothing.
use mathlib.Core.Path.{◌≡◌}
use mathlib.Core.Bool.{Bool, true, false, ◌&&◌}
use mathlib.Core.List.{List}
use Prim.Native.Nat.{ℕ, ◌<◌}
use lib.Dec.{T, eqb, ltb, eqb→eq, ltb→lt}
use lib.ListN.{length, get_or}
use Rattle.records.proofs.Table.{all, each}

both : (a b : Bool) → T (a && b) → T a × T b
both true b t = (tt, t)
both false b t = absurd t

module _ (f : ℕ → ℕ) (cells : List ℕ) where
  -- cell k is what the rule says, and a byte
  abbrev pub right : ℕ → Bool
  right k = eqb (get_or cells k 0) (f k) && ltb (get_or cells k 0) 256

  pub cell : T (all right 0 (length cells)) → (k : ℕ) → k < length cells → (get_or cells k 0 ≡ f k) × (get_or cells k 0 < 256)
  cell t k h =
      let b = both (eqb (get_or cells k 0) (f k)) (ltb (get_or cells k 0) 256) (each right (length cells) t k h) in
      (eqb→eq (get_or cells k 0) (f k) b.0, ltb→lt (get_or cells k 0) 256 b.1)
