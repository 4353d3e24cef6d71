-- The bodies of a library's types, one behind the other: a turn of a loop over them, and its end. Assumes nothing.
use Rattle.std.specs.Prelude.{◌≡◌, List, [], length}
use Rattle.std.proofs.Math.Path.{refl, ap}
use Prim.Native.Nat.{ℕ, zero, suc, ◌+◌, ◌-◌, ◌≤◌, ◌<◌}
use native.Mathlib.Omega.{arith}
use Rattle.records.specs.Answer.{Answer, value, map}
use Rattle.typelib.specs.declared.TypeLib.{TypeLib}
use Rattle.typelib.specs.Header.{type_count}
use Rattle.description.specs.Format.{encode}
use Rattle.description.specs.Description.{Bytes}
use Rattle.description.specs.Sheet.{edition-one, type_info}
use Rattle.describe.specs.Types.{type_of, types_from}
use Rattle.emit.specs.Emit.{◌▸◌}
use Rattle.sheet_members.specs.Lists.{lay_all}

module _ (s : List ℕ) (lib : TypeLib) where
  pub types-length : (n i : ℕ) → length (types_from s lib n i) ≡ n
  unfolding types_from
  types-length zero i = refl
  types-length (suc n) i = ap suc (types-length n (i + 1))

  -- those of n types from type i on
  abbrev pub bodies : ℕ → ℕ → Answer Bytes
  bodies n i = lay_all (type_info edition-one (type_count lib)) (types_from s lib n i)

  -- those of all types
  abbrev pub bodies_emitted : Answer Bytes
  bodies_emitted = bodies (type_count lib) 0

  pub bodies-all : (n : ℕ) → bodies (n - 0) 0 ≡ bodies n 0
  bodies-all n = let e : n - 0 ≡ n = omega arith in rw e

  pub bodies-more : (n i : ℕ) → i < n → bodies (n - i) i ≡ map (encode (type_info edition-one (type_count lib))) (type_of s lib i) ▸ bodies (n - (i + 1)) (i + 1)
  unfolding lay_all types_from
  bodies-more n i h = let e : n - i ≡ suc (n - (i + 1)) = omega arith in rw e

  pub bodies-none : (n i : ℕ) → n ≤ i → bodies (n - i) i ≡ value []
  unfolding lay_all types_from
  bodies-none n i h = let e : n - i ≡ 0 = omega arith in rw e
