-- Laws of the names of type codes. Assumes nothing.
use Rattle.std.specs.Prelude.{◌≡◌, refl, Bool, true, false, cond, List, [], ◌∷◌, ℕ, ◌≤◌, T, ltb}
use Rattle.std.proofs.Common.{arith, ltb-true, ne_eqb}
use Rattle.texts.specs.Types.{Named, name_in}

-- every code of the list is below m
abbrev pub all_below : ℕ → List Named → Bool
all_below m [] = true
all_below m (r ∷ rs) = cond (ltb r.code m) (all_below m rs) false

-- so a code from m on has no name there
pub name-none : (rs : List Named) (m vt : ℕ) → T (all_below m rs) → m ≤ vt → name_in rs vt ≡ "Unknown"
name-none [] m vt t h = refl
name-none (r ∷ rs) m vt t h = go (ltb r.code m) refl t (λ u. name-none rs m vt u h)
  where
    go : (b : Bool) → ltb r.code m ≡ b → T (cond b (all_below m rs) false) → (T (all_below m rs) → name_in rs vt ≡ "Unknown") → name_in (r ∷ rs) vt ≡ "Unknown"
    go true e u ih = rw (ne_eqb r.code vt (λ q. omega (arith, ltb-true r.code m e))) (ih u)
    go false e u ih = absurd u
