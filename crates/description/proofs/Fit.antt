-- A description whose fields fit has a sheet, and none but these. Assumes nothing.
use Rattle.std.specs.Prelude.{◌≡◌, refl, List, [], ◌∷◌, map, length}
use Prim.Native.Nat.{ℕ, ◌+◌, ◌^◌, ◌≤◌, ◌<◌}
use native.Mathlib.Omega.{arith}
use Rattle.std.proofs.Common.{length-append}
use Rattle.std.proofs.lemmas.List.{length-map}
use Rattle.description.specs.Format.{Format, Fits, encode, length-le_bytes, Each, joined}
use Rattle.description.specs.Description.{TypeInfo, Library}
use Rattle.description.specs.Sheet.{Edition, u32, type_info, header, contents, contents_of, bodies, sheet, sheet_layout, sheet_bytes}
use Rattle.description.specs.Fit.{Fitting}

-- lengths have at least as many bytes as there are
lengths-room : (ls : List ℕ) → length ls ≤ length (joined u32 ls)
lengths-room [] = omega arith
lengths-room (l ∷ ls) = simp (length-append, length-le_bytes) (omega (arith, lengths-room ls))

-- values that are short together are short each
each-short : {A : Type 0} (F : Format A) (most : ℕ) (xs : List A) → length (joined F xs) < most
    → Each (λ l. l < most) (map (λ x. length (encode F x)) xs)
each-short F most [] h = tt
each-short F most (x ∷ xs) h =
    let l : length (encode F x) + length (joined F xs) < most = simp length-append at h in
    (omega arith, each-short F most xs (omega arith))

-- a description whose fields fit has a sheet, if that is not too long for the lengths in the contents
pub fitting-fits : (e : Edition) (d : Library) → Fitting e d → length (sheet_bytes e d) < 256 ^ 4 → Fits (sheet e) d
unfolding sheet sheet_layout sheet_bytes contents contents_of bodies
fitting-fits e d f short =
    let F : Format TypeInfo = type_info e (length d.types) in
    let ls : List ℕ = map (λ t. length (encode F t)) d.types in
    let l : length (joined u32 ls) + (length (encode header d.header) + length (joined F d.types)) < 256 ^ 4 =
    omega (arith, simp length-append at short) in
    let m : length ls ≡ length d.types = length-map d.types (λ t. length (encode F t)) in (
      ((omega (arith, lengths-room ls), omega (arith, f.count)), (omega arith, (m, each-short F (256 ^ 4) d.types (omega arith)))),
      ((f.header, (refl, f.types)), refl),
    )

-- and a description that has a sheet has fields that fit
pub fits-fitting : (e : Edition) (d : Library) → Fits (sheet e) d → Fitting e d
unfolding sheet sheet_layout contents contents_of bodies
fits-fitting e d h = record { header = h.1.0.0; types = h.1.0.1.1; count = omega (arith, h.0.0.1) }
