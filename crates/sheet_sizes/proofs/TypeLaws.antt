-- The figures of types and of the library are those of their parts, one behind the other. Assumes nothing.
use mathlib.Core.Path.{◌≡◌, refl, sym, ap, ◌∙◌}
use mathlib.Core.List.{List, [], ◌∷◌, ◌++◌}
use mathlib.Core.List as lists
use Prim.Native.Nat.{ℕ, suc, ◌+◌, ◌*◌, ◌-◌, ◌/◌, ◌%◌, ◌^◌, ◌≤◌, ◌<◌}
use native.Mathlib.Omega.{arith}
use lib.ListN.{length, length-append}
use Rattle.util.specs.Read.{read, or_zero}
use Rattle.records.specs.declared.answer.Place.{Place}
use Rattle.records.specs.declared.typeinfo.TypeInfoEntry.{TypeInfoEntry}
use Rattle.records.specs.Answer.{Answer, value, refused, map, bind}
use Rattle.typelib.specs.declared.TypeLib.{TypeLib}
use Rattle.typelib.specs.Header.{type_count}
use Rattle.typelib.specs.TypeInfos.{typeinfo_of}
use Rattle.description.specs.ByteLayout.{sheet-bytes}
use Rattle.description.specs.Format.{encode, joined, list, le_bytes, length-le_bytes}
use Rattle.description.specs.Description.{Bytes, base_shape_of, Base, Function, Variable, TypeInfo}
use Rattle.description.specs.Figures.{sum_of, type_references, type_parameters, counted_in}
use Rattle.description.specs.Sheet.{edition-one, u16, u32, base, function, variable, header, type_info, sheet_bytes}
use Rattle.describe.specs.Values.{all}
use Rattle.describe.specs.Members.{functions_of, variables_of}
use Rattle.describe.specs.Types.{base_of, kind_at, type_with, type_at, type_of, types_from}
use Rattle.describe.specs.Describe.{header_of, types_of}
use Rattle.sheet_members.specs.Bodies.{types-length}
use Rattle.sheet_bases.specs.Types.{head_bytes, names_bytes}
use Rattle.sheet_sizes.specs.Counts.{Measured, figures, none, sized, ◌⊕◌, Counting, CountingAll}
use Rattle.sheet_sizes.specs.Counted.{count_all, base_figures, functions_figures, variables_figures, type_figures, base_counted, functions_counted, variables_counted, type_at_counted, type_counted, types_from_counted, types_counted, header_bytes, library_counted}
use Rattle.emit.specs.Emit.{advance}
use Rattle.emit.specs.Laws as emit
use Rattle.sheet_sizes.specs.declared.Count.{Count}
use Rattle.sheet_sizes.proofs.CountLaws.{Sums, ahead-measured, known, then, bytes}
use Rattle.sheet_sizes.proofs.MemberLaws.{list_counted, joined_length}

module _ (s : List ℕ) (lib : TypeLib) where
  abbrev N : ℕ
  N = type_count lib

  pub type-counts : (ti : TypeInfoEntry) {w kind : ℕ} → w ≡ or_zero (read 4 s (ti.at + 0)) → kind ≡ w / 2 ^ 0 % 2 ^ 4
      → sized (head_bytes s ti.at kind ++ names_bytes s lib ti.at) ⊕ (base_counted s lib ti kind ⊕ (functions_counted s lib ti ⊕ variables_counted s lib ti)) ≡ type_at_counted s lib ti
  unfolding type_at_counted type_at type_info head_bytes names_bytes base_counted functions_counted variables_counted
  type-counts ti {w} {kind} e f =
      let q : kind ≡ kind_at s ti.at = f ∙ ap (λ x. x / 2 ^ 0 % 2 ^ 4) e in
      ap (λ (k : ℕ). sized (head_bytes s ti.at k ++ names_bytes s lib ti.at) ⊕ (base_counted s lib ti k ⊕ (functions_counted s lib ti ⊕ variables_counted s lib ti))) q
      ∙ (by (base_of s lib ti (base_shape_of (kind_at s ti.at))) (all (functions_of s lib ti)) (all (variables_of s lib ti)))
    where
      by : (b : Answer (Base (base_shape_of (kind_at s ti.at)))) (fs : Answer (List Function)) (vs : Answer (List Variable))
          → sized (head_bytes s ti.at (kind_at s ti.at) ++ names_bytes s lib ti.at) ⊕ (map (base_figures N (base_shape_of (kind_at s ti.at))) b ⊕ (map (functions_figures N) fs ⊕ map (variables_figures N) vs))
          ≡ map (type_figures N) (bind b (λ under. bind fs (λ functions. map (type_with s lib ti.at under functions) vs)))
      by (value b) (value fs) (value vs) =
          let t : TypeInfo = type_with s lib ti.at b fs vs in
          let n : length (head_bytes s ti.at (kind_at s ti.at) ++ names_bytes s lib ti.at) + (length (encode (base edition-one N (base_shape_of (kind_at s ti.at))) b) + (length (encode (list u16 (function edition-one N)) fs) + length (encode (list u16 (variable edition-one N)) vs))) ≡ length (encode (type_info edition-one N) t) =
          simp (length-append, length-le_bytes) (omega arith) in
          let f : 0 + (0 + (length fs + 0)) ≡ length fs = omega arith in
          let p : 0 + (0 + (type_parameters t + 0)) ≡ type_parameters t = omega arith in
          let v : 0 + (0 + (0 + length vs)) ≡ length vs = omega arith in
          let r : 0 + type_references t ≡ type_references t = omega arith in
          rw (n, f, p, v, r)
      by (value b) (value fs) (refused n) = refl
      by (value b) (refused n) vs = refl
      by (refused n) fs vs = refl

  pub type-found : (i : ℕ) (a : Answer Place) {ti : TypeInfoEntry} → a ≡ typeinfo_of s lib i → a ≡ value (record { at = ti.at; len = ti.len }) → type_at_counted s lib ti ≡ type_counted s lib i
  unfolding type_at_counted type_counted type_of
  type-found i a {ti} e f = let q : typeinfo_of s lib i ≡ value (record { at = ti.at; len = ti.len }) = sym e ∙ f in rw q

  pub type-missing : (i : ℕ) (a : Answer Place) {n : ℕ} → a ≡ typeinfo_of s lib i → a ≡ refused n → refused n ≡ type_counted s lib i
  unfolding type_counted type_of
  type-missing i a {n} e f = let q : typeinfo_of s lib i ≡ refused n = sym e ∙ f in rw q

  -- ---- all of them

  pub types_more : (n i : ℕ) → i < n → types_from_counted s lib (n - i) i ≡ type_counted s lib i ⊕ types_from_counted s lib (n - (i + 1)) (i + 1)
  unfolding types_from_counted type_counted count_all types_from
  types_more n i h = let e : n - i ≡ suc (n - (i + 1)) = omega arith in rw e

  pub types-none : (n i : ℕ) → n ≤ i → types_from_counted s lib (n - i) i ≡ value none
  unfolding types_from_counted count_all types_from
  types-none n i h = let e : n - i ≡ 0 = omega arith in rw e

  pub types-all : (n : ℕ) → types_from_counted s lib (n - 0) 0 ≡ types_from_counted s lib n 0
  types-all n = let e : n - 0 ≡ n = omega arith in rw e

  -- ---- the library

  types-sum : Sums (type_figures N)
      (λ ts. figures (length (joined (type_info edition-one N) ts)) (sum_of (λ t. length t.functions) ts) (sum_of type_parameters ts) (sum_of (λ t. length t.variables) ts) (sum_of type_references ts))
  unfolding sum_of
  types-sum = record { empty = refl; more = λ x xs. rw (joined_length s lib (type_info edition-one N) x xs) }

  lengths : {A : Type 0} (f : A → ℕ) (xs : List A) → length (joined u32 (lists.map f xs)) ≡ 4 * length xs
  lengths f [] = omega arith
  lengths f (x ∷ xs) = omega (arith, length-append (le_bytes 4 (f x)) (joined u32 (lists.map f xs)), length-le_bytes 4 (f x), lengths f xs)

  sheet-length : (ts : List TypeInfo) → length ts ≡ N
      → 8 + 4 * N + length (header_bytes s lib) + length (joined (type_info edition-one N) ts) ≡ length (sheet_bytes edition-one (record { header = header_of s lib; types = ts }))
  unfolding header_bytes
  sheet-length ts e =
      let h : Bytes = encode header (header_of s lib) in
      let m : ℕ = length ts in
      let ls : Bytes = joined u32 (lists.map (λ t. length (encode (type_info edition-one m) t)) ts) in
      let x : length (le_bytes 4 m ++ (le_bytes 4 (length h) ++ ls)) ≡ 4 + (4 + 4 * m) =
      omega (arith, length-append (le_bytes 4 m) (le_bytes 4 (length h) ++ ls), length-append (le_bytes 4 (length h)) ls, length-le_bytes 4 m, length-le_bytes 4 (length h), lengths (λ t. length (encode (type_info edition-one m) t)) ts) in
      let y : length ((le_bytes 4 m ++ (le_bytes 4 (length h) ++ ls)) ++ (h ++ joined (type_info edition-one m) ts)) ≡ 4 + (4 + 4 * m) + (length h + length (joined (type_info edition-one m) ts)) =
      omega (arith, x, length-append (le_bytes 4 m ++ (le_bytes 4 (length h) ++ ls)) (h ++ joined (type_info edition-one m) ts), length-append h (joined (type_info edition-one m) ts)) in
      let z : length (joined (type_info edition-one N) ts) ≡ length (joined (type_info edition-one m) ts) = ap (λ (k : ℕ). length (joined (type_info edition-one k) ts)) (sym e) in
      omega (arith, e, z, y, ap length (sheet-bytes edition-one (record { header = header_of s lib; types = ts })))

  -- the contents and the library's own body, and the types
  pub library-counts : value (figures (8 + 4 * N + length (header_bytes s lib)) 0 0 0 0) ⊕ types_counted s lib ≡ library_counted s lib
  unfolding types_from_counted library_counted
  library-counts =
      list_counted (type_info edition-one N) {h = λ ts. counted_in edition-one (record { header = header_of s lib; types = ts })} (figures (8 + 4 * N + length (header_bytes s lib)) 0 0 0 0) types-sum (types_from s lib N 0) (types-length s lib N 0)
      (λ ts e.
      let f : 0 + sum_of (λ t. length t.functions) ts ≡ sum_of (λ t. length t.functions) ts = omega arith in
      let p : 0 + sum_of type_parameters ts ≡ sum_of type_parameters ts = omega arith in
      let v : 0 + sum_of (λ t. length t.variables) ts ≡ sum_of (λ t. length t.variables) ts = omega arith in
      let r : 0 + sum_of type_references ts ≡ sum_of type_references ts = omega arith in
      rw (sheet-length ts e, f, p, v, r))
      ∙ by (types_of s lib)
    where
      by : (y : Answer (List TypeInfo)) → map (λ ts. counted_in edition-one (record { header = header_of s lib; types = ts })) y ≡ map (counted_in edition-one) (map (λ types. record { header = header_of s lib; types = types }) y)
      by (value ts) = refl
      by (refused n) = refl

  -- the whole from nothing
  pub library-all : (start : ℕ) {n to : ℕ} {r : Count} → n ≡ type_count lib → start ≡ advance 0 (8 + 4 * n) → Measured (value (header_bytes s lib)) start to
      → Counting (types_counted s lib) (record { to = to; functions = 0; parameters = 0; variables = 0; references = 0 }) r → CountingAll (library_counted s lib) r
  library-all start {n} {to} {r} e at h k =
      let first : Count = record { to = 0; functions = 0; parameters = 0; variables = 0; references = 0 } in
      let before : Bytes = le_bytes (8 + 4 * n) 0 in
      let m : Measured (value (before ++ header_bytes s lib)) 0 to = emit.join (ahead-measured 0 at before (length-le_bytes (8 + 4 * n) 0)) h in
      let l : length (before ++ header_bytes s lib) ≡ 8 + 4 * N + length (header_bytes s lib) = omega (arith, length-append before (header_bytes s lib), length-le_bytes (8 + 4 * n) 0, e) in
      let c : Counting (library_counted s lib) first r = known (ap (λ (i : ℕ). value (figures i 0 0 0 0) ⊕ types_counted s lib) l ∙ library-counts) (then (bytes first to m) k) in
      record { is = c.is }
