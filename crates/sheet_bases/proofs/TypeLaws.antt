-- A type's emissions, one behind the other, are those of its format. Assumes nothing.
use Rattle.typelib.specs.Header.{type_count}
use Rattle.std.specs.Prelude.{◌≡◌, refl, List, ℕ, ◌+◌, ◌/◌, ◌%◌, ◌^◌}
use Rattle.std.proofs.Common.{sym, ap, ◌∙◌, append_assoc}
use Rattle.util.specs.Read.{read, or_zero}
use Rattle.records.specs.declared.answer.Place.{Place}
use Rattle.records.specs.declared.typeinfo.TypeInfoEntry.{TypeInfoEntry}
use Rattle.records.specs.Answer.{Answer, value, refused, map, bind}
use Rattle.typelib.specs.declared.TypeLib.{TypeLib}
use Rattle.typelib.specs.TypeInfos.{typeinfo_of}
use Rattle.description.specs.Format.{encode, opt, list, le_bytes}
use Rattle.description.specs.Description.{base_shape_of, Base, Function, Variable}
use Rattle.description.specs.Sheet.{edition-one, u16, guid, name, base, function, variable, type_info}
use Rattle.describe.specs.Values.{all}
use Rattle.describe.specs.References.{guid_of}
use Rattle.describe.specs.Members.{name_of, functions_of, variables_of}
use Rattle.describe.specs.Types.{base_of, kind_at, type_with, type_at, type_of}
use Rattle.emit.specs.Emit.{◌▸◌}
use Rattle.sheet_bases.specs.Bases.{shape_emitted, base_emitted}
use Rattle.sheet_bases.specs.Types.{head_bytes, names_bytes}

pub head-is : (s : List ℕ) (at kind : ℕ)
    → value (le_bytes 1 kind) ▸ (value (le_bytes 4 (or_zero (read 4 s (at + 48)))) ▸ value (le_bytes 4 (or_zero (read 4 s (at + 56))))) ≡ value (head_bytes s at kind)
unfolding head_bytes
head-is s at kind = refl

module _ (s : List ℕ) (lib : TypeLib) where
  pub names-is : (at : ℕ) {declared g n f v : ℕ} → declared ≡ or_zero (read 4 s (at + 24)) → g ≡ or_zero (read 4 s (at + 44)) → n ≡ or_zero (read 4 s (at + 52))
      → f ≡ declared / 2 ^ 0 % 2 ^ 16 → v ≡ declared / 2 ^ 16 % 2 ^ 16
      → value (encode (opt guid) (guid_of s lib g)) ▸ (value (encode (opt name) (name_of s lib n)) ▸ (value (le_bytes 2 f) ▸ value (le_bytes 2 v))) ≡ value (names_bytes s lib at)
  unfolding names_bytes
  names-is at {declared} {g} {n} {f} {v} e h k i j = rw (h, k, i, j, e)

  pub type-is : (ti : TypeInfoEntry) {w kind : ℕ} → w ≡ or_zero (read 4 s (ti.at + 0)) → kind ≡ w / 2 ^ 0 % 2 ^ 4
      → value (head_bytes s ti.at kind)
      ▸ (value (names_bytes s lib ti.at)
      ▸ (base_emitted s lib ti kind
      ▸ (map (encode (list u16 (function edition-one (type_count lib)))) (all (functions_of s lib ti))
      ▸ map (encode (list u16 (variable edition-one (type_count lib)))) (all (variables_of s lib ti)))))
      ≡ map (encode (type_info edition-one (type_count lib))) (type_at s lib ti)
  unfolding type_at type_info head_bytes names_bytes base_emitted shape_emitted
  type-is ti {w} {kind} e f =
      let q : kind ≡ kind_at s ti.at = f ∙ ap (λ x. x / 2 ^ 0 % 2 ^ 4) e in
      ap (λ k. value (head_bytes s ti.at k) ▸ (value (names_bytes s lib ti.at) ▸ (base_emitted s lib ti k ▸ (map (encode (list u16 (function edition-one (type_count lib)))) (all (functions_of s lib ti)) ▸ map (encode (list u16 (variable edition-one (type_count lib)))) (all (variables_of s lib ti)))))) q
      ∙ (by (base_of s lib ti (base_shape_of (kind_at s ti.at))) (all (functions_of s lib ti)) (all (variables_of s lib ti)))
    where
      by : (b : Answer (Base (base_shape_of (kind_at s ti.at)))) (fs : Answer (List Function)) (vs : Answer (List Variable))
          → value (head_bytes s ti.at (kind_at s ti.at))
          ▸ (value (names_bytes s lib ti.at)
          ▸ (map (encode (base edition-one (type_count lib) (base_shape_of (kind_at s ti.at)))) b
          ▸ (map (encode (list u16 (function edition-one (type_count lib)))) fs ▸ map (encode (list u16 (variable edition-one (type_count lib)))) vs)))
          ≡ map (encode (type_info edition-one (type_count lib))) (bind b (λ under. bind fs (λ functions. map (type_with s lib ti.at under functions) vs)))
      by (value b) (value fs) (value vs) = simp append_assoc
      by (value b) (value fs) (refused n) = refl
      by (value b) (refused n) vs = refl
      by (refused n) fs vs = refl

  pub type-found : (i : ℕ) (a : Answer Place) {ti : TypeInfoEntry} → a ≡ typeinfo_of s lib i → a ≡ value (record { at = ti.at; len = ti.len })
      → map (encode (type_info edition-one (type_count lib))) (type_at s lib ti) ≡ map (encode (type_info edition-one (type_count lib))) (type_of s lib i)
  unfolding type_of
  type-found i a {ti} e f = let q : typeinfo_of s lib i ≡ value (record { at = ti.at; len = ti.len }) = sym e ∙ f in rw q

  pub type-missing : (i : ℕ) (a : Answer Place) {n : ℕ} → a ≡ typeinfo_of s lib i → a ≡ refused n → refused n ≡ map (encode (type_info edition-one (type_count lib))) (type_of s lib i)
  unfolding type_of
  type-missing i a {n} e f = let q : typeinfo_of s lib i ≡ refused n = sym e ∙ f in rw q
