-- How many bytes the parts have that the sizes count. Assumes nothing.
use mathlib.Core.Path.{◌≡◌, refl, sym, ap, ap₂, ◌∙◌}
use mathlib.Core.List.{List, [], ◌∷◌, ◌++◌, append_assoc}
use mir.Syntax.{w32}
use mir.Val.{of_z}
use lib.IntN.{ℤ}
use Prim.Native.Nat.{ℕ, suc, ◌+◌, ◌*◌, ◌/◌, ◌%◌, ◌^◌, ◌≤◌}
use native.Mathlib.Omega.{arith}
use lib.ListN.{length, length-append}
use Rattle.util.specs.Read.{le, read, or_zero}
use Rattle.records.specs.declared.answer.Place.{Place}
use Rattle.records.specs.Answer.{Answer, value, refused}
use Rattle.records.specs.Record.{part_of}
use Rattle.typelib.specs.declared.TypeLib.{TypeLib}
use Rattle.typelib.specs.Names.{guid_place, name_bytes}
use Rattle.typelib.specs.Tables.{table_place}
use Rattle.typelib.specs.TableLaws.{found as found-place}
use Rattle.description.specs.Format.{encode, opt, le_bytes, length-le_bytes}
use Rattle.description.specs.Description.{Bytes}
use Rattle.description.specs.Sheet.{u32, guid, name, header}
use Rattle.describe.specs.Describe.{header_of}
use Rattle.describe.specs.Answers.{IfValue, told, anything, answers-bind, answers-map, answers-value}
use Rattle.describe.specs.FitValues.{part_length}
use Rattle.describe.specs.References.{guid_of}
use Rattle.describe.specs.Members.{name_of, name_by, memid_by}
use Rattle.emit.specs.Emit.{Put, put, advance, Emitted}
use Rattle.emit.specs.Laws.{known, join}
use Rattle.sheet_members.specs.Words.{function_words}
use Rattle.sheet_bases.specs.Types.{head_bytes, names_bytes}
use Rattle.sheet_bases.proofs.TypeLaws.{names-is}
use Rattle.sheet_sizes.specs.Counts.{Measured}
use Rattle.sheet_sizes.specs.Counted.{header_bytes}
use Rattle.sheet_sizes.proofs.CountLaws.{ahead-measured}

-- ---- bytes behind one another

pub longer : (a b : Bytes) {m n : ℕ} → length a ≡ m → length b ≡ n → length (a ++ b) ≡ m + n
longer a b f g = length-append a b ∙ ap₂ ◌+◌ f g

pub words-length : (s : List ℕ) (at : ℕ) → length (function_words s at) ≡ 14
unfolding function_words
words-length s at = simp (length-append, length-le_bytes)

pub head-length : (s : List ℕ) (at kind : ℕ) → length (head_bytes s at kind) ≡ 9
unfolding head_bytes
head-length s at kind = simp (length-append, length-le_bytes)

-- ---- names and GUIDs

module _ (s : List ℕ) (lib : TypeLib) where
  name-inside : (offset : ℕ) → IfValue (λ p. p.at + p.len ≤ length s) (name_bytes s lib offset)
  name-inside offset =
      answers-bind (anything (table_place s lib 7 offset 12)) (λ intro _.
      let n : ℕ = le 1 s (intro.at + 8) in
      answers-map (λ p. record { at = p.at + 12; len = n })
      (told (table_place s lib 7 offset (12 + n)) (λ p e. found-place s lib 7 offset (12 + n) p e))
      (λ p h. omega (arith, h.inside)))

  pub name-room : (offset : ℕ) {p : Place} → value p ≡ name_bytes s lib offset → p.at + p.len ≤ length s
  name-room offset e = answers-value (name-inside offset) (sym e)

  module _ (offset to r : ℕ) where
    pub guid-there : {p : Place} → value p ≡ guid_place s lib offset → r ≡ advance to 17 → Measured (value (encode (opt guid) (guid_of s lib offset))) to r
    unfolding guid_of opt guid
    guid-there {p} e m =
        let h = found-place s lib 5 offset 16 p e in
        rw (← e) (ahead-measured _ m (1 ∷ part_of s (value p)) (omega (arith, part_length s p (omega (arith, h.inside, h.whole)), h.whole)))

    pub guid-missing : {n : ℕ} → refused n ≡ guid_place s lib offset → r ≡ advance to 1 → Measured (value (encode (opt guid) (guid_of s lib offset))) to r
    unfolding guid_of opt
    guid-missing {n} e m = rw (← e) (ahead-measured _ m (0 ∷ []) refl)

    pub name-there : {p : Place} → value p ≡ name_bytes s lib offset → r ≡ advance to (2 + p.len) → Measured (value (encode (opt name) (name_of s lib offset))) to r
    unfolding name_of opt name
    name-there {p} e m =
        let bs : Bytes = part_of s (value p) in
        let k : length (le_bytes 1 (length bs) ++ bs) ≡ 1 + length bs = longer (le_bytes 1 (length bs)) bs (length-le_bytes 1 _) refl in
        rw (← e) (ahead-measured _ m (1 ∷ (le_bytes 1 (length bs) ++ bs)) (omega (arith, k, part_length s p (name-room offset e))))

    pub name-missing : {n : ℕ} → refused n ≡ name_bytes s lib offset → r ≡ advance to 1 → Measured (value (encode (opt name) (name_of s lib offset))) to r
    unfolding name_of opt
    name-missing {n} e m = rw (← e) (ahead-measured _ m (0 ∷ []) refl)

  module _ {o : Answer ℤ} (to r : ℕ) where
    pub name-by-there : {z : ℤ} → o ≡ value z → Measured (value (encode (opt name) (name_of s lib (of_z w32 z)))) to r → Measured (value (encode (opt name) (name_by s lib o))) to r
    unfolding name_of name_by
    name-by-there {z} e m = rw e m

    pub name-by-missing : {n : ℕ} → o ≡ refused n → r ≡ advance to 1 → Measured (value (encode (opt name) (name_by s lib o))) to r
    unfolding name_by opt
    name-by-missing {n} e m = rw e (ahead-measured _ m (0 ∷ []) refl)

  -- how many functions and variables are declared is four bytes behind the GUID and the name
  pub names-counted : (at w k : ℕ) {g n : ℕ} {t u : Put} → g ≡ or_zero (read 4 s (at + 44)) → n ≡ or_zero (read 4 s (at + 52))
      → Emitted (value (encode (opt guid) (guid_of s lib g))) t [] u [] → Emitted (value (encode (opt name) (name_of s lib n))) u [] (put w) []
      → k ≡ advance w 4 → Emitted (value (names_bytes s lib at)) t [] (put k) []
  names-counted at w k e f a b m =
      let d : ℕ = or_zero (read 4 s (at + 24)) in
      let low : Bytes = le_bytes 2 (d / 2 ^ 0 % 2 ^ 16) in
      let high : Bytes = le_bytes 2 (d / 2 ^ 16 % 2 ^ 16) in
      known (names-is s lib at refl e f refl refl) (join a (join b (ahead-measured _ m (low ++ high) (longer low high (length-le_bytes 2 _) (length-le_bytes 2 _)))))

  -- the library's own body: two words, the GUID and the name
  pub header-counted : (w k : ℕ) {g n : ℕ} {r : Put} → k ≡ advance w 8 → g ≡ or_zero (read 4 s (0 + 8)) → n ≡ or_zero (read 4 s (0 + 56))
      → {u : Put} → Emitted (value (encode (opt guid) (guid_of s lib g))) (put k) [] u [] → Emitted (value (encode (opt name) (name_of s lib n))) u [] r []
      → Emitted (value (header_bytes s lib)) (put w) [] r []
  unfolding header_bytes header_of header
  header-counted w k {g} {n} {r} m e f {u} a b =
      let low : Bytes = le_bytes 4 (or_zero (read 4 s (0 + 12))) in
      let high : Bytes = le_bytes 4 (or_zero (read 4 s (0 + 24))) in
      rw (e, f) at (known (ap value (append_assoc low high _)) (join (ahead-measured _ m (low ++ high) (longer low high (length-le_bytes 4 _) (length-le_bytes 4 _))) (join a b)))

module _ {m : Answer ℤ} (to r : ℕ) where
  pub memid-there : {z : ℤ} → m ≡ value z → r ≡ advance to 5 → Measured (value (encode (opt u32) (memid_by m))) to r
  unfolding memid_by opt
  memid-there {z} e f = rw e (ahead-measured _ f (1 ∷ le_bytes 4 (of_z w32 z)) (ap suc (length-le_bytes 4 _)))

  pub memid-missing : {n : ℕ} → m ≡ refused n → r ≡ advance to 1 → Measured (value (encode (opt u32) (memid_by m))) to r
  unfolding memid_by opt
  memid-missing {n} e f = rw e (ahead-measured _ f (0 ∷ []) refl)
