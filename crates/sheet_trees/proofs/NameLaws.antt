-- Names that are near. Assumes nothing.
use Rattle.std.proofs.Common.{◌≡◌, refl, ap, ◌∙◌, List, ℕ, ◌+◌, ◌≤◌, ◌<◌, arith, length, lt-ltb, le-ltb}
use Rattle.util.specs.Read.{read, or_zero, read-zero}
use Rattle.records.specs.declared.answer.Place.{Place}
use Rattle.records.specs.Answer.{Answer, value}
use Rattle.records.specs.AnswerLaws.{map-value, bind-value}
use Rattle.records.specs.Record.{limit}
use Rattle.typelib.specs.declared.TypeLib.{TypeLib}
use Rattle.typelib.specs.Names.{name_behind, name_bytes}
use Rattle.typelib.specs.Tables.{segment_of, table_of}
use Rattle.typelib.specs.TableLaws.{lent_fits, table_is, table-there, place-there, found}
use Rattle.sheet_trees.specs.declared.names.Names.{Names}
use Rattle.sheet_trees.specs.Names.{Near, name_in}

module _ (s : List ℕ) (lib : TypeLib) where
  -- what ends inside a table when it is longest and as far as `near` is inside wherever it is nearer and shorter
  pub near-table : (table : Place) (near : ℕ) → length s ≤ limit → table ≡ table_of (segment_of lib 7) → 0 < table.len → near + 266 ≤ table.len
      → table.at + table.len ≤ length s → Near s lib (record { at = table.at; near = near })
  near-table table near few e some within inside offset n h k =
      lent_fits s _ _ few
      (bind-value _ _ table _ (table_is (segment_of lib 7) table e some)
      (place-there s table offset n (omega (arith, h, within, inside, few))
      (table-there s table (offset + n) (omega (arith, h, k, within)) (omega (arith, h, k, within, inside)))))

  pub near-name : (t : Names) (offset len : ℕ) → Near s lib t → offset < t.near → len < 256 → len ≡ or_zero (read 1 s (t.at + offset + 8))
      → value (record { at = t.at + offset + 12; len = len }) ≡ name_bytes s lib offset
  near-name t offset len near h short e =
      let intro = near offset 12 h (omega arith) in
      let inside = found s lib 7 offset 12 _ intro in
      bind-value _ _ _ _ intro
      (map-value _ _ _ _ (near offset (12 + len) h (omega (arith, short))) refl
      ∙ ap (name_behind s lib offset) (read-zero 1 s (t.at + offset + 8) len (omega (arith, inside.inside)) e))

  pub near-in : (t : Names) (offset len : ℕ) → offset < t.near → len ≡ or_zero (read 1 s (t.at + offset + 8))
      → value (record { at = t.at + offset + 12; len = len }) ≡ name_in s lib t offset
  unfolding name_in
  near-in t offset len h e = rw (e, lt-ltb offset t.near h)

  pub far-in : (t : Names) (offset : ℕ) {a : Answer Place} → t.near ≤ offset → a ≡ name_bytes s lib offset → a ≡ name_in s lib t offset
  unfolding name_in
  far-in t offset {a} h e = rw (e, le-ltb offset t.near h)
