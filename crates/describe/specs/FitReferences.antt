-- References that are taken from bytes fit the sheet. Assumes nothing.
use Rattle.std.proofs.Math.Path.{refl}
use Rattle.std.specs.Prelude.{Bool, true, false, List, ℕ, ◌+◌, ◌-◌, ◌/◌, ◌^◌, ◌≤◌, ◌<◌}
use Rattle.std.proofs.Common.{arith}
use Rattle.util.specs.Read.{le, le-lt, cond-elim}
use Rattle.records.specs.declared.answer.Place.{Place}
use Rattle.records.specs.Answer.{Answer, value, refused}
use Rattle.records.specs.Counted.{file_name_bytes}
use Rattle.records.specs.Layout.{imp_file, imp_info}
use Rattle.records.specs.Record.{field_place, field_at, bits_of, flag_set, part_of}
use Rattle.records.specs.RecordLaws.{lies}
use Rattle.typelib.specs.declared.TypeLib.{TypeLib}
use Rattle.typelib.specs.Header.{type_count}
use Rattle.typelib.specs.References.{Resolved, dispatch_bit, cleared, href_resolved}
use Rattle.typelib.specs.References.{internal as here, external}
use Rattle.description.specs.Format.{Fits, opt}
use Rattle.description.specs.Description.{own_is_guid}
use Rattle.description.specs.Sheet.{Edition, file, own, import, reference}
use Rattle.description.specs.Fit.{opt-fits, bit-fits, unresolved-fits, internal-fits, imported-fits, misplaced-fits}
use Rattle.describe.specs.Values.{Octets, field_of}
use Rattle.describe.specs.References.{file_with, file_at, file_of, own_of, import_of, is_misplaced, reference_from, reference_of}
use Rattle.describe.specs.MisplacedLaws.{misplaced-only-if}
use Rattle.describe.specs.FieldLaws.{number_lt, field_lt}
use Rattle.describe.specs.Answers.{IfValue, told, anything, answers-bind, answers-map, answers-value, if-found}
use Rattle.describe.specs.Cases.{resolved-cases}
use Rattle.describe.specs.FitValues.{guid-fits, counted-part}

-- a number without a bit of it is no greater
cleared-le : (h : ℕ) → cleared h ≤ h
cleared-le h = cond-elim (λ (c : ℕ). c ≤ h) (flag_set dispatch_bit h) (h - dispatch_bit) h (λ _. omega arith) (λ _. omega arith)

module _ (s : List ℕ) (octets : Octets s) where
  -- a number that is read of a record is below its width's power of 256
  pub read-lt : (w fixed offset at len : ℕ) → IfValue (λ n. n < 256 ^ w) (field_at w fixed offset s at len)
  read-lt w fixed offset at len =
      answers-map (λ p. le w s p.at) (anything (field_place w fixed offset s at len)) (λ p _. le-lt w s p.at octets)

  file-name : (at len : ℕ) → IfValue (λ p. p.len < 256 ^ 2) (file_name_bytes s at len)
  file-name at len =
      answers-bind (read-lt 2 14 12 at len) (λ size h.
      told (field_place (size / 4) 14 14 s at len) (λ p e. omega (arith, (lies (size / 4) 14 14 s at len p e).size)))

  module _ (lib : TypeLib) where
    file-at : (p : Place) → IfValue (Fits file) (file_at s lib p)
    unfolding file
    file-at p =
        answers-map (file_with s lib p.at)
        (answers-map (λ q. part_of s (value q)) (file-name p.at p.len) (counted-part s octets 2))
        (λ bs h. (
          guid-fits s octets lib (field_of imp_file "GUID offset" s p.at),
          (field_lt s octets imp_file "LCID" p.at, (number_lt s octets 4 (p.at + 8), h)),
        ))

    file-fits : (a : Answer Place) → Fits (opt file) (file_of s lib a)
    unfolding file_of
    file-fits a = opt-fits file (if-found (answers-bind (anything a) (λ p _. file-at p)))

    own-fits : (b : Bool) (x : ℕ) → x < 256 ^ 4 → Fits (own b) (own_of s lib b x)
    own-fits true x h = guid-fits s octets lib x
    own-fits false x h = h

    import-fits : (bit at : ℕ) (a : Answer Place) → bit < 2 → Fits import (import_of s lib bit at a)
    unfolding import
    import-fits bit at a h = (
      bit-fits bit h,
      (
        field_lt s octets imp_info "flags" at,
        (
          own-fits (own_is_guid (field_of imp_info "flags" s at)) (field_of imp_info "oGuid" s at) (field_lt s octets imp_info "oGuid" at),
          file-fits a,
        ),
      ),
    )

    -- ---- the index is that of a type

    abbrev Inside : Resolved → Type 0
    Inside (here i) = i < type_count lib
    Inside (external p a) = Unit {0}

    href-inside : (h : ℕ) → IfValue Inside (href_resolved s lib h)
    href-inside = resolved-cases s lib Inside (λ i k. k) (λ _ _ _. tt)

    module _ (e : Edition) (room : type_count lib ≤ 256 ^ e.index_width) where
      from-fits : (bit : ℕ) (a : Answer Resolved) → bit < 2 → IfValue Inside a → Fits (reference e (type_count lib)) (reference_from s lib bit a)
      unfolding reference_from
      from-fits bit (value (here i)) h k =
          let j : i < type_count lib = answers-value k refl in
          internal-fits e (type_count lib) (record { bit = bit; index = i }) h (omega arith) j
      from-fits bit (value (external p a)) h k =
          imported-fits e (type_count lib) (import_of s lib bit p.at a) (import-fits bit p.at a h)
      from-fits bit (refused n) h k = unresolved-fits e (type_count lib)

      pub reference-fits : (h : ℕ) → Fits (reference e (type_count lib)) (reference_of s lib h)
      unfolding reference_of
      reference-fits h =
          cond-elim (Fits (reference e (type_count lib))) (is_misplaced h) _ _
          (λ m.
          misplaced-fits e (type_count lib) (record { bit = bits_of 24 1 h; offset = cleared h }) (omega arith)
          (omega (arith, cleared-le h, (misplaced-only-if h m).not_negative)))
          (λ _. from-fits (bits_of 24 1 h) (href_resolved s lib h) (omega arith) (href-inside h))
