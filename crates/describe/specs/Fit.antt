-- THE DESCRIPTION THAT IS TAKEN FROM BYTES FITS THE SHEET of every edition whose internal references have room for the types
-- that it allows. Assumes nothing.
use Rattle.std.specs.Prelude.{◌≡◌, List, ℕ, ◌^◌, ◌≤◌, ◌<◌, ltb}
use Rattle.std.proofs.Common.{sym, ◌∙◌, arith, lit<}
use Rattle.std.proofs.Math.Path.{subst}
use Rattle.std.proofs.Math.ListN.{length}
use borrow.Author.Tests.{ltb-false}
use Rattle.util.specs.Read.{cond-elim}
use Rattle.records.specs.Answer.{value}
use Rattle.records.specs.Record.{limit}
use Rattle.typelib.specs.declared.TypeLib.{TypeLib}
use Rattle.typelib.specs.Header.{header, parse_of, type_count}
use Rattle.description.specs.Format.{Fits, Each}
use Rattle.description.specs.Description.{Library}
use Rattle.description.specs.Sheet.{Edition, edition-one, type_info, sheet, sheet_bytes}
use Rattle.description.specs.Sheet as sheet
use Rattle.description.specs.Fit.{Fitting}
use Rattle.description.proofs.Fit.{fitting-fits}
use Rattle.describe.specs.Values.{Octets, field_of}
use Rattle.describe.specs.Types.{types_from}
use Rattle.describe.specs.Describe.{header_of, describe_as, describe}
use Rattle.describe.specs.FieldLaws.{field_lt}
use Rattle.describe.specs.Answers.{IfValue, refuses, anything, answers-bind, answers-map, answers-all, answers-value}
use Rattle.describe.specs.FitValues.{guid-fits, name-fits}
use Rattle.describe.specs.FitTypes.{types-length, types-fit}

-- an internal reference has room for the index of every type
abbrev pub Roomy : Edition → Type 0
Roomy e = e.most_types < 256 ^ e.index_width

pub edition-one-roomy : Roomy edition-one
edition-one-roomy = lit< tt

module _ (e : Edition) (roomy : Roomy e) (s : List ℕ) (octets : Octets s) where
  header-fits : (lib : TypeLib) → Fits sheet.header (header_of s lib)
  unfolding header_of sheet.header
  header-fits lib = (
    field_lt s octets header "lcid" 0,
    (
      field_lt s octets header "version" 0,
      (guid-fits s octets lib (field_of header "posguid" s 0), name-fits s octets lib (field_of header "NameOffset" s 0)),
    ),
  )

  library-fitting : (lib : TypeLib) → IfValue (Fitting e) (describe_as e s lib)
  unfolding describe_as
  library-fitting lib =
      cond-elim (IfValue (Fitting e)) (ltb e.most_types (type_count lib)) _ _ (λ _. refuses tt) (λ h.
      let few : type_count lib ≤ e.most_types = ltb-false e.most_types (type_count lib) h in
      answers-map (λ types. record { header = header_of s lib; types = types })
      (answers-all (types_from s lib (type_count lib) 0) (types-fit s octets lib e (omega arith) (type_count lib) 0)) (λ types f.
      let q : length types ≡ type_count lib = f.0 ∙ types-length s lib (type_count lib) 0 in
      record {
        header = header-fits lib;
        types = subst (λ (n : ℕ). Each (Fits (type_info e n)) types) (sym q) f.1;
        count = omega arith;
      }))

  fitting : IfValue (Fitting e) (describe e s)
  unfolding describe
  fitting = answers-bind (anything (parse_of s)) (λ lib _. library-fitting lib)

  -- each field of the description fits
  pub described-fitting : (d : Library) → describe e s ≡ value d → Fitting e d
  described-fitting d h = answers-value fitting h

  -- and the description has a sheet, if that is not too long
  pub described-fits : (d : Library) → describe e s ≡ value d → length (sheet_bytes e d) ≤ limit → Fits (sheet e) d
  described-fits d h k = fitting-fits e d (described-fitting d h) (omega arith)
