-- What each answer tells: its value, or the number of the refusal (document 01). A record that was answered is its place.
use Rattle.std.specs.Prelude.{ℕ, Ok, Err}
use Rattle.std.specs.declared.result.Result.{Result}
use Rattle.records.specs.declared.answer.Refusal.{Refusal}
use Rattle.records.specs.Told.{refusal_number, told}
use Rattle.typelib.specs.declared.TypeInfoOffset.{TypeInfoOffset}
use Rattle.typelib.specs.declared.TypeInfoIndex.{TypeInfoIndex}
use Rattle.records.specs.declared.typeinfo.TypeInfoEntry.{TypeInfoEntry}
use Rattle.records.specs.declared.arraydesc.ArrayDesc.{ArrayDesc}
use Rattle.records.specs.declared.impfile.ImpFile.{ImpFile}
use Rattle.records.specs.declared.answer.Place.{Place}
use Rattle.records.specs.Answer.{Answer, value, refused, map}
use Rattle.typelib.specs.declared.references.ResolvedHreftype.{ResolvedHreftype}
use Rattle.typelib.specs.declared.references.ResolvedHreftype.TheVariants as href
use Rattle.typelib.specs.References.{Resolved, internal, external}

abbrev pub told_offset : Result TypeInfoOffset Refusal → Answer ℕ
told_offset r = map (λ o. o.0) (told r)

abbrev pub told_type_info : Result TypeInfoEntry Refusal → Answer Place
told_type_info (Ok t) = value (record { at = t.at; len = t.len })
told_type_info (Err e) = refused (refusal_number e)

abbrev pub told_array_desc : Result ArrayDesc Refusal → Answer Place
told_array_desc (Ok d) = value (record { at = d.at; len = d.len })
told_array_desc (Err e) = refused (refusal_number e)

-- an import file; `number` is of what refuses it
abbrev pub told_imp_file_as : {E : Type 0} → (E → ℕ) → Result ImpFile E → Answer Place
told_imp_file_as number (Ok f) = value (record { at = f.at; len = f.len })
told_imp_file_as number (Err e) = refused (number e)

abbrev pub told_imp_file : Result ImpFile Refusal → Answer Place
told_imp_file = told_imp_file_as refusal_number

abbrev pub told_index : Result TypeInfoIndex Refusal → Answer ℕ
told_index (Ok i) = value i.0
told_index (Err e) = refused (refusal_number e)

-- what an hreftype refers to; `number` is of what refuses the file
abbrev pub told_hreftype_as : {F : Type 0} → (F → ℕ) → ResolvedHreftype F → Resolved
told_hreftype_as number (href.Internal i) = internal i.0
told_hreftype_as number (href.External info file) = external (record { at = info.at; len = info.len }) (told_imp_file_as number file)

abbrev pub told_hreftype : ResolvedHreftype Refusal → Resolved
told_hreftype = told_hreftype_as refusal_number

-- the same answered; `within` is of what refuses the file, `number` of what refuses the answer
abbrev pub told_resolved_as : {F E : Type 0} → (F → ℕ) → (E → ℕ) → Result (ResolvedHreftype F) E → Answer Resolved
told_resolved_as within number (Ok r) = value (told_hreftype_as within r)
told_resolved_as within number (Err e) = refused (number e)

abbrev pub told_resolved : Result (ResolvedHreftype Refusal) Refusal → Answer Resolved
told_resolved = told_resolved_as refusal_number refusal_number
