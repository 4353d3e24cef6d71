-- What each answer of a cursor tells: its value, or the number of the refusal (document 01). A record is its place.
use Rattle.std.specs.Prelude.{ℕ}
use Rattle.records.specs.Told.{refusal_number}
use Rattle.records.specs.declared.answer.Refusal.{Refusal}
use Rattle.cursors.specs.Told.{told_step_as}
use Rattle.cursors.specs.declared.iterators.Step.{Step as StepOf}
use Rattle.cursors.specs.declared.iterators.Step.TheVariants.{Record, Refused}
use Rattle.records.specs.declared.guidentry.GuidEntry.{GuidEntry}
use Rattle.records.specs.declared.impinfo.ImpInfo.{ImpInfo}
use Rattle.records.specs.declared.impfile.ImpFile.{ImpFile}
use Rattle.records.specs.declared.typeinfo.TypeInfoEntry.{TypeInfoEntry}
use Rattle.records.specs.declared.answer.Place.{Place}
use Rattle.table_cursors.specs.declared.iterators.GuidCursor.{GuidCursor}
use Rattle.table_cursors.specs.declared.iterators.ImportCursor.{ImportCursor}
use Rattle.table_cursors.specs.declared.iterators.ImpFileCursor.{ImpFileCursor}
use Rattle.table_cursors.specs.declared.iterators.TypeInfoCursor.{TypeInfoCursor}
use Rattle.table_cursors.specs.declared.iterators.NameCursor.{NameCursor}
use Rattle.records.specs.declared.name.NameEntry.{NameEntry}
use Rattle.cursors.specs.Numbers.{Step, yielded, ended}

abbrev pub told_guid_step : StepOf GuidEntry GuidCursor Refusal → Step Place GuidCursor
told_guid_step (Record r number c) = yielded (record { at = r.at; len = r.len }) number c
told_guid_step (Refused e c) = ended (refusal_number e) c

abbrev pub told_import_step : StepOf ImpInfo ImportCursor Refusal → Step Place ImportCursor
told_import_step (Record r number c) = yielded (record { at = r.at; len = r.len }) number c
told_import_step (Refused e c) = ended (refusal_number e) c

abbrev pub told_imp_file_step : StepOf ImpFile ImpFileCursor Refusal → Step Place ImpFileCursor
told_imp_file_step (Record r number c) = yielded (record { at = r.at; len = r.len }) number c
told_imp_file_step (Refused e c) = ended (refusal_number e) c

abbrev pub told_type_info_step : StepOf TypeInfoEntry TypeInfoCursor Refusal → Step Place TypeInfoCursor
told_type_info_step (Record r number c) = yielded (record { at = r.at; len = r.len }) number c
told_type_info_step (Refused e c) = ended (refusal_number e) c

-- by the number of what refuses
abbrev pub told_name_step_as : {E : Type 0} → (E → ℕ) → StepOf NameEntry NameCursor E → Step NameEntry NameCursor
told_name_step_as number = told_step_as number (λ e. e)

abbrev pub told_name_step : StepOf NameEntry NameCursor Refusal → Step NameEntry NameCursor
told_name_step = told_name_step_as refusal_number
