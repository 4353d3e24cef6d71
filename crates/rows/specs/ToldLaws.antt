-- Records and steps are told by their places. Assumes nothing.
use Rattle.std.specs.Prelude.{◌≡◌, refl, ℕ, Ok, Err}
use Rattle.std.specs.declared.result.Result.{Result}
use Rattle.records.specs.Answer.{Answer, map}
use Rattle.records.specs.Told.{refusal_number, told, told_as, told_guid}
use Rattle.records.specs.declared.answer.Place.{Place}
use Rattle.records.specs.declared.answer.Refusal.{Refusal}
use Rattle.records.specs.declared.guid.Guid.{Guid}
use Rattle.records.specs.declared.arraydesc.ArrayDesc.{ArrayDesc}
use Rattle.records.specs.declared.guidentry.GuidEntry.{GuidEntry}
use Rattle.records.specs.declared.impfile.ImpFile.{ImpFile}
use Rattle.records.specs.declared.impinfo.ImpInfo.{ImpInfo}
use Rattle.records.specs.declared.typeinfo.TypeInfoEntry.{TypeInfoEntry}
use Rattle.member_records.specs.Told.{told_var}
use Rattle.member_records.specs.declared.func.FuncRecord.{FuncRecord}
use Rattle.member_records.specs.declared.param.ParameterInfo.{ParameterInfo}
use Rattle.member_records.specs.declared.var.VarRecord.{VarRecord}
use Rattle.typelib.specs.Told.{told_array_desc, told_imp_file, told_index, told_hreftype, told_hreftype_as, told_resolved, told_resolved_as, told_type_info}
use Rattle.typelib.specs.References.{Resolved}
use Rattle.typelib.specs.declared.TypeInfoIndex.{TypeInfoIndex}
use Rattle.typelib.specs.declared.references.ResolvedHreftype.{ResolvedHreftype}
use Rattle.cursors.specs.Numbers.{Step}
use Rattle.cursors.specs.Told.{told_func_step, told_param_step, told_var_step}
use Rattle.cursors.specs.declared.iterators.Step.{Step as StepOf}
use Rattle.cursors.specs.declared.iterators.Step.TheVariants.{Record, Refused}
use Rattle.cursors.specs.declared.iterators.FuncCursor.{FuncCursor}
use Rattle.cursors.specs.declared.iterators.ParamCursor.{ParamCursor}
use Rattle.cursors.specs.declared.iterators.VarCursor.{VarCursor}
use Rattle.table_cursors.specs.Told.{told_guid_step, told_imp_file_step, told_import_step, told_type_info_step}
use Rattle.table_cursors.specs.declared.iterators.GuidCursor.{GuidCursor}
use Rattle.table_cursors.specs.declared.iterators.ImpFileCursor.{ImpFileCursor}
use Rattle.table_cursors.specs.declared.iterators.ImportCursor.{ImportCursor}
use Rattle.table_cursors.specs.declared.iterators.TypeInfoCursor.{TypeInfoCursor}
use Rattle.rows.specs.Told.{told_by, told_step}

-- ---- records

pub guid-told : (a : Result Guid Refusal) → told_by (λ r. record { at = r.at; len = r.len }) a ≡ told_guid a
guid-told (Ok r) = refl
guid-told (Err e) = refl

pub var-told : (a : Result VarRecord Refusal) → told_by (λ r. record { at = r.at; len = r.len }) a ≡ told_var a
var-told (Ok r) = refl
var-told (Err e) = refl

pub type-info-told : (a : Result TypeInfoEntry Refusal) → told_by (λ r. record { at = r.at; len = r.len }) a ≡ told_type_info a
type-info-told (Ok r) = refl
type-info-told (Err e) = refl

pub array-desc-told : (a : Result ArrayDesc Refusal) → told_by (λ r. record { at = r.at; len = r.len }) a ≡ told_array_desc a
array-desc-told (Ok r) = refl
array-desc-told (Err e) = refl

pub imp-file-told : (a : Result ImpFile Refusal) → told_by (λ r. record { at = r.at; len = r.len }) a ≡ told_imp_file a
imp-file-told (Ok r) = refl
imp-file-told (Err e) = refl

-- ---- values

pub index-told : {B : Type 0} (f : ℕ → B) (a : Result TypeInfoIndex Refusal) → map (λ (i : TypeInfoIndex). f i.0) (told a) ≡ map f (told_index a)
index-told f (Ok i) = refl
index-told f (Err e) = refl

-- whatever refuses the file, and the answer
pub resolved-told-as : {F E B : Type 0} (within : F → ℕ) (number : E → ℕ) (f : Resolved → B) (a : Result (ResolvedHreftype F) E)
    → map (λ (x : ResolvedHreftype F). f (told_hreftype_as within x)) (told_as number a) ≡ map f (told_resolved_as within number a)
resolved-told-as within number f (Ok x) = refl
resolved-told-as within number f (Err e) = refl

pub resolved-told : {B : Type 0} (f : Resolved → B) (a : Result (ResolvedHreftype Refusal) Refusal)
    → map (λ (x : ResolvedHreftype Refusal). f (told_hreftype x)) (told a) ≡ map f (told_resolved a)
resolved-told = resolved-told-as refusal_number refusal_number

-- ---- steps

pub func-step-told : (a : StepOf FuncRecord FuncCursor Refusal) → told_step (λ r. record { at = r.at; len = r.len }) a ≡ told_func_step a
func-step-told (Record r number c) = refl
func-step-told (Refused e c) = refl

pub var-step-told : (a : StepOf VarRecord VarCursor Refusal) → told_step (λ r. record { at = r.at; len = r.len }) a ≡ told_var_step a
var-step-told (Record r number c) = refl
var-step-told (Refused e c) = refl

pub param-step-told : (a : StepOf ParameterInfo ParamCursor Refusal) → told_step (λ r. record { at = r.at; len = r.len }) a ≡ told_param_step a
param-step-told (Record r number c) = refl
param-step-told (Refused e c) = refl

pub guid-step-told : (a : StepOf GuidEntry GuidCursor Refusal) → told_step (λ r. record { at = r.at; len = r.len }) a ≡ told_guid_step a
guid-step-told (Record r number c) = refl
guid-step-told (Refused e c) = refl

pub import-step-told : (a : StepOf ImpInfo ImportCursor Refusal) → told_step (λ r. record { at = r.at; len = r.len }) a ≡ told_import_step a
import-step-told (Record r number c) = refl
import-step-told (Refused e c) = refl

pub imp-file-step-told : (a : StepOf ImpFile ImpFileCursor Refusal) → told_step (λ r. record { at = r.at; len = r.len }) a ≡ told_imp_file_step a
imp-file-step-told (Record r number c) = refl
imp-file-step-told (Refused e c) = refl

pub type-info-step-told : (a : StepOf TypeInfoEntry TypeInfoCursor Refusal) → told_step (λ r. record { at = r.at; len = r.len }) a ≡ told_type_info_step a
type-info-step-told (Record r number c) = refl
type-info-step-told (Refused e c) = refl
