-- What each answer of a cursor tells: its value, or the number of the refusal (document 01). A record is its place.
use Rattle.std.specs.Prelude.{ℕ, ◌+◌, Option, Some, None, Ok, Err}
use Rattle.std.specs.declared.result.Result.{Result}
use Rattle.records.specs.declared.answer.Refusal.{Refusal}
use Rattle.records.specs.Told.{refusal_number}
use Rattle.cursors.specs.declared.iterators.Step.{Step as StepOf}
use Rattle.cursors.specs.declared.iterators.Step.TheVariants.{Record, Refused}
use Rattle.member_records.specs.declared.func.FuncRecord.{FuncRecord}
use Rattle.member_records.specs.declared.var.VarRecord.{VarRecord}
use Rattle.member_records.specs.declared.param.ParameterInfo.{ParameterInfo}
use Rattle.records.specs.declared.answer.Place.{Place}
use Rattle.records.specs.Answer.{Answer, value, refused}
use Rattle.cursors.specs.declared.iterators.FuncCursor.{FuncCursor}
use Rattle.cursors.specs.declared.iterators.VarCursor.{VarCursor}
use Rattle.cursors.specs.declared.iterators.ParamCursor.{ParamCursor}
use Rattle.cursors.specs.Numbers.{Step, yielded, ended}

-- a step, told by what its record is told as, and by the number of what refuses
abbrev pub told_step_as : {R P C E : Type 0} → (E → ℕ) → (R → P) → StepOf R C E → Step P C
told_step_as number told_of (Record r n c) = yielded (told_of r) n c
told_step_as number told_of (Refused e c) = ended (number e) c

abbrev pub told_func_step : StepOf FuncRecord FuncCursor Refusal → Step Place FuncCursor
told_func_step (Record r number c) = yielded (record { at = r.at; len = r.len }) number c
told_func_step (Refused e c) = ended (refusal_number e) c

abbrev pub told_var_step : StepOf VarRecord VarCursor Refusal → Step Place VarCursor
told_var_step (Record r number c) = yielded (record { at = r.at; len = r.len }) number c
told_var_step (Refused e c) = ended (refusal_number e) c

abbrev pub told_param_step : StepOf ParameterInfo ParamCursor Refusal → Step Place ParamCursor
told_param_step (Record r number c) = yielded (record { at = r.at; len = r.len }) number c
told_param_step (Refused e c) = ended (refusal_number e) c
