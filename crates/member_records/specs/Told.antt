-- The reply of `from_raw` of a variable's record as an answer. Assumes nothing.
use Rattle.std.specs.Prelude.{Ok, Err}
use Rattle.std.specs.declared.result.Result.{Result}
use Rattle.records.specs.declared.answer.Refusal.{Refusal}
use Rattle.records.specs.Told.{refusal_number}
use Rattle.member_records.specs.declared.var.VarRecord.{VarRecord}
use Rattle.records.specs.declared.answer.Place.{Place}
use Rattle.records.specs.Answer.{Answer, value, refused}

abbrev pub told_var : Result VarRecord Refusal → Answer Place
told_var (Ok v) = value (record { at = v.at; len = v.len })
told_var (Err e) = refused (refusal_number e)
