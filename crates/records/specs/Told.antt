-- What a reply tells: its value, or the number of the refusal (document 01, "Numbers of refusal").
use Rattle.std.specs.Prelude.{ℕ, Ok, Err}
use Rattle.std.specs.declared.result.Result.{Result}
use Rattle.records.specs.Answer.{Answer, value, refused}
use Rattle.records.specs.declared.answer.Place.{Place}
use Rattle.records.specs.declared.answer.Refusal.{Refusal}
use Rattle.records.specs.declared.answer.Refusal.TheVariants.{OverLong, ShortHeader, WrongMagic, BadCount, ShortDirectory, NoSuchTypeInfo, NoTypeInfoTable, ShortTypeInfo, NothingThere, Circle, TooDeep, NoSpace, TooManyTypes}
use Rattle.records.specs.declared.guid.Guid.{Guid}

abbrev pub refusal_number : Refusal → ℕ
refusal_number OverLong = 1
refusal_number ShortHeader = 2
refusal_number WrongMagic = 3
refusal_number BadCount = 4
refusal_number ShortDirectory = 5
refusal_number NoSuchTypeInfo = 6
refusal_number NoTypeInfoTable = 7
refusal_number ShortTypeInfo = 8
refusal_number NothingThere = 9
refusal_number Circle = 10
refusal_number TooDeep = 11
refusal_number NoSpace = 12
refusal_number TooManyTypes = 13

-- by the number of what refuses
abbrev pub told_as : {A E : Type 0} → (E → ℕ) → Result A E → Answer A
told_as number (Ok x) = value x
told_as number (Err e) = refused (number e)

abbrev pub told : {A : Type 0} → Result A Refusal → Answer A
told = told_as refusal_number

-- a record that was answered is its place
abbrev pub told_guid : Result Guid Refusal → Answer Place
told_guid (Ok g) = value (record { at = g.at; len = g.len })
told_guid (Err e) = refused (refusal_number e)
