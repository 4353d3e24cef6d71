use Rattle.records.specs.RecordLaws.{field-number}
use Rattle.records.specs.Told.{told}
use Rattle.records.specs.declared.answer.Refusal.TheVariants.{NothingThere}
use Rattle.std.specs.Prelude.{ok_or}
use Rattle.std.proofs.Common.{◌∙◌, ap}
use Rattle.records.proofs.field.U32Number.number.Goals as goal

pub returns : goal.returns
returns c = ap told c.ok_or.ensures.value ∙ ap (λ r. told (ok_or r NothingThere)) c.read_le.ensures ∙ field-number 4 _ _ _ _ _ _ _ c.in_ok-place.ensures
