use Rattle.std.proofs.Common.{arith, sym, ap, ◌∙◌}
use Rattle.records.specs.Told.{told}
use Rattle.sheet_sizes.proofs.SizeLaws.{name-there, name-missing, name-room}
use Rattle.sheet_sizes.proofs.names.after_name.Goals as goal

pub overflow_add-p : goal.overflow_add-p
overflow_add-p c = omega (arith, name-room _ _ _ (sym (ap told c.in-Ok.is) ∙ c.name_at.ensures.near_name c.requires))

pub returns-in-Ok : goal.returns-in-Ok
returns-in-Ok c = name-there _ _ _ _ _ (sym (ap told c.in-Ok.is) ∙ c.name_at.ensures.near_name c.requires) c.ahead.ensures

pub returns-in-Err : goal.returns-in-Err
returns-in-Err c = name-missing _ _ _ _ _ (sym (ap told c.in-Err.is) ∙ c.name_at.ensures.near_name c.requires) c.ahead-in-Err.ensures
