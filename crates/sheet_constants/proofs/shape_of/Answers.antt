use Rattle.std.proofs.Common.{rules, sym, ap, ◌∙◌}
use Rattle.sheet_constants.specs.Laws.{marked, mark-is, mark-other}
use Rattle.sheet_constants.proofs.shape_of.Goals as goal

pub returns-in-0 : goal.returns-in-0
returns-in-0 c = ap marked (sym c.in-0.is) ∙ mark-is c.args.code c.mark_of-mark.ensures

pub returns-in-16 : goal.returns-in-16
returns-in-16 c = ap marked (sym c.in-16.is) ∙ mark-is c.args.code c.mark_of-mark.ensures

pub returns-in-98 : goal.returns-in-98
returns-in-98 c = ap marked (sym c.in-98.is) ∙ mark-is c.args.code c.mark_of-mark.ensures

pub returns-in-116 : goal.returns-in-116
returns-in-116 c = ap marked (sym c.in-116.is) ∙ mark-is c.args.code c.mark_of-mark.ensures

pub returns-in_default : goal.returns-in_default
returns-in_default c = mark-other _ (search rules) (search rules) (search rules) (search rules) ∙ mark-is c.args.code c.mark_of-mark.ensures
