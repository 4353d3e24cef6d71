-- The number and the values of the answer (document 02, §5; document 01, "Numbers of refusal"). Assumes nothing.
use Rattle.std.specs.Prelude.{Ok, Err}
use Rattle.std.specs.declared.result.Result.{Result}
use Rattle.records.specs.declared.answer.Refusal.{Refusal}
use Rattle.records.specs.Told.{refusal_number}
use Rattle.sheet_sizes.specs.declared.SheetFigures.{SheetFigures}
use Rattle.records.specs.Answer.{Answer, value, refused}
use Rattle.description.specs.Figures.{Figures}
use Rattle.sheet_sizes.specs.Counts.{figures}

abbrev pub told_figures : Result SheetFigures Refusal → Answer Figures
told_figures (Ok f) = value (figures f.length f.functions f.parameters f.variables f.references)
told_figures (Err e) = refused (refusal_number e)
