-- The bytes that a row stands for.
use Rattle.std.specs.Prelude.{List, [], ◌∷◌, ◌++◌, ℕ, Ok, Err}
use Rattle.std.specs.declared.result.Result.{Result}
use Rattle.records.specs.Answer.{Answer, value, refused, map}
use Rattle.records.specs.Told.{refusal_number, told_as}
use Rattle.records.specs.declared.answer.Place.{Place}
use Rattle.records.specs.declared.answer.Refusal.{Refusal}
use Rattle.typelib.specs.Told.{told_imp_file_as}
use Rattle.typelib.specs.References.{external}
use Rattle.cursors.specs.Numbers.{Step}
use Rattle.cursors.specs.Told.{told_step_as}
use Rattle.cursors.specs.declared.iterators.Step.{Step as StepOf}
use Rattle.description.specs.Format.{le_bytes}
use Rattle.rows.specs.Values.{eights, five_words, reference, constant, name_entry, name_numbers}
use Rattle.rows.specs.declared.row.Longs.{Longs}
use Rattle.rows.specs.declared.row.Longs.TheVariants as longs
use Rattle.rows.specs.declared.row.Row.{Row}
use Rattle.rows.specs.declared.row.Row.TheVariants as row

abbrev pub numbers_of : Longs → List ℕ
numbers_of (longs.One a) = a ∷ []
numbers_of (longs.Two a b) = a ∷ b ∷ []
numbers_of (longs.Three a b c) = a ∷ b ∷ c ∷ []
numbers_of (longs.Four a b c d) = a ∷ b ∷ c ∷ d ∷ []
numbers_of (longs.Five a b c d e) = a ∷ b ∷ c ∷ d ∷ e ∷ []

-- the bytes of a row; `number` is of what refuses the file in it
abbrev pub bytes_of_as : {F : Type 0} → (F → ℕ) → Row F → List ℕ
bytes_of_as number (row.Plain l) = eights (numbers_of l)
bytes_of_as number (row.Words a b) = le_bytes 4 a ++ le_bytes 4 b
bytes_of_as number (row.Step p n l) = eights (p.at ∷ p.len ∷ n ∷ numbers_of l)
bytes_of_as number (row.Chain l next count) = eights (numbers_of l) ++ (le_bytes 4 next ++ le_bytes 8 count)
bytes_of_as number (row.Marked m l) = m ∷ eights (numbers_of l)
bytes_of_as number (row.Half m a) = m ∷ le_bytes 2 a
bytes_of_as number (row.Word m a) = m ∷ le_bytes 4 a
bytes_of_as number (row.Import p f) = reference (external p (told_imp_file_as number f))
bytes_of_as number (row.Constant v) = constant v
bytes_of_as number (row.Entry e n c) = name_entry e ++ eights (n ∷ name_numbers c)
bytes_of_as number (row.Figures a b c d e) = five_words a b c d e

abbrev pub bytes_of : Row Refusal → List ℕ
bytes_of = bytes_of_as refusal_number

-- a row that was answered; `within` is of what refuses the file in it, `number` of what refuses the answer
abbrev pub told_row_within : {F E : Type 0} → (F → ℕ) → (E → ℕ) → Result (Row F) E → Answer (List ℕ)
told_row_within within number r = map (bytes_of_as within) (told_as number r)

-- a row whose file a `Refusal` refuses
abbrev pub told_row_as : {E : Type 0} → (E → ℕ) → Result (Row Refusal) E → Answer (List ℕ)
told_row_as = told_row_within refusal_number

abbrev pub told_row : Result (Row Refusal) Refusal → Answer (List ℕ)
told_row = told_row_as refusal_number

-- a record that was answered, told by its place
abbrev pub told_by_as : {R E : Type 0} → (E → ℕ) → (R → Place) → Result R E → Answer Place
told_by_as number place_of (Ok r) = value (place_of r)
told_by_as number place_of (Err e) = refused (number e)

abbrev pub told_by : {R : Type 0} → (R → Place) → Result R Refusal → Answer Place
told_by = told_by_as refusal_number

-- a step whose record is told by its place
abbrev pub told_step : {R C : Type 0} → (R → Place) → StepOf R C Refusal → Step Place C
told_step = told_step_as refusal_number
