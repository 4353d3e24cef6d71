use Rattle.std.proofs.Common.{ap, of_calls, refl, ◌∙◌}
use Rattle.records.specs.Answer.{map}
use Rattle.records.specs.Told.{told}
use Rattle.replies.specs.CallLaws.{laid_as}
use Rattle.replies.specs.ParseLaws.{library-read}
use Rattle.rows.specs.Values.{cursor, name_numbers}
use Rattle.table_cursors.specs.Cursors.{names_of}
use Rattle.msft_typelib.proofs.iterators.msft_names.Goals as goal

pub returns : goal.returns
returns c = laid_as _ c.lay.ensures (c.of_cursor.ensures ∙ library-read (λ a. map (cursor name_numbers) (told a)) (λ lib. map (cursor name_numbers) (names_of c.args.s.now lib)) c.args.s.now c.parse.result c.parse.ensures c.and_then.ensures (λ lib h. ap (map (cursor name_numbers)) (search of_calls)) (λ e. refl))
