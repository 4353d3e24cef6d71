use Rattle.std.proofs.Common.{ap, of_calls, refl, ◌∙◌}
use Rattle.records.specs.Record.{signed32}
use Rattle.records.specs.Told.{told}
use Rattle.replies.specs.Call.{bits32, reply}
use Rattle.replies.specs.ParseLaws.{library-read}
use Rattle.typelib.specs.Header.{header_field}
use Rattle.msft_typelib.proofs.header.msft_helpfile_offset.Goals as goal

pub returns : goal.returns
returns c = c.of_told.ensures ∙ ap reply (library-read (λ a. bits32 (told a)) (λ _. bits32 (signed32 (header_field "helpfile" c.args.s.now))) c.args.s.now c.parse.result c.parse.ensures c.and_then.ensures (λ lib h. ap bits32 (search of_calls)) (λ e. refl))
