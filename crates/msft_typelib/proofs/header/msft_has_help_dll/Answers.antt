use Rattle.std.proofs.Common.{ap, of_calls, refl, ◌∙◌}
use Rattle.records.specs.Answer.{map}
use Rattle.records.specs.Record.{flag_set}
use Rattle.records.specs.Told.{told}
use Rattle.replies.specs.Call.{reply, truth}
use Rattle.replies.specs.ParseLaws.{library-read}
use Rattle.typelib.specs.Header.{header_field, help_dll_flag}
use Rattle.msft_typelib.proofs.header.msft_has_help_dll.Goals as goal

pub returns : goal.returns
returns c = c.of_told.ensures ∙ ap reply (library-read (λ a. truth (told a)) (λ _. truth (map (flag_set help_dll_flag) (header_field "varflags" c.args.s.now))) c.args.s.now c.parse.result c.parse.ensures c.and_then.ensures (λ lib h. ap truth (search of_calls)) (λ e. refl))
