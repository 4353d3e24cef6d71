use Rattle.std.proofs.Common.{ap, of_calls, refl, ◌∙◌}
use Rattle.records.specs.Answer.{map}
use Rattle.records.specs.Record.{bits_of}
use Rattle.records.specs.Told.{told}
use Rattle.replies.specs.Call.{reply}
use Rattle.replies.specs.ParseLaws.{library-read}
use Rattle.typelib.specs.Header.{header_field}
use Rattle.msft_typelib.proofs.header.msft_version_minor.Goals as goal

pub returns : goal.returns
returns c = c.of_told.ensures ∙ ap reply (library-read told (λ _. map (bits_of 16 16) (header_field "version" c.args.s.now)) c.args.s.now c.parse.result c.parse.ensures c.and_then.ensures (λ lib h. search of_calls) (λ e. refl))
