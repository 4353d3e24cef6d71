use Rattle.replies.specs.Call.{laid}
use mathlib.Core.Path.{◌∙◌}
use Rattle.replies.specs.Written.{written}
use Rattle.texts.specs.Types.{kind_word}
use Rattle.records.specs.Answer.{value}
use native.Mathlib.Omega.{arith}
use mathlib.Core.Path.{ap}
use Rattle.msft_typelib.proofs.types.msft_kind_word.Goals as goal

pub returns : goal.returns
returns c = written c.args.out.now (omega arith) (value (kind_word c.from_raw.result)) c.word.ensures c.of_written.ensures ∙ ap (λ k. laid (value (kind_word k)) c.args.out.now) c.from_raw.ensures
