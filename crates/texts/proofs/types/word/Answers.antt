use Rattle.texts.specs.TextLaws.{laid_as}
use Rattle.texts.proofs.types.word.Goals as goal

pub returns : goal.returns
returns c = laid_as c.put_word.ensures c.kind_word-word.ensures
