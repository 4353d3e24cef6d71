use native.Mathlib.Omega.{arith}
use Rattle.std.proofs.Common.{sym, length-take}
use Rattle.texts.specs.TextLaws.{laid_as, word-front, word-le}
use Rattle.texts.proofs.text.put_word.Goals as goal

pub slice_bounds-put-end : goal.slice_bounds-put-end
slice_bounds-put-end c = simp length-take (omega (arith, word-le c.args.cell.now))

pub returns : goal.returns
returns c = laid_as c.put.ensures (rw c.word_length.ensures (sym (word-front c.args.cell.now)))
