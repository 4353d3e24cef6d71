use Rattle.texts.specs.Text.{decimal, digits}
use Rattle.texts.specs.TextLaws.{digit-no-blank}
use Rattle.texts.specs.Types.{kind_word}
use mathlib.Core.Path.{◌≡◌}
use Prim.Native.Nat.{◌/◌, ◌%◌}
use native.Mathlib.Omega.{arith}
use borrow.Author.Tests.{lt-ltb, le-ltb}
use Rattle.texts.proofs.types.unknown_word.Goals as goal

pub returns-then-n-lt10 : goal.returns-then-n-lt10
unfolding kind_word decimal digits
returns-then-n-lt10 c = let n = c.args.n in rw (c.digit-ones.ensures, digit-no-blank (n % 10), lt-ltb n 10 c.if-n-lt10.true)

pub returns-then-n-lt100 : goal.returns-then-n-lt100
unfolding kind_word decimal digits
returns-then-n-lt100 c = let n = c.args.n in rw (c.digit-tens.ensures, c.digit-ones.ensures, digit-no-blank (n / 10 % 10), digit-no-blank (n % 10), le-ltb n 10 c.if-n-lt10.false, lt-ltb n 100 c.if-n-lt100.true)

pub returns : goal.returns
unfolding kind_word decimal digits
returns c = let n = c.args.n in let e : n / 10 / 10 % 10 ≡ n / 100 = omega (arith, c.ranges.n) in rw (c.digit-hundreds.ensures, c.digit-tens.ensures, c.digit-ones.ensures, digit-no-blank (n / 100), digit-no-blank (n / 10 % 10), digit-no-blank (n % 10), le-ltb n 10 c.if-n-lt10.false, le-ltb n 100 c.if-n-lt100.false, e)
