use Rattle.std.proofs.Common.{arith, rules}
use Rattle.sheet.proofs.CallLaws.{call-refused, call-many, call-answered}
use Rattle.sheet.proofs.sheet.Goals as goal

pub returns-in_err-lib : goal.returns-in_err-lib
returns-in_err-lib c = call-refused c.args.s.now (λ i. omega (arith, c.type_inv.s i)) c.in_err-lib.ensures (search rules)

pub returns-then-count-gt-MOST_TYPES : goal.returns-then-count-gt-MOST_TYPES
returns-then-count-gt-MOST_TYPES c = call-many c.args.s.now (λ i. omega (arith, c.type_inv.s i)) c.in_ok-lib.ensures (omega (arith, c.count.ensures, c.if-count-gt-MOST_TYPES.true))

pub returns : goal.returns
returns c = call-answered c.args.s.now (λ i. omega (arith, c.type_inv.s i)) c.in_ok-lib.ensures (omega (arith, c.count.ensures, c.if-count-gt-MOST_TYPES.false)) c.write.ensures
