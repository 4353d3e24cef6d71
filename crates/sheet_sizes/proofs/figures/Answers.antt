use Rattle.std.proofs.Common.{arith, rules}
use Rattle.sheet_sizes.proofs.CallLaws.{figures-refused, figures-many, figures-stopped, figures-given}
use Rattle.sheet_sizes.proofs.figures.Goals as goal

pub returns-in_err-lib : goal.returns-in_err-lib
returns-in_err-lib c = let e = figures-refused c.args.s.now c.in_err-lib.ensures in search rules

pub returns-then-count-gt-MOST_TYPES : goal.returns-then-count-gt-MOST_TYPES
returns-then-count-gt-MOST_TYPES c = figures-many c.args.s.now c.in_ok-lib.ensures (omega (arith, c.count.ensures, c.if-count-gt-MOST_TYPES.true))

pub returns-then-whole-gt-PAST : goal.returns-then-whole-gt-PAST
returns-then-whole-gt-PAST c =
    figures-stopped c.args.s.now c.in_ok-lib.ensures (omega (arith, c.count.ensures, c.if-count-gt-MOST_TYPES.false)) c.count_sheet-whole.ensures c.if-whole-gt-PAST.true c.refusal.ensures

pub overflow_cast-result-2 : goal.overflow_cast-result-2
overflow_cast-result-2 c = omega (arith, (figures-given c.args.s.now c.in_ok-lib.ensures (omega (arith, c.count.ensures, c.if-count-gt-MOST_TYPES.false)) c.count_sheet-whole.ensures c.if-whole-gt-PAST.false).functions)

pub overflow_cast-result-3 : goal.overflow_cast-result-3
overflow_cast-result-3 c = omega (arith, (figures-given c.args.s.now c.in_ok-lib.ensures (omega (arith, c.count.ensures, c.if-count-gt-MOST_TYPES.false)) c.count_sheet-whole.ensures c.if-whole-gt-PAST.false).parameters)

pub overflow_cast-result-4 : goal.overflow_cast-result-4
overflow_cast-result-4 c = omega (arith, (figures-given c.args.s.now c.in_ok-lib.ensures (omega (arith, c.count.ensures, c.if-count-gt-MOST_TYPES.false)) c.count_sheet-whole.ensures c.if-whole-gt-PAST.false).variables)

pub overflow_cast-result-5 : goal.overflow_cast-result-5
overflow_cast-result-5 c = omega (arith, (figures-given c.args.s.now c.in_ok-lib.ensures (omega (arith, c.count.ensures, c.if-count-gt-MOST_TYPES.false)) c.count_sheet-whole.ensures c.if-whole-gt-PAST.false).references)

pub returns : goal.returns
returns c = (figures-given c.args.s.now c.in_ok-lib.ensures (omega (arith, c.count.ensures, c.if-count-gt-MOST_TYPES.false)) c.count_sheet-whole.ensures c.if-whole-gt-PAST.false).is
