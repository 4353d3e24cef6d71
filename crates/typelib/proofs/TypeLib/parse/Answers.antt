use Rattle.std.proofs.Common.{◌≡◌, ap, arith, rules}
use Rattle.typelib.specs.declared.TypeLib.{TypeLib}
use Rattle.typelib.specs.Header.{library, library_of, parse_of}
use Rattle.util.specs.Read.{read-zero}
use Rattle.typelib.proofs.TypeLib.parse.Goals as goal

pub returns-then-or_zero-ne-MAGIC : goal.returns-then-or_zero-ne-MAGIC
unfolding parse_of
returns-then-or_zero-ne-MAGIC c = let m = read-zero 4 c.args.s.now 0 _ (omega arith) c.or_zero.ensures in search (rules, m)

pub returns-then-count-ge-NEGATIVE : goal.returns-then-count-ge-NEGATIVE
unfolding parse_of
returns-then-count-ge-NEGATIVE c = let m = read-zero 4 c.args.s.now 0 _ (omega arith) c.or_zero.ensures in
    let n = read-zero 4 c.args.s.now 32 _ (omega arith) c.or_zero-count.ensures in
    search (rules, m, n)

pub returns-then-size-at : goal.returns-then-size-at
unfolding parse_of
returns-then-size-at c = let m = read-zero 4 c.args.s.now 0 _ (omega arith) c.or_zero.ensures in
    let n = read-zero 4 c.args.s.now 32 _ (omega arith) c.or_zero-count.ensures in
    let t = c.table_at-table.ensures.0 in
    search (rules, m, n, t)

pub returns : goal.returns
unfolding parse_of library_of
returns c = let s = c.args.s.now in
    let m = read-zero 4 s 0 _ (omega arith) c.or_zero.ensures in
    let n = read-zero 4 s 32 _ (omega arith) c.or_zero-count.ensures in
    let t = c.table_at-table.ensures.0 in
    let l : ◌≡◌ {A = TypeLib} (library c.numbers_at.result) (library_of s) = rw (← n, ← t) (ap library c.numbers_at.ensures) in
    search (rules, m, n, t, l)
