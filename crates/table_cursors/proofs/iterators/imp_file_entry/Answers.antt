use Rattle.std.proofs.Common.{ℕ, ◌+◌, ◌*◌, ◌/◌, ap, ◌∙◌, arith}
use Rattle.util.specs.Read.{read-zero}
use Rattle.typelib.specs.Tables.{lent}
use Rattle.cursors.specs.Cursors.{fixed_at}
use Rattle.cursors.specs.CursorLaws.{fixed}
use Rattle.table_cursors.specs.CursorLaws.{entry_more}
use Rattle.table_cursors.proofs.iterators.imp_file_entry.Goals as goal

pub returns : goal.returns
returns c =
    let h = fixed _ _ _ _ _ c.in_ok-fixed_at.ensures in
    c.fixed_at-2.ensures
    ∙ ap (λ (n : ℕ). lent c.args.s.now (fixed_at c.args.s.now c.args.pos c.args.end ((n / 4 + 14 + 3) / 4 * 4))) (read-zero 2 c.args.s.now (c.args.pos + 12) _ (omega (arith, h.inside)) c.or_zero.ensures)
    ∙ entry_more _ _ _ _ c.in_ok-fixed_at.ensures
