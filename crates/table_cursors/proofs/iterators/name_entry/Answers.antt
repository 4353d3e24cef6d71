use Rattle.std.proofs.Common.{◌+◌, arith, rules}
use Rattle.util.specs.Read.{read-zero}
use Rattle.records.specs.AnswerLaws.{map-value, map-refused}
use Rattle.typelib.specs.TableLaws.{lent_fits}
use Rattle.cursors.specs.CursorLaws.{fixed, lent-value}
use Rattle.table_cursors.specs.CursorLaws.{name-some, name-text}
use Rattle.table_cursors.specs.Cursors.{over_names}
use Rattle.table_cursors.proofs.iterators.name_entry.Goals as goal

pub returns-in_err-text : goal.returns-in_err-text
returns-in_err-text c =
    let s = c.args.s.now in
    let d = over_names.stands c.args.c in
    let few = (lent-value s _ _ c.in_ok-fixed_at.ensures).few in
    let h = fixed _ _ _ _ _ c.in_ok-fixed_at.ensures in
    let n = read-zero 1 s (c.args.c.pos + 8) _ (omega (arith, h.inside)) c.or_zero-len.ensures in
    let t = name-text s d _ _ _ few n c.entry_text.ensures c.in_err-text.ensures in
    let z = lent_fits s _ _ few (name-some s d _ _ (omega arith) c.in_ok-fixed_at.ensures (map-refused _ _ _ t)) in
    search rules

pub returns : goal.returns
returns c =
    let s = c.args.s.now in
    let d = over_names.stands c.args.c in
    let few = (lent-value s _ _ c.in_ok-fixed_at.ensures).few in
    let h = fixed _ _ _ _ _ c.in_ok-fixed_at.ensures in
    let n = read-zero 1 s (c.args.c.pos + 8) _ (omega (arith, h.inside)) c.or_zero-len.ensures in
    let t = name-text s d _ _ _ few n c.entry_text.ensures c.in_ok-text.ensures in
    lent_fits s _ _ few (name-some s d _ _ (omega arith) c.in_ok-fixed_at.ensures (map-value _ _ _ _ t c.name_entry_from.ensures))
