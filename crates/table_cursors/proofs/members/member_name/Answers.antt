use Rattle.std.proofs.Common.{◌∙◌, ap, length, rules}
use Rattle.records.specs.AnswerLaws.{bind-value}
use Rattle.typelib.specs.TableLaws.{lent_fits}
use Rattle.typelib.specs.Tables.{lent}
use Rattle.cursors.specs.CursorLaws.{lent-value}
use Rattle.table_cursors.specs.declared.iterators.NameCursor.{NameCursor}
use Rattle.table_cursors.specs.Members.{matching, behind}
use Rattle.table_cursors.specs.MemberLaws.{behind-first, behind-over}
use Rattle.table_cursors.proofs.members.member_name.Goals as goal

pub returns-in_err-is_lent : goal.returns-in_err-is_lent
unfolding lent
returns-in_err-is_lent c = search rules

pub returns-in_err-own : goal.returns-in_err-own
unfolding lent
returns-in_err-own c = search rules

pub returns-in-Record : goal.returns-in-Record
returns-in-Record c =
    let s = c.args.s.now in
    let own = c.in_ok-own.own.0 in
    let few = (lent-value s _ _ c.in_ok-is_lent.ensures).few in
    lent_fits _ _ _ few (bind-value _ _ _ _ c.in_ok-own.ensures
    (behind-first c.args.k s own _ _ _ _ _ (c.in-Record.ensures ∙ ap (λ (x : NameCursor). matching (length s) s own x) c.names_in.ensures)
    (c.match_behind.ensures ∙ ap (behind c.args.k s own) c.next_match-in-Record.ensures)))

pub returns-in-Refused : goal.returns-in-Refused
returns-in-Refused c =
    let s = c.args.s.now in
    let own = c.in_ok-own.own.0 in
    let few = (lent-value s _ _ c.in_ok-is_lent.ensures).few in
    lent_fits _ _ _ few (bind-value _ _ _ _ c.in_ok-own.ensures
    (behind-over _ s own _ _ _ (c.in-Refused.ensures ∙ ap (λ (x : NameCursor). matching (length s) s own x) c.names_in.ensures)))
