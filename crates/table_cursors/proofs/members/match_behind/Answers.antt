use Rattle.std.proofs.Common.{◌≡◌, ◌∙◌, ◌+◌, ◌-◌, ℕ, length, ap, sym, arith}
use Rattle.table_cursors.specs.MemberLaws.{behind-here, behind-next, behind-over}
use Rattle.table_cursors.specs.Members.{matching, behind}
use Rattle.table_cursors.specs.Told.{told_name_step}
use Rattle.table_cursors.proofs.members.match_behind.Goals as goal

pub loop-preserved : goal.loop-preserved
loop-preserved c =
    let left : ℕ = c.args.k - c.loop.counter in
    let one : c.args.k - (c.loop.counter + 1) ≡ left - 1 = omega arith in
    ap (behind (c.args.k - (c.loop.counter + 1)) c.args.s.now c.args.own.0) c.next_match-found.ensures
    ∙ ap (λ (n : ℕ). behind n c.args.s.now c.args.own.0 (matching (length c.args.s.now) c.args.s.now c.args.own.0 c.in-Record.c)) one
    ∙ behind-next left c.args.s.now c.args.own.0 _ _ _ (told_name_step c.loop.found) (omega arith) (sym (ap told_name_step c.in-Record.is)) ∙ c.loop.invariant

pub returns-in-Refused : goal.returns-in-Refused
returns-in-Refused c = behind-over _ c.args.s.now c.args.own.0 _ _ (told_name_step c.loop.found) (sym (ap told_name_step c.in-Refused.is)) ∙ c.loop.invariant

pub returns-in-Record-found : goal.returns-in-Record-found
returns-in-Record-found c =
    behind-here c.args.s.now c.args.own.0 _ _ _ (told_name_step c.loop.found) (sym (ap told_name_step c.in-Record-found.is))
    ∙ ap (λ n. behind n c.args.s.now c.args.own.0 (told_name_step c.loop.found)) (omega arith) ∙ c.loop.invariant

pub returns-in-Refused-found : goal.returns-in-Refused-found
returns-in-Refused-found c = behind-over _ c.args.s.now c.args.own.0 _ _ (told_name_step c.loop.found) (sym (ap told_name_step c.in-Refused-found.is)) ∙ c.loop.invariant
