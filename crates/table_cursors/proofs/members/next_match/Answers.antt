use Rattle.std.proofs.Common.{◌∙◌, ◌-◌, ap, sym, length, arith}
use Rattle.typelib.specs.TableLaws.{pattern}
use Rattle.table_cursors.specs.MemberLaws.{match-over, match-here, match-on, match_none}
use Rattle.table_cursors.specs.Members.{matching}
use Rattle.table_cursors.proofs.members.next_match.Goals as goal

pub returns-then-cast_unsigned-own : goal.returns-then-cast_unsigned-own
returns-then-cast_unsigned-own c =
    match-here (length c.args.s.now - c.loop.counter) c.args.s.now c.args.own.0 c.loop.c (omega arith) _ _ _ c.in-Record.ensures (sym (pattern c.in-Record.entry.hreftype _ (record { sfits = omega arith }) c.cast_unsigned.ensures) ∙ c.if-cast_unsigned-own.true) ∙ c.loop.invariant

pub returns-in-Refused : goal.returns-in-Refused
returns-in-Refused c = match-over (length c.args.s.now - c.loop.counter) c.args.s.now c.args.own.0 c.loop.c (omega arith) _ _ c.in-Refused.ensures ∙ c.loop.invariant

pub loop-preserved : goal.loop-preserved
loop-preserved c =
    ap (λ n. matching n c.args.s.now c.args.own.0 c.in-Record.next) (omega arith)
    ∙ match-on (length c.args.s.now - c.loop.counter) c.args.s.now c.args.own.0 c.loop.c (omega arith) _ _ _ c.in-Record.ensures (λ e. c.if-cast_unsigned-own.false (pattern c.in-Record.entry.hreftype _ (record { sfits = omega arith }) c.cast_unsigned.ensures ∙ e)) ∙ c.loop.invariant

pub returns : goal.returns
returns c = match_none c.args.s.now c.args.own.0 c.loop.c ∙ ap (λ n. matching n c.args.s.now c.args.own.0 c.loop.c) (omega arith) ∙ c.loop.invariant
