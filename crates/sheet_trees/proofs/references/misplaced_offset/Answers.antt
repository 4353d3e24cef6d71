use Rattle.std.proofs.Common.{◌∙◌, ap, arith}
use Rattle.records.specs.Answer.{value}
use Rattle.typelib.specs.TableLaws.{pattern}
use Rattle.describe.specs.References.{misplaced_offset}
use Rattle.describe.specs.MisplacedLaws.{offset-there, offset-missing}
use Rattle.sheet_trees.proofs.PartLaws.{not-negative, not-import, not-multiple, none-hit}
use Rattle.sheet_trees.proofs.references.misplaced_offset.Goals as goal

pub returns-then-href-ge-NEGATIVE : goal.returns-then-href-ge-NEGATIVE
returns-then-href-ge-NEGATIVE c = offset-missing _ (not-negative c.if-href-ge-NEGATIVE.true) ∙ ap misplaced_offset (pattern c.args.hreftype _ c.ranges.hreftype c.cast_unsigned-href.ensures)

pub returns-then-bits-ne0 : goal.returns-then-bits-ne0
returns-then-bits-ne0 c = offset-missing _ (not-import (λ z. c.if-bits-ne0.true (omega (arith, z, c.bits.ensures)))) ∙ ap misplaced_offset (pattern c.args.hreftype _ c.ranges.hreftype c.cast_unsigned-href.ensures)

pub returns-then-offset-eq0 : goal.returns-then-offset-eq0
returns-then-offset-eq0 c = offset-missing _ (not-multiple c.without_dispatch-offset.ensures c.if-offset-eq0.true) ∙ ap misplaced_offset (pattern c.args.hreftype _ c.ranges.hreftype c.cast_unsigned-href.ensures)

pub returns : goal.returns
returns c = ap value c.without_dispatch-offset.ensures ∙ offset-there _ (none-hit c.without_dispatch-offset.ensures (omega (arith, c.if-href-ge-NEGATIVE.false)) (omega (arith, c.if-bits-ne0.false, c.bits.ensures)) c.if-offset-eq0.false) ∙ ap misplaced_offset (pattern c.args.hreftype _ c.ranges.hreftype c.cast_unsigned-href.ensures)
