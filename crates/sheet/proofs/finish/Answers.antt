use Rattle.sheet.proofs.CallLaws.{emitted-sound, whole-refused, whole_long, whole-short, whole-done}
use Rattle.emit.specs.Laws.{known}
use mathlib.Core.Path.{sym}
use lib.Seq.{length-take-le}
use native.Mathlib.Omega.{arith}
use Rattle.sheet.proofs.finish.Goals as goal

pub returns-then-size-gt-PAST : goal.returns-then-size-gt-PAST
returns-then-size-gt-PAST c = whole-refused _ _ (emitted-sound _ _) c.requires.made.measured c.if-size-gt-PAST.true c.refusal.ensures

pub returns-then-size-gt-LIMIT : goal.returns-then-size-gt-LIMIT
returns-then-size-gt-LIMIT c = whole_long _ _ c.requires.made.measured c.if-size-gt-PAST.false c.if-size-gt-LIMIT.true

pub returns-then-out-size : goal.returns-then-out-size
returns-then-out-size c = whole-short _ _ c.requires.made.measured c.if-size-gt-LIMIT.false c.if-out-size.true

pub slice_bounds-put_bytes-end : goal.slice_bounds-put_bytes-end
slice_bounds-put_bytes-end c = sym (length-take-le _ _ c.if-size-made.true)

pub slice_bounds-put_bytes-end-then-size-made-2 : goal.slice_bounds-put_bytes-end-then-size-made-2
slice_bounds-put_bytes-end-then-size-made-2 c = sym (length-take-le _ _ c.if-out-size.false)

pub slice_bounds-put_sheet-end-else-size-made : goal.slice_bounds-put_sheet-end-else-size-made
slice_bounds-put_sheet-end-else-size-made c = sym (length-take-le _ _ c.if-out-size.false)

pub returns-then-size-made : goal.returns-then-size-made
returns-then-size-made c = whole-done _ _ c.requires.made.measured c.if-size-gt-LIMIT.false c.if-out-size.false (known (c.requires.made.made c.if-size-gt-LIMIT.false c.if-size-made.true) c.put_bytes.ensures)

pub returns-else-size-made : goal.returns-else-size-made
returns-else-size-made c = whole-done _ _ c.requires.made.measured c.if-size-gt-LIMIT.false c.if-out-size.false (c.put_sheet.ensures.endless (omega arith))
