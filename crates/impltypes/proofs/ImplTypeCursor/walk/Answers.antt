use Rattle.std.proofs.Common.{arith}
use Rattle.typelib.specs.TableLaws.{found_in}
use Rattle.cursors.specs.CursorLaws.{lent-value}
use Rattle.impltypes.specs.ChainLaws.{stands, stands-more, stands-last, stands-round}
use Rattle.impltypes.proofs.ImplTypeCursor.walk.Goals as goal

pub loop-n-init : goal.loop-n-init
loop-n-init c = stands _ _

pub returns-in_default : goal.returns-in_default
returns-in_default c = stands-last _ _ _ _ c.loop-n.invariant _ (lent-value _ _ _ c.in_ok-is_lent.ensures).few c.in_default.ensures

pub next_offset-offset-requires : goal.next_offset-offset-requires
next_offset-offset-requires c = (found_in _ _ _ _ _ c.in-Ok.ensures).inside

pub loop-n-preserved : goal.loop-n-preserved
loop-n-preserved c = stands-more _ _ _ _ c.loop-n.invariant _ _ c.in-Ok.ensures c.next_offset-offset.ensures

pub returns-in-Ok : goal.returns-in-Ok
returns-in-Ok c = stands-round _ _ _ _ c.loop-n.invariant _ (lent-value _ _ _ c.in_ok-is_lent.ensures).few c.in-Ok.ensures (omega (arith, c.saturating_sub-n-end.ensures))
