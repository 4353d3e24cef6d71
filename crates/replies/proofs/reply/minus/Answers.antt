use Rattle.std.specs.Prelude.{◌≡◌, ℕ, ◌<◌}
use Rattle.std.proofs.Common.{arith}
use lib.IntN.{pos, neg_ℤ, ◌-ℤ◌, +ℤ_idl}
use mir.Syntax.{w64}
use mir.Val.{to_z}
use mir.ValLaws.{to_z-of_z, to_z_pos}
use Rattle.replies.specs.CallLaws.{minus-fits}
use Rattle.replies.proofs.reply.minus.Goals as goal

negated : (n : ℕ) → n < 256 → pos 0 -ℤ to_z w64 n ≡ neg_ℤ (pos n)
negated n h = rw (to_z_pos w64 n (omega arith)) (+ℤ_idl (neg_ℤ (pos n)))

pub overflow_sub-result : goal.overflow_sub-result
overflow_sub-result c = rw (negated c.args.number (omega arith)) (minus-fits c.args.number (omega arith))

pub returns : goal.returns
returns c = rw (negated c.args.number (omega arith)) (to_z-of_z w64 _ (minus-fits c.args.number (omega arith)))
