use mir.ValLaws.{to_z_pos}
use mir.Syntax.{w64}
use Rattle.replies.specs.Call.{reply, kind_number}
use lib.IntN.{pos}
use native.Mathlib.Omega.{arith}
use mathlib.Core.Path.{ap, ◌∙◌}
use Rattle.msft_typelib.proofs.types.msft_kind_from_raw.Goals as goal

pub returns : goal.returns
unfolding reply
returns c = to_z_pos w64 c.kind_number.result (omega arith) ∙ ap pos (c.kind_number.ensures ∙ ap kind_number c.from_raw.ensures)
