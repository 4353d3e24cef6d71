use Rattle.std.proofs.Common.{◌∙◌, sym, arith}
use Rattle.typelib.specs.TypeInfoLaws.{aux-far}
use Rattle.typelib.proofs.typeinfos.aux_in.Goals as goal

pub returns-then-s-index : goal.returns-then-s-index
returns-then-s-index c = aux-far _ _ _ _ c.if-memoffset-ge-NEGATIVE.false (sym c.in_ok-size.ensures.ok_part ∙ c.read_le.ensures) (omega arith)
