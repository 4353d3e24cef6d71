use Rattle.std.proofs.Common.{◌∙◌, ap, arith, inl, inr}
use Rattle.std.specs.Prelude.{take}
use Rattle.std.proofs.lemmas.List.{take_rest}
use Rattle.util.specs.Read.{cut, cut-none}
use Rattle.util.proofs.bytes_at.Goals as goal

pub returns-in_err-get : goal.returns-in_err-get
returns-in_err-get g c = c.from_residual.ensures ∙ cut-none _ _ _ (elim c.in_err-get.ensures.lookup.0 [ inl h ↦ omega (arith, h) | inr h ↦ omega (arith, h) ])

pub returns-in_err-chunk : goal.returns-in_err-chunk
returns-in_err-chunk g c = c.from_residual-in_err-chunk.ensures ∙ cut-none _ _ _ (omega (arith, c.in_err-chunk.ensures.cases, c.in_ok-get.ensures.lookup))

pub returns : goal.returns
returns g c =
    let rest = c.in_ok-get.ensures.lookup.0 in
    cut _ _ _ _ (omega (arith, c.in_ok-chunk.ensures.cases.enough, rest))
    (c.in_ok-chunk.ensures.cases.same ∙ ap (take g.row.N) (rest.2 ∙ take_rest c.args.s.now c.args.at))
