use Rattle.emit.specs.Laws.{numbered}
use mathlib.Core.List.{[]}
use mathlib.Core.Path.{ap}
use Rattle.sheet_sizes.proofs.CountLaws.{known-e, refusing-e}
use Rattle.sheet_sizes.proofs.BaseLaws.{chain-is, chain-refused}
use Rattle.records.specs.Told.{told}
use Rattle.sheet_sizes.proofs.bases.after_chain.Goals as goal

pub returns-in-Ok : goal.returns-in-Ok
returns-in-Ok c = known-e (chain-is _ _ _ _ c.impl_types_at.ensures (ap told c.in-Ok.is)) c.after_links.ensures

pub returns-in-Err : goal.returns-in-Err
returns-in-Err c = known-e (chain-refused _ _ _ _ c.impl_types_at.ensures (ap told c.in-Err.is)) (refusing-e _ _ _ _ (numbered c.number.ensures (c.put_refusal.ensures [])))
