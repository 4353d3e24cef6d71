use Rattle.sheet_sizes.proofs.CountLaws.{ahead-measured}
use Rattle.sheet_sizes.specs.Counts.{measured}
use Rattle.sheet_bases.proofs.BaseLaws.{link-is}
use Rattle.emit.specs.Laws.{known, join}
use Rattle.description.specs.Format.{le_bytes, length-le_bytes}
use Rattle.typelib.specs.Header.{library}
use Rattle.sheet_sizes.proofs.bases.after_link.Goals as goal

pub returns : goal.returns
returns c = known (link-is _ (library c.args.lib.now) (record { at = c.args.link.at; len = c.args.link.len }) c.word_at-href.ensures) (join (measured c.put_reference-t.ensures.moves) (ahead-measured _ c.ahead.ensures (le_bytes 4 _) (length-le_bytes 4 _)))
