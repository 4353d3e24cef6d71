use Rattle.emit.specs.Laws.{known, join}
use Rattle.typelib.specs.Header.{library}
use Rattle.sheet_bases.proofs.BaseLaws.{link-is}
use Rattle.sheet_bases.proofs.put_link.Goals as goal

pub returns : goal.returns
returns c = known (link-is _ (library c.before.before.before.before.before.before.before.before.before.before.before.args.lib.now) (record { at = c.args.link.at; len = c.args.link.len }) c.word_at-href.ensures)
    (join c.put_reference-t.ensures c.copy_u32.ensures)
