use mathlib.Core.Path.{◌∙◌}
use Rattle.typelib.specs.Header.{library}
use Rattle.sheet.proofs.ContentLaws.{patch-keeps, sheet-whole}
use Rattle.sheet.proofs.contents.put_sheet.Goals as goal

pub returns : goal.returns
returns c = let e = c.put_types.ensures in let w = sheet-whole _ (library c.args.lib.now) c.count-count.ensures c.requires c.put_le.ensures c.put_header-t.ensures c.patch.ensures in record { short = λ f. w (e.short f); endless = λ h. w (e.endless h); keeps = e.keeps ∙ patch-keeps _ _ c.patch.ensures ∙ c.put_header-t.ensures.keeps ∙ c.put_le.ensures.keeps }
