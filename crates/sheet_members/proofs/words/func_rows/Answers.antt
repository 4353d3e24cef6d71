use Rattle.std.specs.Prelude.{◌+◌, refl}
use Rattle.std.proofs.Common.{sym}
use Rattle.typelib.specs.declared.typeinfos.Counts.{Counts}
use Rattle.sheet_members.proofs.WordLaws.{row-found, row-missing}
use Rattle.sheet_members.proofs.words.func_rows.Goals as goal

pub returns-in_default : goal.returns-in_default
returns-in_default c = let e = sym c.in_default.ensures in record { memids-at = row-missing _ _ _ e; names_at = row-missing _ _ _ e }

pub returns : goal.returns
returns c =
    let e = sym c.in-Ok.ensures in
    record {
      memids-at = row-found _ (λ (x : Counts). 0) _ e c.words_at-start.ensures refl c.row.ensures;
      names_at = row-found _ (λ (x : Counts). x.funcs + x.vars) _ e c.words_at-start.ensures refl c.row-2.ensures;
    }
