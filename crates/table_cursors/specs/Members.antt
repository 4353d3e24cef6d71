-- The names of a typeinfo's members, by the name table (`member_names` of the source). Assumes nothing.
use Rattle.std.specs.Prelude.{cond, List, ℕ, zero, suc, eqb, length}
use Rattle.std.specs.Int.{w32}
use Rattle.std.proofs.Common.{of_z}
use Rattle.records.specs.declared.answer.Place.{Place}
use Rattle.records.specs.Answer.{Answer, value, refused, bind}
use Rattle.typelib.specs.declared.TypeLib.{TypeLib}
use Rattle.table_cursors.specs.declared.iterators.NameCursor.{NameCursor}
use Rattle.records.specs.declared.name.NameEntry.{NameEntry}
use Rattle.cursors.specs.Numbers.{Step, yielded, ended}
use Rattle.table_cursors.specs.Cursors.{name_step, names_in}
use Rattle.typelib.specs.Tables.{lent}
use Rattle.typelib.specs.TypeInfos.{offset_word}

-- a step of the cursor over names
abbrev pub NameYield : Type 0
NameYield = Step NameEntry NameCursor

-- an entry with that hreftype, or what goes on behind another
abbrev pub match_or : (NameCursor → NameYield) → ℕ → NameYield → NameYield
match_or go href (yielded e k c) = cond (eqb (of_z w32 e.hreftype) href) (yielded e k c) (go c)
match_or go href (ended n c) = ended n c

-- The first entry with that hreftype, of at most so many. The readings below look at as many as the file has bytes, which
-- is all of them: `enough` of `MemberLaws`.
unfoldable pub matching : ℕ → List ℕ → ℕ → NameCursor → NameYield
matching zero s href c = ended 9 c
matching (suc n) s href c = match_or (matching n s href) href (name_step s c)

-- the text of the k-th entry with that hreftype behind one that was found
unfoldable pub behind : ℕ → List ℕ → ℕ → NameYield → Answer Place
behind zero s href (yielded e n c) = value e.text
behind (suc k) s href (yielded e n c) = behind k s href (matching (length s) s href c)
behind zero s href (ended n c) = refused n
behind (suc k) s href (ended n c) = refused n

-- The k-th name, k from 0, of the entries whose hreftype is the typeinfo's offset, the first of which, the typeinfo's own
-- name, is dropped.
abbrev pub member_name : List ℕ → TypeLib → ℕ → ℕ → Answer Place
member_name s lib index k =
    lent s (bind (offset_word s lib index) (λ href. behind (suc k) s href (matching (length s) s href (names_in lib))))
