use Rattle.texts.specs.Text.{ascii, word_of}
use Rattle.texts.specs.TextLaws.{laid_as}
use Rattle.texts.specs.Types.{vt_names, name_in, vt_name}
use Rattle.texts.specs.TypesLaws.{name-none}
use Rattle.records.proofs.Table.{all, each, same, same-is}
use Rattle.std.specs.Prelude.{map, [], ◌++◌}
use Rattle.std.specs.List.{range_with_len}
use mathlib.Core.Bool.{Bool}
use mathlib.Core.List.{List}
use mathlib.Core.Path.{◌≡◌, sym, ap}
use Prim.Native.Nat.{ℕ, ◌<◌}
use native.Mathlib.Omega.{arith}
use lib.Dec.{T}
use lib.ListN.{get_or, take}
use Rattle.texts.proofs.types.vt_name.Goals as goal

-- the table: each name in its cell
abbrev cells : List (List ℕ)
cells = map (λ vt. take 12 (ascii (name_in vt_names vt) ++ ascii "            ")) (range_with_len 0 30)

-- the cell of a code has its name
abbrev named : ℕ → Bool
named vt = same (word_of (get_or cells vt [])) (vt_name vt)

name : T (all named 0 30) → (vt : ℕ) → vt < 30 → word_of (get_or cells vt []) ≡ vt_name vt
name t vt h = same-is _ _ (each named 30 t vt h)

pub returns-then-code-lt30 : goal.returns-then-code-lt30
unfolding vt_name
returns-then-code-lt30 c = laid_as c.put_word.ensures (let h : c.args.vt < 30 = omega arith in rw c.from-code.ensures (name tt c.args.vt h))

pub returns-else-code-lt30 : goal.returns-else-code-lt30
unfolding vt_name
returns-else-code-lt30 c = laid_as c.put.ensures (sym (ap ascii (name-none vt_names 30 c.args.vt tt (omega arith))))
