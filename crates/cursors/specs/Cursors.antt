-- What a cursor yields in one step, as one `next` of the source's iterators, with its number (document 02, §10). Assumes nothing.
use Rattle.std.specs.Prelude.{refl, cond, List, ℕ, zero, suc, ◌+◌, ◌-◌, ◌*◌, leb, ltb, eqb, length, Option, Some, None}
use Rattle.util.specs.Read.{le, read}
use Rattle.records.specs.declared.answer.Place.{Place}
use Rattle.member_records.specs.declared.func.FuncRecord.{FuncRecord}
use Rattle.records.specs.declared.typeinfo.TypeInfoEntry.{TypeInfoEntry}
use Rattle.records.specs.Answer.{Answer, value, refused, map, bind}
use Rattle.records.specs.Attributes.{argument_count}
use Rattle.records.specs.Layout.{size_of, func_record, var_record, parameter_info}
use Rattle.records.specs.Record.{bits_of, record_place}
use Rattle.cursors.specs.declared.iterators.FuncCursor.{FuncCursor}
use Rattle.cursors.specs.declared.iterators.VarCursor.{VarCursor}
use Rattle.cursors.specs.declared.iterators.ParamCursor.{ParamCursor}
use Rattle.cursors.specs.Numbers.{Next, next_by, Step, Counting, with_number}
use Rattle.typelib.specs.declared.typeinfos.Counts.{Counts}
use Rattle.typelib.specs.Tables.{lent, negative, in_table}
use Rattle.typelib.specs.TypeInfos.{of_type_info, counts_of}

-- ---- where a cursor stands

-- before a record, in a block or a function's record that ends at `end`, with so many left at most
pub record BlockAt : Type 0 where
  pub pos : ℕ
  pub end : ℕ
  pub remaining : ℕ

-- the three cursors are that, and how many records they have yielded
abbrev pub over_funcs : Counting FuncCursor BlockAt
over_funcs =
    record {
      stands = λ c. record { pos = c.pos; end = c.end; remaining = c.remaining };
      count = λ c. c.yielded;
      cursor = λ d n. record { pos = d.pos; end = d.end; remaining = d.remaining; yielded = n };
      whole = λ c. refl;
      stood = λ d n. refl;
      counted = λ d n. refl;
    }

abbrev pub over_vars : Counting VarCursor BlockAt
over_vars =
    record {
      stands = λ c. record { pos = c.pos; end = c.end; remaining = c.remaining };
      count = λ c. c.yielded;
      cursor = λ d n. record { pos = d.pos; end = d.end; remaining = d.remaining; yielded = n };
      whole = λ c. refl;
      stood = λ d n. refl;
      counted = λ d n. refl;
    }

abbrev pub over_params : Counting ParamCursor BlockAt
over_params =
    record {
      stands = λ c. record { pos = c.pos; end = c.end; remaining = c.remaining };
      count = λ c. c.yielded;
      cursor = λ d n. record { pos = d.pos; end = d.end; remaining = d.remaining; yielded = n };
      whole = λ c. refl;
      stood = λ d n. refl;
      counted = λ d n. refl;
    }

-- ---- records of a block, which carry their length

-- the length of the record at pos, the low 16 bits of its first word
abbrev pub size_at : List ℕ → ℕ → ℕ
size_at s pos = bits_of 0 16 (le 4 s pos)

-- A record starts before the block's end, has its length, which is at least `least`, and may end past the block but not past
-- the file.
unfoldable pub record_at : List ℕ → ℕ → ℕ → ℕ → ℕ → Answer ℕ
record_at s pos end remaining least =
    cond (eqb remaining 0) (refused 9)
    (cond (leb end pos) (refused 9)
    (cond (ltb (length s) (pos + 4)) (refused 9)
    (cond (ltb (size_at s pos) least) (refused 9)
    (cond (ltb (length s) (pos + size_at s pos)) (refused 9) (value (size_at s pos))))))

-- functions and variables, by the size of their fixed part
abbrev pub block_next_from : BlockAt → Answer ℕ → Next Place BlockAt
block_next_from d =
    next_by d (λ n. record { at = d.pos; len = n }) (λ n.
    record { pos = d.pos + n; end = d.end; remaining = d.remaining - 1 })

abbrev pub block_next : ℕ → List ℕ → BlockAt → Next Place BlockAt
block_next least s d = block_next_from d (lent s (record_at s d.pos d.end d.remaining least))

abbrev pub func_step : List ℕ → FuncCursor → Step Place FuncCursor
func_step s = with_number over_funcs (block_next (size_of func_record) s)

abbrev pub var_step : List ℕ → VarCursor → Step Place VarCursor
var_step s = with_number over_vars (block_next (size_of var_record) s)

-- the block at a memoffset, if it has one and anything is declared: its first record, and its end
abbrev pub block_from : ℕ → Option ℕ → Option Place
block_from memoffset None = None
block_from memoffset (Some size) = Some (record { at = memoffset + 4; len = size })

unfoldable pub block_with : List ℕ → ℕ → ℕ → Option Place
block_with s memoffset count =
    cond (negative memoffset) None
    (cond (eqb count 0) None (block_from memoffset (read 4 s memoffset)))

abbrev pub func_cursor : ℕ → Option Place → FuncCursor
func_cursor count None = record { pos = 0; end = 0; remaining = 0; yielded = 0 }
func_cursor count (Some b) = record { pos = b.at; end = b.at + b.len; remaining = count; yielded = 0 }

abbrev pub funcs_of : List ℕ → TypeInfoEntry → Answer FuncCursor
funcs_of s ti =
    bind (of_type_info "memoffset" s ti) (λ m.
    map (λ c. func_cursor c.funcs (block_with s m c.funcs)) (counts_of s ti))

-- Past the function records by their sizes alone: a size of 0 ends the skip; nothing where a size word is past the file.
unfoldable pub skip : ℕ → List ℕ → ℕ → Option ℕ
skip zero s pos = Some pos
skip (suc n) s pos =
    cond (ltb (length s) (pos + 4)) None
    (cond (eqb (size_at s pos) 0) (Some pos) (skip n s (pos + size_at s pos)))

abbrev pub vars_from : ℕ → ℕ → Option ℕ → VarCursor
vars_from end count None = record { pos = 0; end = 0; remaining = 0; yielded = 0 }
vars_from end count (Some pos) = record { pos = pos; end = end; remaining = count; yielded = 0 }

abbrev pub var_cursor : List ℕ → Counts → Option Place → VarCursor
var_cursor s c None = record { pos = 0; end = 0; remaining = 0; yielded = 0 }
var_cursor s c (Some b) = vars_from (b.at + b.len) c.vars (skip c.funcs s b.at)

abbrev pub vars_of : List ℕ → TypeInfoEntry → Answer VarCursor
vars_of s ti =
    bind (of_type_info "memoffset" s ti) (λ m.
    map (λ c. var_cursor s c (block_with s m c.vars)) (counts_of s ti))

-- ---- records of one size

-- The record of `size` bytes at pos, in a table or a function's record that ends at `end`: it ends as bytes of a table do, of one from
-- the file's start to `end`.
unfoldable pub fixed_at : List ℕ → ℕ → ℕ → ℕ → Answer Place
fixed_at s pos end size =
    cond (in_table s (record { at = 0; len = end }) (pos + size)) (value (record { at = pos; len = size })) (refused 9)

-- the parameters of a function are the last 12 bytes each of its record; none where they are more than the record
unfoldable pub param_cursor : Place → ℕ → ParamCursor
param_cursor r n =
    cond (ltb r.len (size_of parameter_info * n)) (record { pos = 0; end = 0; remaining = 0; yielded = 0 })
    (record { pos = r.at + (r.len - size_of parameter_info * n); end = r.at + r.len; remaining = n; yielded = 0 })

abbrev pub params_of : List ℕ → FuncRecord → Answer ParamCursor
params_of s f =
    bind (record_place (size_of func_record) s f.at f.len) (λ r.
    map (param_cursor r) (argument_count s f.at f.len))

unfoldable pub param_at : List ℕ → BlockAt → Answer Place
param_at s d = cond (eqb d.remaining 0) (refused 9) (fixed_at s d.pos d.end (size_of parameter_info))

abbrev pub param_next_from : BlockAt → Answer Place → Next Place BlockAt
param_next_from d =
    next_by d (λ p. p) (λ p.
    record { pos = d.pos + size_of parameter_info; end = d.end; remaining = d.remaining - 1 })

abbrev pub param_next : List ℕ → BlockAt → Next Place BlockAt
param_next s d = param_next_from d (lent s (param_at s d))

abbrev pub param_step : List ℕ → ParamCursor → Step Place ParamCursor
param_step s = with_number over_params (param_next s)
