-- The numbers of a library's functions, variables and parameters (document 02, §10). Assumes nothing.
use Rattle.std.specs.Prelude.{◌≡◌, refl, List, ℕ, ◌+◌, ◌*◌, ◌^◌, ◌<◌, ltb, Option, Some, None}
use Rattle.std.proofs.Common.{sym, arith}
use Rattle.util.specs.Read.{cond-elim}
use Rattle.records.specs.declared.answer.Place.{Place}
use Rattle.records.specs.declared.typeinfo.TypeInfoEntry.{TypeInfoEntry}
use Rattle.member_records.specs.declared.func.FuncRecord.{FuncRecord}
use Rattle.records.specs.Answer.{value}
use Rattle.records.specs.Attributes.{argument_count}
use Rattle.records.specs.Layout.{size_of, func_record, parameter_info}
use Rattle.records.specs.Record.{record_place}
use Rattle.typelib.specs.declared.typeinfos.Counts.{Counts}
use Rattle.typelib.specs.TypeInfos.{of_type_info, counts_of}
use Rattle.cursors.specs.declared.iterators.FuncCursor.{FuncCursor}
use Rattle.cursors.specs.declared.iterators.VarCursor.{VarCursor}
use Rattle.cursors.specs.declared.iterators.ParamCursor.{ParamCursor}
use Rattle.cursors.specs.Cursors.{func_step, block_with, func_cursor, funcs_of, var_step, skip, vars_from, var_cursor, vars_of, param_step, param_cursor, params_of}
use Rattle.cursors.specs.Numbers.{largest}
use Rattle.cursors.specs.NumberLaws.{After, Numbered, func-sum, func-number, var-sum, var-number, param-sum, param-number}
use Rattle.describe.specs.Answers.{IfValue, anything, answers-value, answers-bind, answers-map}
use Rattle.describe.specs.FitMembers.{funcs-short, vars-short, params-short}

-- ---- the cursors that the library gives have yielded none

func-none : (count : ℕ) (o : Option Place) → (func_cursor count o).yielded ≡ 0
func-none count None = refl
func-none count (Some b) = refl

vars-none : (end count : ℕ) (o : Option ℕ) → (vars_from end count o).yielded ≡ 0
vars-none end count None = refl
vars-none end count (Some start) = refl

var-none : (s : List ℕ) (c : Counts) (o : Option Place) → (var_cursor s c o).yielded ≡ 0
var-none s c None = refl
var-none s c (Some b) = vars-none (b.at + b.len) c.vars (skip c.funcs s b.at)

param-none : (r : Place) (n : ℕ) → (param_cursor r n).yielded ≡ 0
unfolding param_cursor
param-none r n =
    cond-elim (λ (c : ParamCursor). c.yielded ≡ 0) (ltb r.len (size_of parameter_info * n)) _ _ (λ _. refl) (λ _. refl)

module _ (s : List ℕ) where
  pub funcs-begun : (ti : TypeInfoEntry) → IfValue (λ c. c.yielded ≡ 0) (funcs_of s ti)
  funcs-begun ti =
      answers-bind (anything (of_type_info "memoffset" s ti)) (λ m _.
      answers-map (λ c. func_cursor c.funcs (block_with s m c.funcs)) (anything (counts_of s ti)) (λ c _.
      func-none c.funcs (block_with s m c.funcs)))

  pub vars-begun : (ti : TypeInfoEntry) → IfValue (λ c. c.yielded ≡ 0) (vars_of s ti)
  vars-begun ti =
      answers-bind (anything (of_type_info "memoffset" s ti)) (λ m _.
      answers-map (λ c. var_cursor s c (block_with s m c.vars)) (anything (counts_of s ti)) (λ c _.
      var-none s c (block_with s m c.vars)))

  pub params-begun : (f : FuncRecord) → IfValue (λ c. c.yielded ≡ 0) (params_of s f)
  params-begun f =
      answers-bind (anything (record_place (size_of func_record) s f.at f.len)) (λ r _.
      answers-map (param_cursor r) (anything (argument_count s f.at f.len)) (λ n _. param-none r n))

  -- ---- YIELDED PLUS REMAINING equals what the cursor began with, when it came from the library and was only stepped; and the record behind
  -- j records has number j

  module _ (ti : TypeInfoEntry) {j : ℕ} where
    module _ {c d : FuncCursor} (e : value c ≡ funcs_of s ti) (a : After func_step c j d) where
      few-funcs : c.remaining < largest
      few-funcs = let few : c.remaining < 256 ^ 2 = answers-value (funcs-short s ti) (sym e) in omega (arith, few)

      pub funcs-sum : d.yielded + d.remaining ≡ c.remaining
      funcs-sum = func-sum (answers-value (funcs-begun ti) (sym e)) few-funcs a

      pub funcs-number : Numbered (λ (x : FuncCursor). x.yielded) func_step j d
      funcs-number = func-number (answers-value (funcs-begun ti) (sym e)) few-funcs a

    module _ {c d : VarCursor} (e : value c ≡ vars_of s ti) (a : After var_step c j d) where
      few-vars : c.remaining < largest
      few-vars = let few : c.remaining < 256 ^ 2 = answers-value (vars-short s ti) (sym e) in omega (arith, few)

      pub vars-sum : d.yielded + d.remaining ≡ c.remaining
      vars-sum = var-sum (answers-value (vars-begun ti) (sym e)) few-vars a

      pub vars-number : Numbered (λ (x : VarCursor). x.yielded) var_step j d
      vars-number = var-number (answers-value (vars-begun ti) (sym e)) few-vars a

  module _ (f : FuncRecord) {j : ℕ} {c d : ParamCursor} (e : value c ≡ params_of s f) (a : After param_step c j d) where
    few-params : c.remaining < largest
    few-params = let few : c.remaining < 256 ^ 2 = answers-value (params-short s f) (sym e) in omega (arith, few)

    pub params-sum : d.yielded + d.remaining ≡ c.remaining
    params-sum = param-sum (answers-value (params-begun f) (sym e)) few-params a

    pub params-number : Numbered (λ (x : ParamCursor). x.yielded) param_step j d
    params-number = param-number (answers-value (params-begun f) (sym e)) few-params a
