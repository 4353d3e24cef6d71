-- Functions, parameters and variables that are taken from bytes fit the sheet. Assumes nothing.
use Rattle.std.specs.Prelude.{◌≡◌, refl, Bool, true, false, List, ℕ, suc, ◌+◌, ◌-◌, ◌*◌, ◌^◌, ◌≤◌, ◌<◌, ltb, ℤ, pos, negsuc, length, Option, Some, None}
use Rattle.std.proofs.Common.{◌∙◌, mod-lt, arith, pow_pos, ltb-true}
use Rattle.std.proofs.Math.Dec.{lit<}
use mir.Syntax.{w16, w32}
use mir.Val.{to_z, of_z, sel}
use Rattle.util.specs.Read.{cond-elim}
use Rattle.records.specs.declared.answer.Place.{Place}
use Rattle.member_records.specs.declared.func.FuncRecord.{FuncRecord}
use Rattle.records.specs.declared.typeinfo.TypeInfoEntry.{TypeInfoEntry}
use Rattle.records.specs.Answer.{Answer, value, refused, map}
use Rattle.records.specs.Attributes.{at_least_zero, argument_count, default_value_offset}
use Rattle.records.specs.Layout.{size_of, parameter_info, func_record, var_record}
use Rattle.records.specs.Record.{field, signed32, bits_of, record_place, flag_set}
use Rattle.typelib.specs.declared.TypeLib.{TypeLib}
use Rattle.typelib.specs.Header.{type_count}
use Rattle.typelib.specs.declared.typeinfos.Counts.{Counts}
use Rattle.cursors.specs.declared.iterators.FuncCursor.{FuncCursor}
use Rattle.cursors.specs.declared.iterators.VarCursor.{VarCursor}
use Rattle.cursors.specs.declared.iterators.ParamCursor.{ParamCursor}
use Rattle.cursors.specs.Cursors.{func_step, block_with, func_cursor, funcs_of, var_step, skip, vars_from, var_cursor, vars_of, param_step, param_cursor, params_of}
use Rattle.typelib.specs.TypeInfos.{of_type_info, counts_of, block_at, aux_word, aux_in, member_word, func_name_offset, var_name_offset}
use Rattle.description.specs.Format.{Format, Fits, list, opt}
use Rattle.description.specs.Description.{is_constant}
use Rattle.description.specs.Sheet.{Edition, u16, u32, constant, variable_value, variable, parameter, function}
use Rattle.description.specs.Format.IfAny.{missing}
use Rattle.description.specs.Fit.{opt-fits, list-fits}
use Rattle.describe.specs.Values.{Octets, field_of, all, numbered}
use Rattle.describe.specs.Members.{func_records, var_records, param_records, memid_by, has_default, constant_by, default_of, parameter_with, parameter_of, parameters_of, function_with, function_of, functions_of, value_with, variable_with, variable_of, variables_of}
use Rattle.describe.specs.FieldLaws.{field_lt}
use Rattle.describe.specs.Answers.{IfValue, anything, answers-value, answers-bind, answers-map, answers-mono, answers-all, if-found, numbered-each, numbered-length}
use Rattle.describe.specs.YieldLaws.{yields-most}
use Rattle.describe.specs.FitValues.{word_fits, name-fits, name-by-fits}
use Rattle.describe.specs.FitConstants.{signed_lt, const_fits}
use Rattle.describe.specs.FitTrees.{tree-fits}

-- ---- how many records there are

bits-short : (low : ℕ) (a : Answer ℕ) → IfValue (λ n. n < 256 ^ 2) (map (bits_of low 16) a)
bits-short low a = answers-map (bits_of low 16) (anything a) (λ n _. mod-lt _ (pow_pos 16))

counts-short : (s : List ℕ) (ti : TypeInfoEntry) → IfValue (λ c. (c.funcs < 256 ^ 2) × (c.vars < 256 ^ 2)) (counts_of s ti)
counts-short s ti =
    answers-bind (bits-short 0 (of_type_info "cElement" s ti)) (λ f h.
    answers-map (λ v. record { funcs = f; vars = v }) (bits-short 16 (of_type_info "cElement" s ti)) (λ v k. (h, k)))

func-remaining : (count : ℕ) (o : Option Place) → count < 256 ^ 2 → (func_cursor count o).remaining < 256 ^ 2
func-remaining count None h = lit< tt
func-remaining count (Some b) h = h

var-remaining : (end count : ℕ) (o : Option ℕ) → count < 256 ^ 2 → (vars_from end count o).remaining < 256 ^ 2
var-remaining end count None h = lit< tt
var-remaining end count (Some start) h = h

vars-remaining : (s : List ℕ) (c : Counts) (o : Option Place) → c.vars < 256 ^ 2 → (var_cursor s c o).remaining < 256 ^ 2
vars-remaining s c None h = lit< tt
vars-remaining s c (Some b) h = var-remaining (b.at + b.len) c.vars (skip c.funcs s b.at) h

positive-short : (n : ℕ) → at_least_zero (to_z w16 n) < 256 ^ 2
positive-short n = by (ltb n (2 ^ 15)) refl
  where
    by : (b : Bool) → ltb n (2 ^ 15) ≡ b → at_least_zero (sel b (pos n) (negsuc (2 ^ 16 - suc n))) < 256 ^ 2
    by true e = omega (arith, ltb-true n (2 ^ 15) e)
    by false e = lit< tt

params-remaining : (r : Place) (n : ℕ) → n < 256 ^ 2 → (param_cursor r n).remaining < 256 ^ 2
unfolding param_cursor
params-remaining r n h =
    cond-elim (λ (c : ParamCursor). c.remaining < 256 ^ 2) (ltb r.len (size_of parameter_info * n)) _ _ (λ _. lit< tt) (λ _. h)

module _ (s : List ℕ) where
  pub funcs-short : (ti : TypeInfoEntry) → IfValue (λ c. c.remaining < 256 ^ 2) (funcs_of s ti)
  funcs-short ti =
      answers-bind (anything (of_type_info "memoffset" s ti)) (λ m _.
      answers-map (λ c. func_cursor c.funcs (block_with s m c.funcs)) (counts-short s ti) (λ c h.
      func-remaining c.funcs (block_with s m c.funcs) h.0))

  pub vars-short : (ti : TypeInfoEntry) → IfValue (λ c. c.remaining < 256 ^ 2) (vars_of s ti)
  vars-short ti =
      answers-bind (anything (of_type_info "memoffset" s ti)) (λ m _.
      answers-map (λ c. var_cursor s c (block_with s m c.vars)) (counts-short s ti) (λ c h.
      vars-remaining s c (block_with s m c.vars) h.1))

  arguments-short : (at len : ℕ) → IfValue (λ n. n < 256 ^ 2) (argument_count s at len)
  arguments-short at len =
      answers-map at_least_zero
      (answers-map {Q = λ z. at_least_zero z < 256 ^ 2} (to_z w16) (anything (field func_record "nrargs" s at len)) (λ n _. positive-short n))
      (λ z h. h)

  pub params-short : (f : FuncRecord) → IfValue (λ c. c.remaining < 256 ^ 2) (params_of s f)
  params-short f =
      answers-bind (anything (record_place (size_of func_record) s f.at f.len)) (λ r _.
      answers-map (param_cursor r) (arguments-short f.at f.len) (λ n h. params-remaining r n h))

  func-few : (a : Answer FuncCursor) → IfValue (λ c. c.remaining < 256 ^ 2) a → length (func_records s a) < 256 ^ 2
  unfolding func_records
  func-few (value c) h = omega (arith, yields-most (func_step s) c.remaining c, answers-value h refl)
  func-few (refused n) h = lit< tt

  var-few : (a : Answer VarCursor) → IfValue (λ c. c.remaining < 256 ^ 2) a → length (var_records s a) < 256 ^ 2
  unfolding var_records
  var-few (value c) h = omega (arith, yields-most (var_step s) c.remaining c, answers-value h refl)
  var-few (refused n) h = lit< tt

  param-few : (a : Answer ParamCursor) → IfValue (λ c. c.remaining < 256 ^ 2) a → length (param_records s a) < 256 ^ 2
  unfolding param_records
  param-few (value c) h = omega (arith, yields-most (param_step s) c.remaining c, answers-value h refl)
  param-few (refused n) h = lit< tt

-- members each of which fits, if they are not too many
members-fit : {A : Type 0} (F : Format A) (f : ℕ → Place → Answer A) (ps : List Place) → ((i : ℕ) (p : Place) → IfValue (Fits F) (f i p))
    → length ps < 256 ^ 2 → IfValue (Fits (list u16 F)) (all (numbered f 0 ps))
members-fit F f ps h k =
    answers-mono (answers-all (numbered f 0 ps) (numbered-each f (IfValue (Fits F)) h 0 ps)) (λ n u. u) (λ ys q.
    list-fits F u16 ys (rw (q.0 ∙ numbered-length f 0 ps) k) q.1)

-- ---- the members

module _ (s : List ℕ) (octets : Octets s) where
  member-word : (first : Counts → ℕ) (ti : TypeInfoEntry) (i : ℕ) → IfValue (Fits u32) (member_word first s ti i)
  unfolding aux_in aux_word
  member-word first ti i =
      answers-bind (anything (counts_of s ti)) (λ c _.
      answers-bind (anything (of_type_info "memoffset" s ti)) (λ m _.
      answers-bind (anything (block_at s m)) (λ block _. word_fits s octets (block.at + block.len + 4 * (first c + i)))))

  memid-fits : (first : Counts → ℕ) (ti : TypeInfoEntry) (i : ℕ) → Fits (opt u32) (memid_by (signed32 (member_word first s ti i)))
  unfolding memid_by
  memid-fits first ti i =
      opt-fits u32 (if-found (answers-map (of_z w32) (answers-map {Q = λ z. of_z w32 z < 256 ^ 4} (to_z w32) (member-word first ti i) (λ n h. signed_lt w32 n h)) (λ z h. h)))

  module _ (lib : TypeLib) (e : Edition) (room : type_count lib ≤ 256 ^ e.index_width) where
    abbrev n : ℕ
    n = type_count lib

    by_fits : (a : Answer ℤ) → Fits (opt constant) (constant_by s lib a)
    by_fits (value z) = const_fits s octets lib (of_z w32 z)
    by_fits (refused m) = opt-fits constant missing

    default-fits : (flags : ℕ) (a : Answer ℤ) → Fits (opt constant) (default_of s lib flags a)
    unfolding default_of
    default-fits flags a =
        cond-elim (Fits (opt constant)) (flag_set has_default flags) _ _ (λ _. by_fits a) (λ _. opt-fits constant missing)

    parameter-fits : (f : FuncRecord) (i : ℕ) (p : Place) → IfValue (Fits (parameter e n)) (parameter_of s lib f i p)
    unfolding parameter_of parameter
    parameter-fits f i p =
        answers-map (parameter_with s lib f i p.at) (tree-fits s octets lib e room (field_of parameter_info "DataType" s p.at)) (λ t h. (
          h,
          (
            name-fits s octets lib (field_of parameter_info "oName" s p.at),
            (
              field_lt s octets parameter_info "Flags" p.at,
              default-fits (field_of parameter_info "Flags" s p.at) (default_value_offset i s f.at f.len),
            ),
          ),
        ))

    parameters-fit : (f : FuncRecord) → IfValue (Fits (list u16 (parameter e n))) (all (parameters_of s lib f))
    unfolding parameters_of
    parameters-fit f =
        members-fit (parameter e n) (parameter_of s lib f) (param_records s (params_of s f)) (parameter-fits f)
        (param-few s (params_of s f) (params-short s f))

    function-fits : (ti : TypeInfoEntry) (i : ℕ) (p : Place) → IfValue (Fits (function e n)) (function_of s lib ti i p)
    unfolding function_of function
    function-fits ti i p =
        answers-bind (tree-fits s octets lib e room (field_of func_record "DataType" s p.at)) (λ t h.
        answers-map (function_with s lib ti i p.at t) (parameters-fit (record { at = p.at; len = p.len })) (λ ps k. (
          memid-fits (λ c. 0) ti i,
          (
            name-by-fits s octets lib (signed32 (func_name_offset s ti i)),
            (
              h,
              (
                field_lt s octets func_record "Flags" p.at,
                (
                  field_lt s octets func_record "VtableOffset" p.at,
                  (
                    field_lt s octets func_record "FKCCIC" p.at,
                    (field_lt s octets func_record "nrargs" p.at, (field_lt s octets func_record "nroargs" p.at, k)),
                  ),
                ),
              ),
            ),
          ),
        )))

    pub functions-fit : (ti : TypeInfoEntry) → IfValue (Fits (list u16 (function e n))) (all (functions_of s lib ti))
    unfolding functions_of
    functions-fit ti =
        members-fit (function e n) (function_of s lib ti) (func_records s (funcs_of s ti)) (function-fits ti)
        (func-few s (funcs_of s ti) (funcs-short s ti))

    value-fits : (b : Bool) (x : ℕ) → x < 256 ^ 4 → Fits (variable_value b) (value_with s lib b x)
    value-fits true x h = const_fits s octets lib x
    value-fits false x h = h

    variable-fits : (ti : TypeInfoEntry) (i : ℕ) (p : Place) → IfValue (Fits (variable e n)) (variable_of s lib ti i p)
    unfolding variable_of variable
    variable-fits ti i p =
        answers-map (variable_with s lib ti i p.at) (tree-fits s octets lib e room (field_of var_record "DataType" s p.at)) (λ t h. (
          memid-fits (λ c. c.funcs) ti i,
          (
            name-by-fits s octets lib (signed32 (var_name_offset s ti i)),
            (
              h,
              (
                field_lt s octets var_record "Flags" p.at,
                (
                  field_lt s octets var_record "VarKind" p.at,
                  value-fits (is_constant (field_of var_record "VarKind" s p.at)) (field_of var_record "OffsValue" s p.at)
                      (field_lt s octets var_record "OffsValue" p.at),
                ),
              ),
            ),
          ),
        ))

    pub variables-fit : (ti : TypeInfoEntry) → IfValue (Fits (list u16 (variable e n))) (all (variables_of s lib ti))
    unfolding variables_of
    variables-fit ti =
        members-fit (variable e n) (variable_of s lib ti) (var_records s (vars_of s ti)) (variable-fits ti)
        (var-few s (vars_of s ti) (vars-short s ti))
