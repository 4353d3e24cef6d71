-- The figures of members are those of their parts, one behind the other. Assumes nothing.
use mathlib.Core.Path.{◌≡◌, refl, sym, ap, ap₂, ◌∙◌}
use mathlib.Core.List.{List, ◌∷◌, ◌++◌}
use Prim.Native.Nat.{ℕ, suc, ◌+◌, ◌-◌, ◌*◌, ◌≤◌, ◌<◌}
use native.Mathlib.Omega.{arith}
use lib.IntN.{ℤ}
use lib.ListN.{length, length-append}
use Rattle.util.specs.Read.{read, or_zero}
use Rattle.records.specs.declared.answer.Place.{Place}
use Rattle.records.specs.declared.typeinfo.TypeInfoEntry.{TypeInfoEntry}
use Rattle.records.specs.Answer.{Answer, value, refused, map, bind}
use Rattle.records.specs.Attributes.{default_value_offset}
use Rattle.records.specs.Record.{signed32}
use Rattle.member_records.specs.declared.func.FuncRecord.{FuncRecord}
use Rattle.member_records.specs.declared.var.VarRecord.{VarRecord}
use Rattle.typelib.specs.declared.TypeLib.{TypeLib}
use Rattle.typelib.specs.Header.{type_count}
use Rattle.typelib.specs.TypeInfos.{func_memid, func_name_offset, var_memid, var_name_offset}
use Rattle.cursors.specs.declared.iterators.FuncCursor.{FuncCursor}
use Rattle.cursors.specs.declared.iterators.ParamCursor.{ParamCursor}
use Rattle.cursors.specs.declared.iterators.VarCursor.{VarCursor}
use Rattle.cursors.specs.Numbers.{Step, yielded, ended}
use Rattle.cursors.specs.NumberLaws.{Lessens, Turn, param-takes}
use Rattle.cursors.specs.Cursors.{funcs_of, func_step, vars_of, var_step, params_of, param_step}
use Rattle.description.specs.Format.{Format, encode, opt, list, joined, le_bytes, length-le_bytes}
use Rattle.description.specs.Description.{Bytes, Tree, Parameter, is_constant}
use Rattle.description.specs.Figures.{Figures, sum_of, parameter_references, function_references, variable_references}
use Rattle.description.specs.Sheet.{edition-one, u16, u32, name, constant, tree, parameter, function, variable}
use Rattle.describe.specs.Values.{found, all, numbered}
use Rattle.describe.specs.Trees.{tree_of}
use Rattle.describe.specs.Members.{yields, func_records, var_records, param_records, name_of, name_by, memid_by, default_of, parameter_with, parameter_of, parameters_of, function_with, function_of, functions_of, value_with, variable_with, variable_of, variables_of}
use Rattle.sheet_members.specs.Lists.{Sized, sized, unsized, all-sized, numbered-length, places-more, places-none}
use Rattle.sheet_members.specs.Room.{Room}
use Rattle.sheet_members.specs.Words.{function_words, value_bytes}
use Rattle.sheet_members.proofs.WordLaws.{memid-same, name-same}
use Rattle.sheet_members.proofs.ParameterLaws.{after, step, after_none}
use Rattle.sheet_sizes.specs.Counts.{figures, none, plus, ◌⊕◌}
use Rattle.sheet_sizes.specs.Counts.{sized as bytes}
use Rattle.sheet_sizes.specs.Counted.{count_all, tree_figures, parameter_figures, parameters_figures, function_figures, variable_figures, tree_counted, parameter_counted, parameters_from, parameters_counted, function_counted, functions_from, functions_counted, variable_counted, variables_from, variables_counted}
use Rattle.sheet_sizes.proofs.CountLaws.{Sums, all-counted}

-- ---- lists

-- what stands before them, and each of them
pub list_counted : {A : Type 0} (F : Format A) {f : A → Figures} {g h : List A → Figures} (first : Figures) → Sums f g → (xs : List (Answer A)) {n : ℕ} → length xs ≡ n
    → ((ys : List A) → length ys ≡ n → plus first (g ys) ≡ h ys) → value first ⊕ count_all f xs ≡ map h (all xs)
list_counted {A} F {f} {g} {h} first s xs {n} e k =
    ap (λ (y : Answer Figures). value first ⊕ y) (all-counted s xs) ∙ by (all-sized F xs)
  where
    by : {y : Answer (List A)} → Sized F (length xs) y → value first ⊕ map g y ≡ map h y
    by (sized {ys = ys} q) = ap value (k ys (q ∙ e))
    by unsized = refl

-- the records that a cursor yields, one by one
module _ {C : Type 0} (next : C → Step Place C) (left : C → ℕ) {A : Type 0} (f : A → Figures) (g : ℕ → Place → Answer A) where
  abbrev pub from : ℕ → C → Answer Figures
  from i c = count_all f (numbered g i (yields next (left c) c))

  pub from_more : (i : ℕ) {c d : C} {p : Place} {k : ℕ} → Lessens left c d → yielded p k d ≡ next c → from i c ≡ map f (g i p) ⊕ from (i + 1) d
  unfolding count_all numbered
  from_more i l e = rw (places-more next left l e)

  pub from-none : (i : ℕ) {c d : C} {n : ℕ} → ended n d ≡ next c → from i c ≡ value none
  unfolding count_all numbered
  from-none i e = rw (places-none next left e)

  pub from-turn : (count : C → ℕ) {c d : C} {p : Place} {k : ℕ} → Turn left count c d k → yielded p k d ≡ next c → from (count c) c ≡ map f (g k p) ⊕ from (count d) d
  from-turn count {c} {d} {p} {k} t e =
      from_more (count c) t.lessens e
      ∙ ap (λ (n : ℕ). map f (g n p) ⊕ from (count c + 1) d) (sym t.number)
      ∙ ap (λ (n : ℕ). map f (g k p) ⊕ from n d) (sym t.more)

module _ (s : List ℕ) (lib : TypeLib) where
  abbrev N : ℕ
  N = type_count lib

  -- ---- members

  -- a parameter's bytes behind its type
  abbrev after_type : FuncRecord → ℕ → ℕ → Bytes
  after_type f i at =
      encode (opt name) (name_of s lib (or_zero (read 4 s (at + 4))))
      ++ (le_bytes 4 (or_zero (read 4 s (at + 8))) ++ encode (opt constant) (default_of s lib (or_zero (read 4 s (at + 8))) (default_value_offset i s f.at f.len)))

  pub parameter-counts : (f : FuncRecord) (i at : ℕ) {field offset flags : ℕ} → field ≡ or_zero (read 4 s (at + 0)) → offset ≡ or_zero (read 4 s (at + 4)) → flags ≡ or_zero (read 4 s (at + 8))
      → tree_counted s lib field ⊕ bytes (encode (opt name) (name_of s lib offset) ++ (le_bytes 4 flags ++ encode (opt constant) (default_of s lib flags (default_value_offset i s f.at f.len))))
      ≡ parameter_counted s lib f i at
  unfolding tree_counted parameter_counted parameter_of parameter
  parameter-counts f i at {field} {offset} {flags} e g h = rw (e, g, h) (by (tree_of s lib (or_zero (read 4 s (at + 0)))))
    where
      by : (t : Answer Tree) → map (tree_figures N) t ⊕ bytes (after_type f i at) ≡ map (parameter_figures N) (map (parameter_with s lib f i at) t)
      by (value t) =
          let n : length (encode (tree edition-one N) t ++ after_type f i at) ≡ length (encode (tree edition-one N) t) + length (after_type f i at) = length-append (encode (tree edition-one N) t) (after_type f i at) in
          let r : parameter_references (parameter_with s lib f i at t) + 0 ≡ parameter_references (parameter_with s lib f i at t) = omega arith in
          ap₂ (λ (x y : ℕ). value (figures x 0 0 0 y)) (sym n) r
      by (refused n) = refl

  -- a member's identifier and name
  abbrev named : Answer ℤ → Answer ℤ → Bytes
  named m o = encode (opt u32) (memid_by m) ++ encode (opt name) (name_by s lib o)

  -- a variable's bytes behind its type
  abbrev valued : VarRecord → Bytes
  valued v =
      (le_bytes 4 (or_zero (read 4 s (v.at + 8))) ++ le_bytes 2 (or_zero (read 2 s (v.at + 12))))
      ++ value_bytes (is_constant (or_zero (read 2 s (v.at + 12)))) (value_with s lib (is_constant (or_zero (read 2 s (v.at + 12)))) (or_zero (read 4 s (v.at + 16))))

  pub function-counts : (ti : TypeInfoEntry) (i : ℕ) (f : FuncRecord) {field : ℕ} (m o : Answer ℤ)
      → found m ≡ found (signed32 (func_memid s ti i)) → found o ≡ found (signed32 (func_name_offset s ti i)) → field ≡ or_zero (read 4 s (f.at + 4))
      → bytes (encode (opt u32) (memid_by m) ++ encode (opt name) (name_by s lib o))
      ⊕ (tree_counted s lib field ⊕ (value (figures (length (function_words s f.at)) 1 0 0 0) ⊕ parameters_counted s lib f))
      ≡ function_counted s lib ti i f
  unfolding tree_counted parameters_counted function_counted function_of function function_words
  function-counts ti i f {field} m o e g h =
      rw (memid-same m (signed32 (func_memid s ti i)) e, name-same s lib o (signed32 (func_name_offset s ti i)) g, h) (by (tree_of s lib (or_zero (read 4 s (f.at + 4)))) (all (parameters_of s lib f)))
    where
      by : (t : Answer Tree) (ps : Answer (List Parameter))
          → bytes (named (signed32 (func_memid s ti i)) (signed32 (func_name_offset s ti i))) ⊕ (map (tree_figures N) t ⊕ (value (figures (length (function_words s f.at)) 1 0 0 0) ⊕ map (parameters_figures N) ps))
          ≡ map (function_figures N) (bind t (λ datatype. map (function_with s lib ti i f.at datatype) ps))
      by (value t) (value ps) =
          let a : length (named (signed32 (func_memid s ti i)) (signed32 (func_name_offset s ti i))) + (length (encode (tree edition-one N) t) + (length (function_words s f.at) + length (encode (list u16 (parameter edition-one N)) ps))) ≡ length (encode (function edition-one N) (function_with s lib ti i f.at t ps)) =
          simp (length-append, length-le_bytes) (omega arith) in
          let b : 0 + (0 + (0 + length ps)) ≡ length ps = omega arith in
          let c : 0 + ((tree_figures N t).references + (0 + sum_of parameter_references ps)) ≡ function_references (function_with s lib ti i f.at t ps) = omega arith in
          rw (a, b, c)
      by (value t) (refused n) = refl
      by (refused n) ps = refl

  pub variable-counts : (ti : TypeInfoEntry) (i : ℕ) (v : VarRecord) {field varkind word : ℕ} (m o : Answer ℤ)
      → m ≡ signed32 (var_memid s ti i) → o ≡ signed32 (var_name_offset s ti i) → field ≡ or_zero (read 4 s (v.at + 4))
      → varkind ≡ or_zero (read 2 s (v.at + 12)) → word ≡ or_zero (read 4 s (v.at + 16))
      → bytes (encode (opt u32) (memid_by m) ++ encode (opt name) (name_by s lib o))
      ⊕ (tree_counted s lib field
      ⊕ value (figures (length ((le_bytes 4 (or_zero (read 4 s (v.at + 8))) ++ le_bytes 2 varkind) ++ value_bytes (is_constant varkind) (value_with s lib (is_constant varkind) word))) 0 0 1 0))
      ≡ variable_counted s lib ti i v
  unfolding tree_counted variable_counted variable_of variable value_bytes
  variable-counts ti i v {field} {varkind} {word} m o e g h k l = rw (e, g, h, k, l) (by (tree_of s lib (or_zero (read 4 s (v.at + 4)))))
    where
      by : (t : Answer Tree) → bytes (named (signed32 (var_memid s ti i)) (signed32 (var_name_offset s ti i))) ⊕ (map (tree_figures N) t ⊕ value (figures (length (valued v)) 0 0 1 0)) ≡ map (variable_figures N) (map (variable_with s lib ti i v.at) t)
      by (value t) =
          let a : length (named (signed32 (var_memid s ti i)) (signed32 (var_name_offset s ti i))) + (length (encode (tree edition-one N) t) + length (valued v)) ≡ length (encode (variable edition-one N) (variable_with s lib ti i v.at t)) =
          simp (length-append, length-le_bytes) (omega arith) in
          let c : 0 + ((tree_figures N t).references + 0) ≡ variable_references (variable_with s lib ti i v.at t) = omega arith in
          rw (a, c)
      by (refused n) = refl

  -- ---- all members of a kind

  pub joined_length : {A : Type 0} (F : Format A) (x : A) (xs : List A) → length (encode F x) + length (joined F xs) ≡ length (joined F (x ∷ xs))
  joined_length F x xs = sym (length-append (encode F x) (joined F xs))

  parameters-sum : Sums (parameter_figures N) (λ ps. figures (length (joined (parameter edition-one N) ps)) 0 0 0 (sum_of parameter_references ps))
  unfolding sum_of
  parameters-sum = record { empty = refl; more = λ x xs. rw (joined_length (parameter edition-one N) x xs) }

  functions-sum : Sums (function_figures N)
      (λ fs. figures (length (joined (function edition-one N) fs)) (length fs) (sum_of (λ f. length f.parameters) fs) 0 (sum_of function_references fs))
  unfolding sum_of
  functions-sum = record { empty = refl; more = λ x xs. let e : 1 + length xs ≡ suc (length xs) = omega arith in rw (joined_length (function edition-one N) x xs, e) }

  variables-sum : Sums (variable_figures N) (λ vs. figures (length (joined (variable edition-one N) vs)) 0 0 (length vs) (sum_of variable_references vs))
  unfolding sum_of
  variables-sum = record { empty = refl; more = λ x xs. let e : 1 + length xs ≡ suc (length xs) = omega arith in rw (joined_length (variable edition-one N) x xs, e) }

  two-more : {A : Type 0} (F : Format A) (ys : List A) → 2 + length (joined F ys) ≡ length (encode (list u16 F) ys)
  two-more F ys = sym (length-append (le_bytes 2 (length ys)) (joined F ys) ∙ ap (λ (n : ℕ). n + length (joined F ys)) (length-le_bytes 2 (length ys)))

  module _ (f : FuncRecord) (a : Answer ParamCursor) (e : a ≡ params_of s f) where
    pub parameters-some : {c : ParamCursor} {n : ℕ} → a ≡ value c → n ≡ length (yields (param_step s) c.remaining c)
        → value (figures 2 0 n 0 0) ⊕ parameters_from s lib f c ≡ parameters_counted s lib f
    unfolding parameters_from parameters_counted parameters_of param_records
    parameters-some {c} {n} g h =
        let q : params_of s f ≡ value c = sym e ∙ g in
        let ps : List Place = yields (param_step s) c.remaining c in
        rw q (list_counted (parameter edition-one N) (figures 2 0 n 0 0) parameters-sum (numbered (parameter_of s lib f) 0 ps) (numbered-length (parameter_of s lib f) 0 ps ∙ sym h)
        (λ ys k.
        let x : n + 0 ≡ length ys = omega (arith, k) in
        let y : 0 + sum_of parameter_references ys ≡ sum_of parameter_references ys = omega arith in
        rw (two-more (parameter edition-one N) ys, x, y)))

    pub parameters-none : {n : ℕ} → a ≡ refused n → value (figures 2 0 0 0 0) ≡ parameters_counted s lib f
    unfolding parameters_counted parameters_of param_records numbered all sum_of le_bytes
    parameters-none {n} g = let q : params_of s f ≡ refused n = sym e ∙ g in rw q

  module _ (ti : TypeInfoEntry) (a : Answer FuncCursor) (e : a ≡ funcs_of s ti) where
    pub functions-some : {c : FuncCursor} → a ≡ value c → value (figures 2 0 0 0 0) ⊕ functions_from s lib ti c ≡ functions_counted s lib ti
    unfolding functions_from functions_counted functions_of func_records
    functions-some {c} g =
        let q : funcs_of s ti ≡ value c = sym e ∙ g in
        rw q (list_counted (function edition-one N) (figures 2 0 0 0 0) functions-sum (numbered (function_of s lib ti) 0 (yields (func_step s) c.remaining c)) refl
        (λ ys k.
        let x : 0 + length ys ≡ length ys = omega arith in
        let y : 0 + sum_of (λ f. length f.parameters) ys ≡ sum_of (λ f. length f.parameters) ys = omega arith in
        let z : 0 + sum_of function_references ys ≡ sum_of function_references ys = omega arith in
        rw (two-more (function edition-one N) ys, x, y, z)))

    pub functions-empty : {c : FuncCursor} → a ≡ value c → c.remaining ≡ 0 → value (figures 2 0 0 0 0) ≡ functions_counted s lib ti
    unfolding functions_counted functions_of func_records yields numbered all sum_of le_bytes
    functions-empty {c} g h = let q : funcs_of s ti ≡ value c = sym e ∙ g in rw (q, h)

    pub functions-none : {n : ℕ} → a ≡ refused n → value (figures 2 0 0 0 0) ≡ functions_counted s lib ti
    unfolding functions_counted functions_of func_records numbered all sum_of le_bytes
    functions-none {n} g = let q : funcs_of s ti ≡ refused n = sym e ∙ g in rw q

  module _ (ti : TypeInfoEntry) (a : Answer VarCursor) (e : a ≡ vars_of s ti) where
    pub variables-some : {c : VarCursor} → a ≡ value c → value (figures 2 0 0 0 0) ⊕ variables_from s lib ti c ≡ variables_counted s lib ti
    unfolding variables_from variables_counted variables_of var_records
    variables-some {c} g =
        let q : vars_of s ti ≡ value c = sym e ∙ g in
        rw q (list_counted (variable edition-one N) (figures 2 0 0 0 0) variables-sum (numbered (variable_of s lib ti) 0 (yields (var_step s) c.remaining c)) refl
        (λ ys k.
        let x : 0 + length ys ≡ length ys = omega arith in
        let z : 0 + sum_of variable_references ys ≡ sum_of variable_references ys = omega arith in
        rw (two-more (variable edition-one N) ys, x, z)))

    pub variables-empty : {c : VarCursor} → a ≡ value c → c.remaining ≡ 0 → value (figures 2 0 0 0 0) ≡ variables_counted s lib ti
    unfolding variables_counted variables_of var_records yields numbered all sum_of le_bytes
    variables-empty {c} g h = let q : vars_of s ti ≡ value c = sym e ∙ g in rw (q, h)

    pub variables-none : {n : ℕ} → a ≡ refused n → value (figures 2 0 0 0 0) ≡ variables_counted s lib ti
    unfolding variables_counted variables_of var_records numbered all sum_of le_bytes
    variables-none {n} g = let q : vars_of s ti ≡ refused n = sym e ∙ g in rw q

  -- ---- the parameters of a cursor, by their places

  module _ (c : ParamCursor) (f : FuncRecord) where
    -- those from i on
    abbrev pub parameters_at : ℕ → Answer Figures
    parameters_at i = count_all (parameter_figures N) (numbered (parameter_of s lib f) i (yields (param_step s) (c.remaining - i) (after s c i)))

    pub parameters-all : Room s c → parameters_at 0 ≡ parameters_from s lib f c
    unfolding parameters_from
    parameters-all r =
        let q : c.remaining - 0 ≡ c.remaining = omega arith in
        ap (λ (x : ParamCursor). count_all (parameter_figures N) (numbered (parameter_of s lib f) 0 (yields (param_step s) (c.remaining - 0) x))) (after_none s c r)
        ∙ ap (λ (n : ℕ). count_all (parameter_figures N) (numbered (parameter_of s lib f) 0 (yields (param_step s) n c))) q

    pub parameters-one : (i : ℕ) → Room s c → i < c.remaining → parameters_at i ≡ parameter_counted s lib f i (c.pos + 12 * i) ⊕ parameters_at (i + 1)
    unfolding parameter_counted
    parameters-one i r h =
        from_more (param_step s) (λ (x : ParamCursor). x.remaining) (parameter_figures N) (parameter_of s lib f) i (param-takes.takes (step s c i r h)) (step s c i r h)

    pub parameters-end : (i : ℕ) → c.remaining ≤ i → parameters_at i ≡ value none
    unfolding count_all numbered yields
    parameters-end i h = let e : c.remaining - i ≡ 0 = omega arith in rw e
