-- A member's emissions, one behind the other, are those of its format. Assumes nothing.
use Rattle.std.specs.Prelude.{Ok, Err, ◌≡◌, refl, Bool, true, false, List, [], ◌∷◌, ◌++◌, ℕ, ◌+◌, ◌*◌, ◌^◌, ◌/◌, ◌%◌, ◌≤◌, ◌<◌, ℤ, length}
use Rattle.std.proofs.Common.{sym, ap, ◌∙◌, append_assoc, arith, eq-eqb, ne_eqb, of_z}
use Rattle.std.specs.Int.{w32}
use Rattle.std.specs.declared.result.Result.{Result}
use Rattle.typelib.specs.Header.{type_count}
use Rattle.util.specs.Read.{read, or_zero}
use Rattle.records.specs.declared.answer.Place.{Place}
use Rattle.member_records.specs.declared.func.FuncRecord.{FuncRecord}
use Rattle.records.specs.declared.typeinfo.TypeInfoEntry.{TypeInfoEntry}
use Rattle.records.specs.Answer.{Answer, value, refused, map, bind}
use Rattle.records.specs.Attributes.{default_value_offset}
use Rattle.records.specs.Record.{signed32}
use Rattle.records.specs.Told.{told_as}
use Rattle.typelib.specs.declared.TypeLib.{TypeLib}
use Rattle.cursors.specs.declared.iterators.FuncCursor.{FuncCursor}
use Rattle.cursors.specs.declared.iterators.VarCursor.{VarCursor}
use Rattle.cursors.specs.declared.iterators.ParamCursor.{ParamCursor}
use Rattle.cursors.specs.Numbers.{Step, yielded, ended}
use Rattle.cursors.specs.NumberLaws.{Turn}
use Rattle.cursors.specs.Cursors.{funcs_of, func_step, vars_of, var_step, params_of, param_step}
use Rattle.typelib.specs.TypeInfos.{func_memid, var_memid, func_name_offset, var_name_offset}
use Rattle.description.specs.Format.{Format, encode, opt, list, le_bytes, length-le_bytes}
use Rattle.description.specs.Description.{Bytes, Tree, Parameter, Function, Variable, is_constant}
use Rattle.description.specs.Sheet.{edition-one, u16, u32, name, constant, tree, variable_value, variable, parameter, function}
use Rattle.describe.specs.Values.{found, all, numbered}
use Rattle.describe.specs.Trees.{tree_of}
use Rattle.describe.specs.Constants.{constant_of}
use Rattle.describe.specs.Members.{func_records, var_records, param_records, yields, name_of, name_by, memid_by, constant_by, default_of, parameter_with, parameter_of, parameters_of, function_with, function_of, functions_of, value_with, variable_with, variable_of, variables_of}
use Rattle.emit.specs.Emit.{Put}
use Rattle.emit.specs.Emit.{◌▸◌, Emitted, Overwritten, put, past}
use Rattle.emit.specs.Laws.{Left, left-all, left_less, left-none, le_bytes-join, patched}
use Rattle.sheet_members.proofs.WordLaws.{memid-same, name-same}
use Rattle.sheet_members.specs.Lists.{lay_all, places, laid-turn, laid_none, counted-turn, counted_none, members-laid, members-none}
use Rattle.sheet_members.specs.Words.{function_words, value_bytes}

-- the words, as two numbers
pub words-is : (s : List ℕ) (at : ℕ) {a b c d e : ℕ}
    → a ≡ or_zero (read 4 s (at + 8)) → b ≡ or_zero (read 2 s (at + 12))
    → c ≡ or_zero (read 4 s (at + 16)) → d ≡ or_zero (read 2 s (at + 20)) → e ≡ or_zero (read 2 s (at + 22))
    → a < 2 ^ 32 → c < 2 ^ 32 → d < 2 ^ 16
    → value (le_bytes 6 (a + 4294967296 * b)) ▸ value (le_bytes 8 (c + 4294967296 * (d + 65536 * e))) ≡ value (function_words s at)
unfolding function_words
words-is s at {a} {b} {c} {d} {e} ea eb ec ed ee h k l =
    ap value
    (ap (λ (x : Bytes). x ++ le_bytes 8 (c + 4294967296 * (d + 65536 * e))) (le_bytes-join 4 2 a b h)
    ∙ ap (λ (x : Bytes). (le_bytes 4 a ++ le_bytes 2 b) ++ x) (le_bytes-join 4 4 c (d + 65536 * e) k)
    ∙ ap (λ (x : Bytes). (le_bytes 4 a ++ le_bytes 2 b) ++ (le_bytes 4 c ++ x)) (le_bytes-join 2 2 d e l)
    ∙ append_assoc (le_bytes 4 a) (le_bytes 2 b) _
    ∙ rw (ea, eb, ec, ed, ee))

-- their count m is put over a 0 once they are emitted; it is theirs, n, where nothing was refused
pub counted : {n m r : ℕ} {y : Answer Bytes} {t s : Put} {o o₁ o₂ o₃ : List ℕ} → (r ≤ past → m ≡ n)
    → Emitted (value (le_bytes 2 0)) t o s o₁ → Emitted y s o₁ (put r) o₂ → Overwritten (le_bytes 2 m) t o₂ o₃
    → Emitted (value (le_bytes 2 n) ▸ y) t o (put r) o₃
counted {n} {m} h = patched (length-le_bytes 2 0 ∙ sym (length-le_bytes 2 m)) (length-le_bytes 2 m ∙ sym (length-le_bytes 2 n)) (λ k. ap (le_bytes 2) (h k))

module _ (s : List ℕ) (lib : TypeLib) where
  -- ---- constants

  pub constant-by : {E : Type 0} (number : E → ℕ) {x : Result ℤ E} {z : ℤ} {n : ℕ} → x ≡ Ok z → n ≡ of_z w32 z
      → value (encode (opt constant) (constant_of s lib n)) ≡ value (encode (opt constant) (constant_by s lib (told_as number x)))
  constant-by number {x} {z} {n} e f = rw (e, f)

  pub constant-missing : {E : Type 0} (number : E → ℕ) {x : Result ℤ E} {e : E} → x ≡ Err e
      → value (0 ∷ []) ≡ value (encode (opt constant) (constant_by s lib (told_as number x)))
  unfolding opt
  constant-missing number {x} {e} h = rw h

  pub default-set : (flags : ℕ) {x a : Answer ℤ} → x ≡ a → flags / 0x20 % 2 ≡ 1
      → value (le_bytes 4 flags) ▸ value (encode (opt constant) (constant_by s lib x)) ≡ value (le_bytes 4 flags ++ encode (opt constant) (default_of s lib flags a))
  unfolding default_of
  default-set flags {x} {a} e h = rw (e, eq-eqb (flags / 0x20 % 2) 1 h)

  pub default-unset : (flags : ℕ) (a : Answer ℤ) → flags < 2 ^ 32 → (flags / 0x20 % 2 ≡ 1 → ⊥)
      → value (le_bytes 5 flags) ≡ value (le_bytes 4 flags ++ encode (opt constant) (default_of s lib flags a))
  unfolding default_of opt le_bytes
  default-unset flags a k h =
      let e : flags + 256 ^ 4 * 0 ≡ flags = omega arith in
      let q : le_bytes 5 flags ≡ le_bytes 4 flags ++ (0 ∷ []) = rw e at (le_bytes-join 4 1 flags 0 k) in
      rw (ne_eqb (flags / 0x20 % 2) 1 h) (ap value q)

  value-true : (x : ℕ) (b : Bool) → b ≡ true → encode (opt constant) (constant_of s lib x) ≡ value_bytes b (value_with s lib b x)
  unfolding value_bytes
  value-true x true e = refl
  value-true x false e = absurd (let z : ◌≡◌ {A = ℕ} 0 1 = cc in omega arith)

  value-false : (x : ℕ) (b : Bool) → b ≡ false → le_bytes 4 x ≡ value_bytes b (value_with s lib b x)
  unfolding value_bytes
  value-false x true e = absurd (let z : ◌≡◌ {A = ℕ} 0 1 = cc in omega arith)
  value-false x false e = refl

  pub value-constant : (k x : ℕ) → k ≡ 2 → value (encode (opt constant) (constant_of s lib x)) ≡ value (value_bytes (is_constant k) (value_with s lib (is_constant k) x))
  value-constant k x h = ap value (value-true x (is_constant k) (eq-eqb k 2 h))

  pub value-word : (k x : ℕ) → (k ≡ 2 → ⊥) → value (le_bytes 4 x) ≡ value (value_bytes (is_constant k) (value_with s lib (is_constant k) x))
  value-word k x h = ap value (value-false x (is_constant k) (ne_eqb k 2 h))

  -- ---- members

  abbrev bytes_of_tree : Answer Tree → Answer Bytes
  bytes_of_tree = map (encode (tree edition-one (type_count lib)))

  pub parameter-is : (f : FuncRecord) (i : ℕ) (p : Place) {field offset flags : ℕ}
      → field ≡ or_zero (read 4 s (p.at + 0)) → offset ≡ or_zero (read 4 s (p.at + 4)) → flags ≡ or_zero (read 4 s (p.at + 8))
      → bytes_of_tree (tree_of s lib field)
      ▸ (value (encode (opt name) (name_of s lib offset)) ▸ value (le_bytes 4 flags ++ encode (opt constant) (default_of s lib flags (default_value_offset i s f.at f.len))))
      ≡ map (encode (parameter edition-one (type_count lib))) (parameter_of s lib f i p)
  unfolding parameter_of parameter
  parameter-is f i p {field} {offset} {flags} e g h = rw (e, g, h) (by (tree_of s lib (or_zero (read 4 s (p.at + 0)))))
    where
      by : (t : Answer Tree)
          → bytes_of_tree t
          ▸ (value (encode (opt name) (name_of s lib (or_zero (read 4 s (p.at + 4)))))
          ▸ value (le_bytes 4 (or_zero (read 4 s (p.at + 8)))
          ++ encode (opt constant) (default_of s lib (or_zero (read 4 s (p.at + 8))) (default_value_offset i s f.at f.len))))
          ≡ map (encode (parameter edition-one (type_count lib))) (map (parameter_with s lib f i p.at) t)
      by (value t) = refl
      by (refused n) = refl

  pub function-is : (ti : TypeInfoEntry) (i : ℕ) (p : Place) {field : ℕ} (m o : Answer ℤ)
      → found m ≡ found (signed32 (func_memid s ti i)) → found o ≡ found (signed32 (func_name_offset s ti i)) → field ≡ or_zero (read 4 s (p.at + 4))
      → value (encode (opt u32) (memid_by m))
      ▸ (value (encode (opt name) (name_by s lib o))
      ▸ (bytes_of_tree (tree_of s lib field)
      ▸ (value (function_words s p.at)
      ▸ map (encode (list u16 (parameter edition-one (type_count lib)))) (all (parameters_of s lib (record { at = p.at; len = p.len }))))))
      ≡ map (encode (function edition-one (type_count lib))) (function_of s lib ti i p)
  unfolding function_of function function_words
  function-is ti i p {field} m o e g h =
      rw (memid-same m (signed32 (func_memid s ti i)) e, name-same s lib o (signed32 (func_name_offset s ti i)) g, h) (by (tree_of s lib (or_zero (read 4 s (p.at + 4)))) (all (parameters_of s lib (record { at = p.at; len = p.len }))))
    where
      by : (t : Answer Tree) (ps : Answer (List Parameter))
          → value (encode (opt u32) (memid_by (signed32 (func_memid s ti i))))
          ▸ (value (encode (opt name) (name_by s lib (signed32 (func_name_offset s ti i))))
          ▸ (bytes_of_tree t ▸ (value (function_words s p.at) ▸ map (encode (list u16 (parameter edition-one (type_count lib)))) ps)))
          ≡ map (encode (function edition-one (type_count lib))) (bind t (λ datatype. map (function_with s lib ti i p.at datatype) ps))
      by (value t) (value ps) =
          ap (λ l. value (encode (opt u32) (memid_by (signed32 (func_memid s ti i))) ++ (encode (opt name) (name_by s lib (signed32 (func_name_offset s ti i))) ++ (encode (tree edition-one (type_count lib)) t ++ l))))
          (simp append_assoc)
      by (value t) (refused n) = refl
      by (refused n) ps = refl

  pub variable-is : (ti : TypeInfoEntry) (i : ℕ) (p : Place) {field varkind word : ℕ} (m o : Answer ℤ)
      → m ≡ signed32 (var_memid s ti i) → o ≡ signed32 (var_name_offset s ti i) → field ≡ or_zero (read 4 s (p.at + 4))
      → varkind ≡ or_zero (read 2 s (p.at + 12)) → word ≡ or_zero (read 4 s (p.at + 16))
      → value (encode (opt u32) (memid_by m))
      ▸ (value (encode (opt name) (name_by s lib o))
      ▸ (bytes_of_tree (tree_of s lib field)
      ▸ (value (le_bytes 4 (or_zero (read 4 s (p.at + 8))))
      ▸ (value (le_bytes 2 varkind) ▸ value (value_bytes (is_constant varkind) (value_with s lib (is_constant varkind) word))))))
      ≡ map (encode (variable edition-one (type_count lib))) (variable_of s lib ti i p)
  unfolding variable_of variable value_bytes
  variable-is ti i p {field} {varkind} {word} m o e g h k l =
      rw (e, g, h, k, l) (by (tree_of s lib (or_zero (read 4 s (p.at + 4)))))
    where
      by : (t : Answer Tree)
          → value (encode (opt u32) (memid_by (signed32 (var_memid s ti i))))
          ▸ (value (encode (opt name) (name_by s lib (signed32 (var_name_offset s ti i))))
          ▸ (bytes_of_tree t
          ▸ (value (le_bytes 4 (or_zero (read 4 s (p.at + 8))))
          ▸ (value (le_bytes 2 (or_zero (read 2 s (p.at + 12))))
          ▸ value (encode (variable_value (is_constant (or_zero (read 2 s (p.at + 12))))) (value_with s lib (is_constant (or_zero (read 2 s (p.at + 12)))) (or_zero (read 4 s (p.at + 16)))))))))
          ≡ map (encode (variable edition-one (type_count lib))) (map (variable_with s lib ti i p.at) t)
      by (value t) = refl
      by (refused n) = refl

  -- ---- all members of a kind

  module _ (f : FuncRecord) (a : Answer ParamCursor) (e : a ≡ params_of s f) where
    abbrev F : Format Parameter
    F = parameter edition-one (type_count lib)

    pub parameters-some : {c : ParamCursor} {n : ℕ} → a ≡ value c → n ≡ length (yields (param_step s) c.remaining c)
        → value (le_bytes 2 n) ▸ lay_all F (numbered (parameter_of s lib f) 0 (yields (param_step s) c.remaining c))
        ≡ map (encode (list u16 F)) (all (parameters_of s lib f))
    unfolding parameters_of param_records
    parameters-some {c} {n} g h = let q : params_of s f ≡ value c = sym e ∙ g in rw q (members-laid F (parameter_of s lib f) (yields (param_step s) c.remaining c) h)

    pub parameters-none : {n : ℕ} → a ≡ refused n → value (le_bytes 2 0) ≡ map (encode (list u16 F)) (all (parameters_of s lib f))
    unfolding parameters_of param_records
    parameters-none {n} g = let q : params_of s f ≡ refused n = sym e ∙ g in rw q (members-none F (parameter_of s lib f))

  module _ (ti : TypeInfoEntry) (a : Answer FuncCursor) (e : a ≡ funcs_of s ti) where
    abbrev G : Format Function
    G = function edition-one (type_count lib)

    pub functions-some : {c : FuncCursor} {n : ℕ} → a ≡ value c → n ≡ length (yields (func_step s) c.remaining c)
        → value (le_bytes 2 n) ▸ lay_all G (numbered (function_of s lib ti) 0 (yields (func_step s) c.remaining c))
        ≡ map (encode (list u16 G)) (all (functions_of s lib ti))
    unfolding functions_of func_records
    functions-some {c} {n} g h = let q : funcs_of s ti ≡ value c = sym e ∙ g in rw q (members-laid G (function_of s lib ti) (yields (func_step s) c.remaining c) h)

    pub functions-empty : {c : FuncCursor} → a ≡ value c → c.remaining ≡ 0 → value (le_bytes 2 0) ≡ map (encode (list u16 G)) (all (functions_of s lib ti))
    unfolding functions_of func_records yields
    functions-empty {c} g h = let q : funcs_of s ti ≡ value c = sym e ∙ g in rw (q, h) (members-none G (function_of s lib ti))

    pub functions-none : {n : ℕ} → a ≡ refused n → value (le_bytes 2 0) ≡ map (encode (list u16 G)) (all (functions_of s lib ti))
    unfolding functions_of func_records
    functions-none {n} g = let q : funcs_of s ti ≡ refused n = sym e ∙ g in rw q (members-none G (function_of s lib ti))

  module _ (ti : TypeInfoEntry) (a : Answer VarCursor) (e : a ≡ vars_of s ti) where
    abbrev H : Format Variable
    H = variable edition-one (type_count lib)

    pub variables-some : {c : VarCursor} {n : ℕ} → a ≡ value c → n ≡ length (yields (var_step s) c.remaining c)
        → value (le_bytes 2 n) ▸ lay_all H (numbered (variable_of s lib ti) 0 (yields (var_step s) c.remaining c))
        ≡ map (encode (list u16 H)) (all (variables_of s lib ti))
    unfolding variables_of var_records
    variables-some {c} {n} g h = let q : vars_of s ti ≡ value c = sym e ∙ g in rw q (members-laid H (variable_of s lib ti) (yields (var_step s) c.remaining c) h)

    pub variables-none : {n : ℕ} → a ≡ refused n → value (le_bytes 2 0) ≡ map (encode (list u16 H)) (all (variables_of s lib ti))
    unfolding variables_of var_records
    variables-none {n} g = let q : vars_of s ti ≡ refused n = sym e ∙ g in rw q (members-none H (variable_of s lib ti))

-- ---- a loop over a cursor that has yielded none

module _ {C A : Type 0} (step : C → Step Place C) (left count : C → ℕ) (F : Format A) (f : ℕ → Place → Answer A) (c₀ : C) (t₀ : Put) (o₀ : List ℕ) where
  -- it has come to c: what the cursor yielded is emitted and counted
  pub record Come (t : Put) (o : List ℕ) (c : C) : Type 0 where
    pub laid : Left (lay_all F (numbered f 0 (places step left c₀))) t₀ o₀ (lay_all F (numbered f (count c) (places step left c))) t o
    pub sum : count c + left c ≡ left c₀
    pub few : left c₀ < 2 ^ 64
    pub counts : count c + length (places step left c) ≡ length (places step left c₀)

  pub come-first : count c₀ ≡ 0 → left c₀ < 2 ^ 64 → Come t₀ o₀ c₀
  come-first z h = record { laid = rw z left-all; sum = omega (arith, z); few = h; counts = omega (arith, z) }

  module _ {t : Put} {o : List ℕ} {c : C} (h : Come t o c) where
    pub come-next : {d : C} {p : Place} {k : ℕ} {t' : Put} {o' : List ℕ} → Turn left count c d k → yielded p k d ≡ step c
        → Emitted (map (encode F) (f k p)) t o t' o' → Come t' o' d
    come-next u e a =
        record {
          laid = left_less h.laid a (laid-turn step left count u e F f);
          sum = u.sum ∙ h.sum;
          few = h.few;
          counts = counted-turn step left count u e _ h.counts;
        }

    pub come_last : {d : C} {m : ℕ} → ended m d ≡ step c → Emitted (lay_all F (numbered f 0 (places step left c₀))) t₀ o₀ t o
    come_last e = left-none h.laid (laid_none step left F f _ e)

    pub come-count : {d : C} {m : ℕ} → ended m d ≡ step c → count c ≡ length (places step left c₀)
    come-count e = counted_none step left (count c) _ e h.counts
