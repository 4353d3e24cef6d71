-- The numbers of a sheet call's refusal: those of document 01 without 9, "nothing there", for what is not there is a part of the
-- description; and 12, "no space", exactly where there is a description whose sheet has no room. Assumes nothing.
use Rattle.std.proofs.Math.Path.{◌≡◌, refl, ap}
use Rattle.std.proofs.Common.{sym, ◌∙◌, subst, arith, of_z}
use Rattle.std.specs.Prelude.{◌↔◌, Bool, cond, ◌&&◌, List, [], ◌∷◌, T, ltb, eqb}
use Rattle.std.proofs.Math.Bool.{true, false}
use mathlib.Core.List as list
use Prim.Native.Nat.{ℕ, zero, suc, ◌+◌, ◌≤◌, ◌<◌}
use Rattle.std.proofs.Math.Dec.{leb}
use Rattle.std.proofs.Math.ListN.{length}
use borrow.Author.Tests.{le-leb, lt-leb, leb-true, leb-false, ltb-false}
use mir.Syntax.{w32}
use Rattle.util.specs.Read.{cond-elim}
use Rattle.records.specs.declared.answer.Place.{Place}
use Rattle.member_records.specs.declared.func.FuncRecord.{FuncRecord}
use Rattle.records.specs.declared.typeinfo.TypeInfoEntry.{TypeInfoEntry}
use Rattle.records.specs.declared.types.TypeDescription.{TypeDescription}
use Rattle.records.specs.declared.types.TypeDescription.TheVariants as type
use Rattle.records.specs.Answer.{Answer, value, refused, map, bind}
use Rattle.records.specs.Layout.{size_of, type_info_base, array_desc, parameter_info, func_record, var_record}
use Rattle.records.specs.Record.{limit}
use Rattle.records.specs.RecordLaws.{Holds}
use Rattle.typelib.specs.declared.TypeLib.{TypeLib}
use Rattle.impltypes.specs.Chain.{ChainAt, over_impl_types, reference_table, impl_types_of, returns_at, taken, walk_from, place_at, records_from}
use Rattle.constants.specs.Constants.{among}
use Rattle.cursors.specs.Cursors.{funcs_of, vars_of, params_of}
use Rattle.typelib.specs.Descriptors.{type_description}
use Rattle.typelib.specs.Header.{header, word, signature, directory_at, parse_of, type_count}
use Rattle.typelib.specs.Tables.{lent, negative, segment_of, place_in}
use Rattle.typelib.specs.TableLaws.{found_in}
use Rattle.typelib.specs.Tabulate.{tabulate}
use Rattle.typelib.specs.TypeInfos.{refusing, offset_word, typeinfo_in, typeinfo_of}
use Rattle.description.specs.Format.{Each}
use Rattle.description.specs.Description.{Bytes, BaseShape, base_shape_of, Tree, Library}
use Rattle.description.specs.Description.BaseShape.{absent, parent, impl_types, aliased}
use Rattle.description.specs.Description.Tree.{pointer, safe_array, c_array}
use Rattle.description.specs.Sheet.{Edition, sheet_bytes}
use Rattle.describe.specs.Values.{field_of, all}
use Rattle.describe.specs.Trees.{dimensions_of, tree_from, nested_of}
use Rattle.describe.specs.Members.{param_records, parameter_with, parameter_of, parameters_of, func_records, function_with, function_of, functions_of, var_records, variable_with, variable_of, variables_of}
use Rattle.describe.specs.Types.{impl_type_at, impl_types_at, base_of, kind_at, type_with, type_at, type_of, types_from}
use Rattle.describe.specs.Describe.{header_of, describe_as, describe}
use Rattle.describe.specs.Call.{within, sheet_of, Call}
use Rattle.describe.specs.FieldLaws.{field_is}
use Rattle.describe.specs.Answers.{Answers, gives, refuses, answers-refused, answers-bind, answers-map, answers-mono, answers-lent, answers-all, numbered-each}
use Rattle.describe.specs.Demand3.{refusal}

-- over-long, short header, wrong magic, bad count, short directory, no such typeinfo, no typeinfo table, short typeinfo, circle,
-- too deep, too many types
abbrev pub of_description : List ℕ
of_description = 1 ∷ 2 ∷ 3 ∷ 4 ∷ 5 ∷ 6 ∷ 7 ∷ 8 ∷ 10 ∷ 11 ∷ 13 ∷ []

-- and no space
abbrev pub of_call : List ℕ
of_call = 12 ∷ of_description

abbrev pub Listed : ℕ → Type 0
Listed n = T (among n of_description)

-- a value, or a refusal with one of those numbers
abbrev pub Sound : {A : Type 0} → Answer A → Type 0
Sound = Answers Listed (λ _. Unit {0})

-- or with 12
abbrev AlsoSound : {A : Type 0} → Answer A → Type 0
AlsoSound = Answers (λ n. T (among n of_call)) (λ _. Unit {0})

also-sound : {A : Type 0} {x : Answer A} → Sound x → AlsoSound x
also-sound (gives h) = gives h
also-sound (refuses {n = n} h) = refuses (cond-elim T (eqb n 12) true (among n of_description) (λ _. tt) (λ _. h))

sound-all : {A : Type 0} (xs : List (Answer A)) → Each Sound xs → Sound (all xs)
sound-all xs h = answers-mono (answers-all xs h) (λ n k. k) (λ ys _. tt)

-- ---- trees refuse with 11

module _ (s : List ℕ) (lib : TypeLib) where
  from-sound : (below : ℕ → Answer Tree) → ((x : ℕ) → Sound (below x)) → (a : Answer TypeDescription) → Sound (tree_from s lib below a)
  unfolding tree_from
  from-sound below h (value (type.Base vt)) = gives tt
  from-sound below h (value (type.Pointer x)) = answers-map pointer (h (of_z w32 x)) (λ _ _. tt)
  from-sound below h (value (type.SafeArray x)) = answers-map safe_array (h (of_z w32 x)) (λ _ _. tt)
  from-sound below h (value (type.CArray d)) =
      answers-map (c_array (dimensions_of s d.at)) (h (field_of array_desc "element type" s d.at)) (λ _ _. tt)
  from-sound below h (value (type.UserDefined x)) = gives tt
  from-sound below h (refused n) = gives tt

  nested-sound : (k x : ℕ) → Sound (nested_of s lib k x)
  unfolding nested_of
  nested-sound zero x = refuses tt
  nested-sound (suc k) x = from-sound (nested_of s lib k) (nested-sound k) (lent s (type_description s lib x))

  -- ---- members by their trees

  parameters-sound : (f : FuncRecord) → Sound (all (parameters_of s lib f))
  unfolding parameters_of parameter_of
  parameters-sound f =
      sound-all _ (numbered-each (parameter_of s lib f) Sound (λ i p.
      answers-map (parameter_with s lib f i p.at) (nested-sound 32 (field_of parameter_info "DataType" s p.at)) (λ _ _. tt))
      0 (param_records s (params_of s f)))

  functions-sound : (ti : TypeInfoEntry) → Sound (all (functions_of s lib ti))
  unfolding functions_of function_of
  functions-sound ti =
      sound-all _ (numbered-each (function_of s lib ti) Sound (λ i p.
      answers-bind (nested-sound 32 (field_of func_record "DataType" s p.at)) (λ t _.
      answers-map (function_with s lib ti i p.at t) (parameters-sound (record { at = p.at; len = p.len })) (λ _ _. tt)))
      0 (func_records s (funcs_of s ti)))

  variables-sound : (ti : TypeInfoEntry) → Sound (all (variables_of s lib ti))
  unfolding variables_of variable_of
  variables-sound ti =
      sound-all _ (numbered-each (variable_of s lib ti) Sound (λ i p.
      answers-map (variable_with s lib ti i p.at) (nested-sound 32 (field_of var_record "DataType" s p.at)) (λ _ _. tt))
      0 (var_records s (vars_of s ti)))

  -- ---- the walk refuses with 10

  walk-sound : (c : ChainAt) → Sound (records_from s c)
  unfolding records_from walk_from
  walk-sound c =
      answers-map (tabulate (place_at s c))
      (answers-lent s _ tt (λ _. cond-elim Sound (returns_at s c (taken s c)) _ _ (λ _. refuses tt) (λ _. gives tt)))
      (λ _ _. tt)

  -- a typeinfo that is held has its `datatype1`
  abbrev Held : TypeInfoEntry → Type 0
  Held ti = Holds s ti.at ti.len (size_of type_info_base)

  start-sound : (ti : TypeInfoEntry) → Held ti → Sound (impl_types_of s lib ti)
  start-sound ti h =
      answers-map (λ offset. record { table = reference_table lib; next = offset; yielded = 0 })
      (subst Sound (sym (field_is type_info_base "datatype1" s ti.at ti.len h)) (gives tt)) (λ _ _. tt)

  base-sound : (ti : TypeInfoEntry) → Held ti → (h : BaseShape) → Sound (base_of s lib ti h)
  unfolding impl_types_at
  base-sound ti k absent = gives tt
  base-sound ti k parent = gives tt
  base-sound ti k impl_types =
      answers-bind (start-sound ti k) (λ c _. answers-map (list.map (impl_type_at s lib)) (walk-sound (over_impl_types.stands c)) (λ _ _. tt))
  base-sound ti k aliased = nested-sound 32 (field_of type_info_base "datatype1" s ti.at)

  -- ---- a typeinfo is held, or refused with 6, 7 or 8

  refusing-sound : {A : Type 0} {P : A → Type 0} (n : ℕ) (a : Answer A) → Listed n → ((x : A) → value x ≡ a → P x) → Answers Listed P (refusing n a)
  refusing-sound n (value x) l h = gives (h x refl)
  refusing-sound n (refused m) l h = refuses l

  pub typeinfo-sound : (i : ℕ) → Answers Listed (λ p. Holds s p.at p.len (size_of type_info_base)) (typeinfo_of s lib i)
  unfolding typeinfo_in
  typeinfo-sound i =
      let P : Place → Type 0 = λ p. Holds s p.at p.len (size_of type_info_base) in
      answers-lent s _ tt (λ few.
      answers-bind (refusing-sound {P = λ _. Unit {0}} 6 (offset_word s lib i) tt (λ _ _. tt)) (λ offset _.
      cond-elim (Answers Listed P) (negative offset) _ _ (λ _. refuses tt) (λ _.
      answers-bind (refusing-sound {P = λ _. Unit {0}} 7 (segment_of lib 0) tt (λ _ _. tt)) (λ table _.
      refusing-sound 8 (place_in s table offset 100) tt (λ p e.
      let f = found_in s table offset 100 p e in
      record { few = few; whole = omega (arith, f.whole); inside = omega (arith, f.whole, f.inside) })))))

  type-sound : (i : ℕ) → Sound (type_of s lib i)
  unfolding type_of type_at
  type-sound i =
      answers-bind (typeinfo-sound i) (λ p h.
      let ti : TypeInfoEntry = record { at = p.at; len = p.len } in
      answers-bind (base-sound ti h (base_shape_of (kind_at s ti.at))) (λ under _.
      answers-bind (functions-sound ti) (λ functions _.
      answers-map (type_with s lib ti.at under functions) (variables-sound ti) (λ _ _. tt))))

  pub types-sound : (k i : ℕ) → Each Sound (types_from s lib k i)
  unfolding types_from
  types-sound zero i = tt
  types-sound (suc k) i = (type-sound i, types-sound k (i + 1))

-- ---- the library and the call

-- a library is refused with 1 to 5, or its header is held
pub parse-sound : (s : List ℕ) → Answers Listed (λ _. Holds s 0 (size_of header) (size_of header)) (parse_of s)
unfolding parse_of
parse-sound s =
    let P : Answer TypeLib → Type 0 = Answers Listed (λ _. Holds s 0 84 84) in
    cond-elim P (ltb limit (length s)) _ _ (λ _. refuses tt) (λ few.
    cond-elim P (ltb (length s) 84) _ _ (λ _. refuses tt) (λ whole.
    cond-elim P (eqb (word "magic1" s) signature) _ _
    (λ _.
    cond-elim P (leb 0x80000000 (word "nrtypeinfos" s)) _ _ (λ _. refuses tt) (λ _.
    cond-elim P (ltb (length s) (directory_at s + 240)) _ _ (λ _. refuses tt) (λ _.
    gives (record { few = ltb-false limit (length s) few; whole = omega arith; inside = omega (arith, ltb-false (length s) 84 whole) }))))
    (λ _. refuses tt)))

module _ (e : Edition) (s : List ℕ) where
  as-sound : (lib : TypeLib) → Sound (describe_as e s lib)
  unfolding describe_as
  as-sound lib =
      cond-elim Sound (ltb e.most_types (type_count lib)) _ _ (λ _. refuses tt) (λ _.
      answers-map (λ types. record { header = header_of s lib; types = types })
      (sound-all (types_from s lib (type_count lib) 0) (types-sound s lib (type_count lib) 0)) (λ _ _. tt))

  pub describe-sound : Sound (describe e s)
  unfolding describe
  describe-sound = answers-bind (parse-sound s) (λ lib _. as-sound lib)

  sheet-sound : (room : ℕ) → AlsoSound (sheet_of e s room)
  unfolding sheet_of within
  sheet-sound room =
      answers-bind (also-sound describe-sound) (λ d _.
      cond-elim AlsoSound (leb (length (sheet_bytes e d)) limit && leb (length (sheet_bytes e d)) room) _ _ (λ _. gives tt) (λ _. refuses tt))

  module _ {o o' : List ℕ} {n : ℕ} (c : Call e s o (refused n) o') where
    pub refusal-listed : T (among n of_call)
    refusal-listed = answers-refused (sheet-sound (length o)) (refusal c refl).1

    pub never-nine : n ≡ 9 → ⊥
    never-nine q = rw q at refusal-listed

-- ---- 12 comes last

-- the library has a description, and its sheet is longer than the limit or than the room
pub record NoSpace (e : Edition) (s : List ℕ) (room : ℕ) : Type 0 where
  pub description : Library
  pub is : describe e s ≡ value description
  pub long : length (sheet_bytes e description) ≤ limit → room < length (sheet_bytes e description)

module _ (e : Edition) (s : List ℕ) {o o' : List ℕ} {r : Answer ℕ} (c : Call e s o r o') where
  out-of-space : r ≡ refused 12 → NoSpace e s (length o)
  unfolding sheet_of within
  out-of-space h = by (describe e s) refl (refusal c h).1
    where
      by : (a : Answer Library) → describe e s ≡ a → bind a (λ d. within (length o) (sheet_bytes e d)) ≡ refused 12 → NoSpace e s (length o)
      by (value d) k =
          let n : ℕ = length (sheet_bytes e d) in
          cond-elim (λ (x : Answer Bytes). x ≡ refused 12 → NoSpace e s (length o)) (leb n limit && leb n (length o)) _ _
          (λ _ q. absurd (let z : ◌≡◌ {A = ℕ} 0 1 = cc in omega arith))
          (λ f _. record {
            description = d;
            is = k;
            long = λ l. leb-false n (length o) (rw (le-leb n limit l) at f);
          })
      by (refused m) k = λ q.
          let z : m ≡ 12 = cc in
          absurd (rw z at (answers-refused (describe-sound e s) k))

  no_room : NoSpace e s (length o) → r ≡ refused 12
  unfolding sheet_of within
  no_room h =
      let bs : Bytes = sheet_bytes e h.description in
      c.replies
      ∙ ap (λ (a : Answer Library). map length (bind a (λ d. within (length o) (sheet_bytes e d)))) h.is
      ∙ by bs (leb (length bs) limit) refl h.long
    where
      by : (bs : Bytes) (b : Bool) → leb (length bs) limit ≡ b → (length bs ≤ limit → length o < length bs)
          → map length (cond (b && leb (length bs) (length o)) (value bs) (refused 12)) ≡ refused 12
      by bs true q l = rw (lt-leb (length bs) (length o) (l (leb-true (length bs) limit q)))
      by bs false q l = refl

  -- THE CALL REPLIES 12 exactly if that is so
  pub no-space : (r ≡ refused 12) ↔ NoSpace e s (length o)
  no-space = (out-of-space, no_room)
