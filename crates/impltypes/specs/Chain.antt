-- Implemented types: the chain of reference records from a cursor on, and the full walk along it (document 01, `impl_types`).
-- A record is MSFT_RefRecord of Wine's typelib.h: sixteen bytes of segment 3, of which the last four, `onext`, are the "next
-- offset, -1 if last". Offsets are 32-bit patterns and count from the table's start. Assumes nothing.
use Rattle.std.specs.Prelude.{◌≡◌, refl, Bool, true, false, cond, ◌||◌, List, ℕ, zero, suc, ◌+◌, ◌<◌, eqb, length}
use Rattle.records.specs.Told.{refusal_number}
use Rattle.records.specs.declared.answer.Refusal.{Refusal}
use Rattle.cursors.specs.Told.{told_step_as}
use Rattle.cursors.specs.declared.iterators.Step.{Step as StepOf}
use Rattle.records.specs.declared.refrecord.RefRecord.{RefRecord}
use Rattle.util.specs.Read.{le}
use Rattle.records.specs.declared.answer.Place.{Place}
use Rattle.records.specs.declared.typeinfo.TypeInfoEntry.{TypeInfoEntry}
use Rattle.records.specs.Answer.{Answer, value, refused, map}
use Rattle.records.specs.Layout.{size_of, offset_of, width_of, ref_record, type_info_base}
use Rattle.records.specs.Record.{field}
use Rattle.typelib.specs.declared.TypeLib.{TypeLib}
use Rattle.impltypes.specs.declared.ImplTypeCursor.{ImplTypeCursor}
use Rattle.cursors.specs.Numbers.{number_of, Next, next_by, Step, yielded, ended, Counting, with_number}
use Rattle.impltypes.specs.Search.{some_below, first_below}
use Rattle.typelib.specs.Tables.{lent, segment_of, place_in, table_of}
use Rattle.typelib.specs.Tabulate.{tabulate}

-- ---- where a cursor stands

-- before the record at an offset of the reference table
pub record ChainAt : Type 0 where
  pub table : Place
  pub next : ℕ

-- the cursor is that, and how many records it has yielded
abbrev pub over_impl_types : Counting ImplTypeCursor ChainAt
over_impl_types =
    record {
      stands = λ c. record { table = c.table; next = c.next };
      count = λ c. c.yielded;
      cursor = λ d n. record { table = d.table; next = d.next; yielded = n };
      whole = λ c. refl;
      stood = λ d n. refl;
      counted = λ d n. refl;
    }

-- ---- where a chain starts

-- segment 3; a missing one has no bytes, so that no record lies in it (document 02, §2)
abbrev pub reference_table : TypeLib → Place
reference_table lib = table_of (segment_of lib 3)

-- a typeinfo's chain starts at `datatype1`
abbrev pub impl_types_of : List ℕ → TypeLib → TypeInfoEntry → Answer ImplTypeCursor
impl_types_of s lib ti =
    map (λ offset. record { table = reference_table lib; next = offset; yielded = 0 }) (field type_info_base "datatype1" s ti.at ti.len)

-- ---- one record

-- where the record at an offset lies: 9 where the offset is negative or the record leaves the table or the file
abbrev pub reference_at : List ℕ → Place → ℕ → Answer Place
reference_at s table offset = place_in s table offset (size_of ref_record)

-- the offset that the record at `at` names
abbrev pub onext : List ℕ → ℕ → ℕ
onext s at = le (width_of ref_record "onext") s (at + offset_of ref_record "onext")

-- a record brings the cursor to the offset that it names
abbrev pub impl_type_next_from : List ℕ → ChainAt → Answer Place → Next Place ChainAt
impl_type_next_from s d = next_by d (λ p. p) (λ p. record { table = d.table; next = onext s p.at })

unfoldable pub impl_type_next : List ℕ → ChainAt → Next Place ChainAt
impl_type_next s d = impl_type_next_from s d (lent s (reference_at s d.table d.next))

abbrev pub impl_type_step : List ℕ → ImplTypeCursor → Step Place ImplTypeCursor
impl_type_step s = with_number over_impl_types (impl_type_next s)

-- ---- the chain

abbrev pub is_refused : {A : Type 0} → Answer A → Bool
is_refused (value a) = false
is_refused (refused n) = true

module _ (s : List ℕ) (c : ChainAt) where
  -- the k-th offset, k from 0
  unfoldable pub offset_at : ℕ → ℕ
  offset_at zero = c.next
  offset_at (suc k) = onext s (c.table.at + offset_at k)

  -- the chain ends at its k-th offset: no record lies there
  unfoldable pub ends_at : ℕ → Bool
  ends_at k = is_refused (reference_at s c.table (offset_at k))

  -- the k-th offset is one already passed
  unfoldable pub returns_at : ℕ → Bool
  returns_at k = some_below (λ i. eqb (offset_at i) (offset_at k)) k

  -- How many records come before the chain ends or returns. The search needs no more offsets than the file has bytes: the
  -- chain has ended or returned by then (`ends-taken` of `ChainLaws`).
  unfoldable pub taken : ℕ
  taken = first_below (λ k. ends_at k || returns_at k) (length s)

  -- THE FULL WALK says how many records it took, and refuses with 10 where the chain returns to an offset already passed
  unfoldable pub walk_from : Answer ℕ
  walk_from = lent s (cond (returns_at taken) (refused 10) (value taken))

  -- the place of the k-th record, and the places of all of them in order
  abbrev pub place_at : ℕ → Place
  place_at k = record { at = c.table.at + offset_at k; len = size_of ref_record }

  unfoldable pub records_from : Answer (List Place)
  records_from = map (tabulate place_at) walk_from

  -- where a cursor stands at the k-th offset
  abbrev pub stands_at : ℕ → ChainAt
  stands_at k = record { table = c.table; next = offset_at k }

  -- ---- what the laws say of a chain

  -- the first n records are there
  abbrev pub Passes : ℕ → Type 0
  Passes n = (k : ℕ) → k < n → ends_at k ≡ false

  -- the chain ends after n records
  pub record Length (n : ℕ) : Type 0 where
    pub passes : Passes n
    pub ends : ends_at n ≡ true

  -- the chain returns to an offset already passed: after j records, to the i-th
  pub record Circle : Type 0 where
    pub i : ℕ
    pub j : ℕ
    pub before : i < j
    pub passes : Passes j
    pub same : offset_at j ≡ offset_at i

-- ---- a cursor's walk and records: they are where it stands, and not how many it has yielded

abbrev pub walk_of : List ℕ → ImplTypeCursor → Answer ℕ
walk_of s c = walk_from s (over_impl_types.stands c)

abbrev pub records_of : List ℕ → ImplTypeCursor → Answer (List Place)
records_of s c = records_from s (over_impl_types.stands c)

-- the cursor after k records
abbrev pub cursor_at : List ℕ → ImplTypeCursor → ℕ → ImplTypeCursor
cursor_at s c k = over_impl_types.cursor (stands_at s (over_impl_types.stands c) k) (number_of (c.yielded + k))

-- ---- what each answer tells

-- by the number of what refuses
abbrev pub told_impl_type_step_as : {E : Type 0} → (E → ℕ) → StepOf RefRecord ImplTypeCursor E → Step Place ImplTypeCursor
told_impl_type_step_as number = told_step_as number (λ r. record { at = r.at; len = r.len })

abbrev pub told_impl_type_step : StepOf RefRecord ImplTypeCursor Refusal → Step Place ImplTypeCursor
told_impl_type_step = told_impl_type_step_as refusal_number
