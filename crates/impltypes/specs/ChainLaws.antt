-- Laws of `Chain`. A chain ends or returns to an offset already passed, never both, and the walk says which. Assumes nothing.
use Rattle.std.proofs.Math.Path.{◌≡◌, refl, sym, ap}
use Rattle.std.proofs.Common.{◌∙◌, arith, ltb-true, ltb-false, leb-true, leb-false, eqb-true, eq-eqb}
use Rattle.std.specs.Prelude.{Bool, ◌||◌, List, ◌↔◌, leb, length, get_or}
use Rattle.std.proofs.Math.Bool.{true, false}
use Prim.Native.Nat.{ℕ, zero, suc, ◌+◌, ◌-◌, ◌≤◌, ◌<◌}
use Rattle.std.proofs.Math.Nat.{add-zero, add-suc}
use Rattle.std.proofs.Math.Numerals.{add-one}
use Rattle.std.proofs.Math.Dec.{ltb, eqb}
use Rattle.util.specs.Read.{cond-elim}
use Rattle.records.specs.declared.answer.Place.{Place}
use Rattle.records.specs.declared.typeinfo.TypeInfoEntry.{TypeInfoEntry}
use Rattle.records.specs.Answer.{Answer, value, refused, map}
use Rattle.records.specs.Layout.{size_of, ref_record, type_info_base}
use Rattle.records.specs.Record.{limit, field}
use Rattle.typelib.specs.declared.TypeLib.{TypeLib}
use Rattle.impltypes.specs.declared.ImplTypeCursor.{ImplTypeCursor}
use Rattle.impltypes.specs.Search.{apart, Some, some-below, none_below, before-first, at_first, Twice, twice}
use Rattle.typelib.specs.Tables.{lent, negative, segment_of, in_table, place_in, table_of}
use Rattle.typelib.specs.TableLaws.{lent_fits, in-table, found_in}
use Rattle.typelib.specs.Tabulate.{tabulate, length-tabulate, get_d_tabulate}
use Rattle.cursors.specs.Numbers.{largest, number_of, item, stop, yielded, ended}
use Rattle.cursors.specs.NumberLaws.{number-most, number-next, without, as_before, by-stops, step-found, After, counts, Numbered, number-after, again as ends-again, step-none}
use Rattle.impltypes.specs.Chain.{ChainAt, over_impl_types, reference_table, impl_types_of, reference_at, onext, impl_type_next_from, impl_type_next, impl_type_step, is_refused, offset_at, ends_at, returns_at, taken, walk_from, place_at, records_from, stands_at, Passes, Length, Circle, walk_of, cursor_at}

-- ---- places in a table

-- a place that was found is at the table's start and the offset
pub place_is : (s : List ℕ) (table : Place) (offset size : ℕ) (p : Place) → value p ≡ place_in s table offset size → p ≡ record { at = table.at + offset; len = size }
unfolding place_in
place_is s table offset size p =
    let P : Answer Place → Type 0 = λ a. value p ≡ a → p ≡ record { at = table.at + offset; len = size } in
    let no : P (refused 9) = λ e. let z : ◌≡◌ {A = ℕ} 0 1 = cc in absurd (omega arith) in
    cond-elim P (negative offset) _ _ (λ _. no) (λ _.
    cond-elim P (in_table s table (offset + size)) _ _ (λ _ e. cc) (λ _. no))

-- a place that was not found is 9
pub place-nine : (s : List ℕ) (table : Place) (offset size : ℕ) → is_refused (place_in s table offset size) ≡ true → refused 9 ≡ place_in s table offset size
unfolding place_in
place-nine s table offset size =
    let P : Answer Place → Type 0 = λ a. is_refused a ≡ true → refused 9 ≡ a in
    cond-elim P (negative offset) _ _ (λ _ _. refl) (λ _.
    cond-elim P (in_table s table (offset + size)) _ _ (λ _ e. apart e refl) (λ _ _. refl))

-- nothing lies in a table with no bytes
place-empty : (s : List ℕ) (table : Place) (offset : ℕ) → table.len ≡ 0 → is_refused (reference_at s table offset) ≡ true
unfolding place_in
place-empty s table offset z =
    let P : Answer Place → Type 0 = λ a. is_refused a ≡ true in
    cond-elim P (negative offset) _ _ (λ _. refl) (λ _.
    cond-elim P (in_table s table (offset + 16)) _ _ (λ h. absurd (omega (arith, z, (in-table s table (offset + 16) h).segment))) (λ _. refl))

ends-empty : (s : List ℕ) (c : ChainAt) → c.table.len ≡ 0 → (k : ℕ) → ends_at s c k ≡ true
unfolding ends_at
ends-empty s c z k = place-empty s c.table (offset_at s c k) z

-- ---- one step

module _ (s : List ℕ) where
  pub next-is : (d : ChainAt) (a : Answer Place) → a ≡ lent s (reference_at s d.table d.next) → impl_type_next_from s d a ≡ impl_type_next s d
  unfolding impl_type_next
  next-is d a e = ap (impl_type_next_from s d) e

  next-stays : (d : ChainAt) (n : ℕ) (e : ChainAt) → stop n e ≡ impl_type_next s d → e ≡ d
  unfolding impl_type_next
  next-stays d = by-stops d _ _ (lent s (reference_at s d.table d.next))

  module _ (c : ImplTypeCursor) where
    -- A CURSOR THAT HAS YIELDED NOTHING came back unchanged, its count too, so it yields nothing again over the same bytes
    pub impl_type-again : (d : ImplTypeCursor) (m : ℕ) → ended m d ≡ impl_type_step s c → (d ≡ c) × (ended m d ≡ impl_type_step s d)
    impl_type-again d m = ends-again over_impl_types (impl_type_next s) c d m (next-stays (over_impl_types.stands c))

    -- RECORDS AND THEIR ORDER are those of before: the step without its number
    pub impl_type-as-before : without over_impl_types.stands (impl_type_step s c) ≡ impl_type_next s (over_impl_types.stands c)
    impl_type-as-before = as_before over_impl_types (impl_type_next s) c

module _ (s : List ℕ) (c : ChainAt) where
  -- ---- the chain

  pub passes_none : Passes s c 0
  passes_none k h = absurd (omega arith)

  pub passes-more : (n : ℕ) → Passes s c n → ends_at s c n ≡ false → Passes s c (suc n)
  passes-more n p e k h = by (ltb k n) refl
    where
      by : (b : Bool) → ltb k n ≡ b → ends_at s c k ≡ false
      by true f = p k (ltb-true k n f)
      by false f = let q : k ≡ n = omega (arith, ltb-false k n f) in rw q e

  -- a record lies where the chain does not end
  pub there : (k : ℕ) → ends_at s c k ≡ false → value (place_at s c k) ≡ reference_at s c.table (offset_at s c k)
  unfolding ends_at
  there k = by (reference_at s c.table (offset_at s c k)) refl
    where
      by : (a : Answer Place) → reference_at s c.table (offset_at s c k) ≡ a → is_refused a ≡ false → value (place_at s c k) ≡ a
      by (value p) e h = ap value (sym (place_is s c.table (offset_at s c k) (size_of ref_record) p (sym e)))
      by (refused n) e h = apart refl h

  pub inside : (k : ℕ) → ends_at s c k ≡ false → c.table.at + offset_at s c k + size_of ref_record ≤ length s
  inside k e = (found_in s c.table (offset_at s c k) (size_of ref_record) (place_at s c k) (there k e)).inside

  -- more records than have room at different offsets: an offset comes twice, so the chain returns
  comes-twice : (n : ℕ) → length s - 15 < n → Passes s c n → Twice (offset_at s c) n
  comes-twice n h p = twice (length s - 15) n (offset_at s c) h (λ k l. omega (arith, inside k (p k l)))

  crowded : (n : ℕ) → length s - 15 < n → Passes s c n → Circle s c
  crowded n h p =
      let t : Twice (offset_at s c) n = comes-twice n h p in
      record { i = t.i; j = t.j; before = t.before; passes = λ k l. p k (omega (arith, t.within)); same = t.same }

  -- ---- a chain that returns never ends

  again : (a b d : ℕ) → offset_at s c a ≡ offset_at s c b → offset_at s c (a + d) ≡ offset_at s c (b + d)
  unfolding offset_at
  again a b zero e = simp add-zero e
  again a b (suc d) e = simp add-suc (ap (λ (x : ℕ). onext s (c.table.at + x)) (again a b d e))

  ends_same : (a b : ℕ) → offset_at s c a ≡ offset_at s c b → ends_at s c a ≡ ends_at s c b
  unfolding ends_at
  ends_same a b e = ap (λ (x : ℕ). is_refused (reference_at s c.table x)) e

  always : Circle s c → (n : ℕ) → Passes s c n
  always r zero = passes_none
  always r (suc n) = passes-more n (always r n) (by (ltb n r.j) refl (always r n))
    where
      by : (b : Bool) → ltb n r.j ≡ b → Passes s c n → ends_at s c n ≡ false
      by true f p = r.passes n (ltb-true n r.j f)
      by false f p =
          let h : r.j ≤ n = ltb-false n r.j f in
          let d : n ≡ r.j + (n - r.j) = omega arith in
          ap (ends_at s c) d
          ∙ ends_same (r.j + (n - r.j)) (r.i + (n - r.j)) (again r.j r.i (n - r.j) r.same)
          ∙ p (r.i + (n - r.j)) (omega (arith, r.before))

  pub not-both : (n : ℕ) → Length s c n → Circle s c → ⊥
  not-both n l r = apart l.ends (always r (suc n) n (omega arith))

  -- a chain that ends has one length
  pub unique : (m n : ℕ) → Length s c m → Length s c n → m ≡ n
  unique m n l k = by (ltb m n) (ltb n m) refl refl
    where
      by : (a b : Bool) → ltb m n ≡ a → ltb n m ≡ b → m ≡ n
      by true b f g = apart l.ends (k.passes m (ltb-true m n f))
      by false true f g = apart k.ends (l.passes n (ltb-true n m g))
      by false false f g = omega (arith, ltb-false m n f, ltb-false n m g)

  -- at most length - 15, and 0 under 16 bytes
  pub most : (n : ℕ) → Length s c n → n ≤ length s - 15
  most n l = by (leb n (length s - 15)) refl
    where
      by : (b : Bool) → leb n (length s - 15) ≡ b → n ≤ length s - 15
      by true e = leb-true n (length s - 15) e
      by false e = absurd (not-both n l (crowded n (leb-false n (length s - 15) e) l.passes))

  -- ---- where the walk stops

  abbrev stops : ℕ → Bool
  stops k = ends_at s c k || returns_at s c k

  neither : (a b : Bool) → a || b ≡ false → (a ≡ false) × (b ≡ false)
  neither true b e = apart refl e
  neither false true e = apart refl e
  neither false false e = (refl, refl)

  -- the records before that are there, at different offsets
  before-stop : (k : ℕ) → k < taken s c → (ends_at s c k ≡ false) × (returns_at s c k ≡ false)
  unfolding taken
  before-stop k h = neither (ends_at s c k) (returns_at s c k) (before-first stops (length s) k h)

  passes-taken : Passes s c (taken s c)
  passes-taken k h = (before-stop k h).0

  returns-circle : (k : ℕ) → Passes s c k → returns_at s c k ≡ true → Circle s c
  unfolding returns_at
  returns-circle k p e =
      let t : Some (λ i. eqb (offset_at s c i) (offset_at s c k)) k = some-below (λ i. eqb (offset_at s c i) (offset_at s c k)) k e in
      record { i = t.i; j = k; before = t.below; passes = p; same = sym (eqb-true (offset_at s c t.i) (offset_at s c k) t.holds) }

  different : (i k : ℕ) → returns_at s c k ≡ false → i < k → offset_at s c k ≡ offset_at s c i → ⊥
  unfolding returns_at
  different i k e h q =
      apart (eq-eqb (offset_at s c i) (offset_at s c k) (sym q)) (none_below (λ i. eqb (offset_at s c i) (offset_at s c k)) k i e h)

  -- as many records as the file has bytes, and one more, have no room at different offsets
  stops-soon : ends_at s c (taken s c) ≡ false → returns_at s c (taken s c) ≡ false → length s ≤ taken s c → ⊥
  stops-soon f e h =
      let t : Twice (offset_at s c) (suc (taken s c)) = comes-twice (suc (taken s c)) (omega arith) (passes-more (taken s c) passes-taken f) in
      different t.i t.j (by (ltb t.j (taken s c)) refl t.within) t.before t.same
    where
      by : (b : Bool) {j : ℕ} → ltb j (taken s c) ≡ b → j < suc (taken s c) → returns_at s c j ≡ false
      by true {j} d w = (before-stop j (ltb-true j (taken s c) d)).1
      by false {j} d w = let q : j ≡ taken s c = omega (arith, ltb-false j (taken s c) d) in rw q e

  -- so where the chain stops and does not return, it ends
  pub ends-taken : returns_at s c (taken s c) ≡ false → ends_at s c (taken s c) ≡ true
  unfolding taken
  ends-taken e = by (ends_at s c (taken s c)) refl
    where
      by : (b : Bool) → ends_at s c (taken s c) ≡ b → b ≡ true
      by true f = refl
      by false f = at (ltb (taken s c) (length s)) refl
        where
          at : (b : Bool) → ltb (taken s c) (length s) ≡ b → false ≡ true
          at true d = rw (f, e) at (at_first stops (length s) (ltb-true (taken s c) (length s) d))
          at false d = absurd (stops-soon f e (ltb-false (taken s c) (length s) d))

  -- ---- what the walk says

  walk-elim : (P : Answer ℕ → Type 0) → (limit < length s → P (refused 1)) → (length s ≤ limit → (n : ℕ) → Length s c n → P (value n)) → (length s ≤ limit → Circle s c → P (refused 10)) → P (walk_from s c)
  unfolding walk_from lent
  walk-elim P long f g =
      cond-elim P (ltb limit (length s)) _ _ (λ h. long (ltb-true limit (length s) h)) (λ h.
      cond-elim P (returns_at s c (taken s c)) _ _
      (λ e. g (ltb-false limit (length s) h) (returns-circle (taken s c) passes-taken e))
      (λ e. f (ltb-false limit (length s) h) (taken s c) (record { passes = passes-taken; ends = ends-taken e })))

  never : {X : Type 0} {a b : Answer ℕ} → is_refused a ≡ false → is_refused b ≡ true → a ≡ b → X
  never p q e = apart (ap is_refused e ∙ q) p

  -- IT SAYS n exactly if the chain has n records
  pub walk-took : (n : ℕ) → (value n ≡ walk_from s c) ↔ ((length s ≤ limit) × Length s c n)
  walk-took n = (
    walk-elim (λ a. value n ≡ a → (length s ≤ limit) × Length s c n)
        (λ _. never refl refl)
        (λ h m l e. let q : n ≡ m = cc in (h, rw q l))
        (λ _ _. never refl refl),
    λ t. walk-elim (λ a. value n ≡ a)
        (λ h. absurd (omega (arith, t.0)))
        (λ _ m l. ap value (unique n m t.1 l))
        (λ _ r. absurd (not-both n t.1 r)),
  )

  -- a table with no bytes has no record
  pub walk-empty : length s ≤ limit → c.table.len ≡ 0 → value 0 ≡ walk_from s c
  walk-empty h e = (walk-took 0).1 (h, record { passes = passes_none; ends = ends-empty s c e 0 })

  -- and then n is at most length - 15, and 0 under 16 bytes
  pub walk-most : (n : ℕ) → value n ≡ walk_from s c → n ≤ length s - 15
  walk-most n e = most n ((walk-took n).0 e).1

  -- IT REFUSES with 10 exactly if the chain returns to an offset already passed
  pub walk-circle : (refused 10 ≡ walk_from s c) ↔ ((length s ≤ limit) × Circle s c)
  walk-circle = (
    walk-elim (λ a. refused 10 ≡ a → (length s ≤ limit) × Circle s c)
        (λ _ e. let z : ◌≡◌ {A = ℕ} 10 1 = cc in absurd (omega arith))
        (λ _ m l e. never refl refl (sym e))
        (λ h r e. (h, r)),
    λ t. walk-elim (λ a. refused 10 ≡ a)
        (λ h. absurd (omega (arith, t.0)))
        (λ _ m l. absurd (not-both m l t.1))
        (λ _ _. refl),
  )

  -- and with 1 exactly if the bytes are over-long
  pub walk-long : (refused 1 ≡ walk_from s c) ↔ (limit < length s)
  walk-long = (
    walk-elim (λ a. refused 1 ≡ a → limit < length s)
        (λ h e. h)
        (λ _ m l e. never refl refl (sym e))
        (λ _ _ e. let z : ◌≡◌ {A = ℕ} 1 10 = cc in absurd (omega arith)),
    λ h. walk-elim (λ a. refused 1 ≡ a)
        (λ _. refl)
        (λ k. absurd (omega arith))
        (λ k. absurd (omega arith)),
  )

  -- ---- the records' places

  pub record Records (l : List Place) : Type 0 where
    pub n : ℕ
    pub walked : value n ≡ walk_from s c
    pub are : l ≡ tabulate (place_at s c) n

  pub records : (l : List Place) → value l ≡ records_from s c → Records l
  unfolding records_from
  records l = by (walk_from s c) refl
    where
      by : (a : Answer ℕ) → walk_from s c ≡ a → value l ≡ map (tabulate (place_at s c)) a → Records l
      by (value n) h e = record { n = n; walked = sym h; are = cc }
      by (refused n) h e = let z : ◌≡◌ {A = ℕ} 0 1 = cc in absurd (omega arith)

  -- they are as many as the walk says
  pub records-length : (l : List Place) → value l ≡ records_from s c → value (length l) ≡ walk_from s c
  records-length l e =
      let t = records l e in
      ap value (ap length t.are ∙ length-tabulate (place_at s c) t.n) ∙ t.walked

  -- and the k-th is that of the record at the k-th offset
  pub records-place : (l : List Place) (k : ℕ) (d : Place) → value l ≡ records_from s c → k < length l → value (get_or l k d) ≡ reference_at s c.table (offset_at s c k)
  records-place l k d e h =
      let t = records l e in
      let q : k < t.n = omega (arith, ap length t.are, length-tabulate (place_at s c) t.n) in
      ap (λ (x : List Place). value (get_or x k d)) t.are
      ∙ ap value (get_d_tabulate (place_at s c) t.n k d q)
      ∙ there k (((walk-took t.n).0 t.walked).1.passes k q)

  -- ---- a cursor on the chain goes from its k-th offset to the next

  pub next-along : (k : ℕ) → length s ≤ limit → ends_at s c k ≡ false → item (place_at s c k) (stands_at s c (suc k)) ≡ impl_type_next s (stands_at s c k)
  unfolding offset_at
  next-along k h e = next-is s (stands_at s c k) (value (place_at s c k)) (lent_fits s _ (value (place_at s c k)) h (there k e))

  -- ---- how the counting walk goes: n records are passed, and x is the next offset

  pub record Stands (n x : ℕ) : Type 0 where
    pub passes : Passes s c n
    pub at : x ≡ offset_at s c n

  pub stands : Stands 0 c.next
  unfolding offset_at
  stands = record { passes = passes_none; at = refl }

  module _ (n x : ℕ) (h : Stands n x) where
    stands-there : (p : Place) → value p ≡ reference_at s c.table x → ends_at s c n ≡ false
    unfolding ends_at
    stands-there p e = sym (ap is_refused (e ∙ ap (reference_at s c.table) h.at))

    pub stands-more : (p : Place) (y : ℕ) → value p ≡ reference_at s c.table x → y ≡ onext s p.at → Stands (n + 1) y
    unfolding offset_at
    stands-more p y e q =
        let a : p.at ≡ c.table.at + offset_at s c n = ap (λ (k : Place). k.at) (place_is s c.table x (size_of ref_record) p e) ∙ ap (λ (k : ℕ). c.table.at + k) h.at in
        rw add-one (record { passes = passes-more n h.passes (stands-there p e); at = q ∙ ap (onext s) a })

    -- no record is there: the chain has n
    pub stands-last : (m : ℕ) → length s ≤ limit → refused m ≡ reference_at s c.table x → value n ≡ walk_from s c
    unfolding ends_at
    stands-last m k e =
        (walk-took n).1 (k, record { passes = h.passes; ends = sym (ap is_refused (e ∙ ap (reference_at s c.table) h.at)) })

    -- one is, and there is no room for another at an offset of its own
    pub stands-round : (p : Place) → length s ≤ limit → value p ≡ reference_at s c.table x → length s - 15 ≤ n → refused 10 ≡ walk_from s c
    stands-round p k e m =
        walk-circle.1 (k, crowded (suc n) (omega arith) (passes-more n h.passes (stands-there p e)))

-- ---- the numbers along the chain

module _ (s : List ℕ) (c : ImplTypeCursor) where
  abbrev from : ChainAt
  from = over_impl_types.stands c

  -- THE RECORD BEHIND j RECORDS HAS NUMBER j from the cursor's count on, as far as numbers go, whatever bytes each step is taken over
  pub impl_types-number : {d : ImplTypeCursor} {j : ℕ} → c.yielded ≤ largest → After impl_type_step c j d
      → Numbered (λ (x : ImplTypeCursor). x.yielded) impl_type_step (number_of (c.yielded + j)) d
  impl_types-number = number-after (counts over_impl_types impl_type_next)

  -- THE NUMBER OF THE k-TH RECORD from the cursor on is the cursor's count and k, as far as numbers go
  pub step-along : (k : ℕ) → length s ≤ limit → ends_at s from k ≡ false
      → yielded (place_at s from k) (number_of (c.yielded + k)) (cursor_at s c (suc k)) ≡ impl_type_step s (cursor_at s c k)
  step-along k h e =
      step-found over_impl_types (impl_type_next s) (cursor_at s c k) (place_at s from k) (stands_at s from (suc k)) (number_of (c.yielded + suc k)) (next-along s from k h e)
      (ap number_of (omega arith) ∙ sym (number-next (c.yielded + k)))

  -- ON A CHAIN THAT COMES ROUND every step yields, for as long as it is stepped, and the number stays at the largest once it is there
  pub step-round : Circle s from → (k : ℕ) → length s ≤ limit → largest ≤ c.yielded + k
      → (yielded (place_at s from k) largest (cursor_at s c (suc k)) ≡ impl_type_step s (cursor_at s c k)) × ((cursor_at s c (suc k)).yielded ≡ largest)
  step-round r k h l = (
    ap (λ (n : ℕ). yielded (place_at s from k) n (cursor_at s c (suc k))) (sym (number-most (c.yielded + k) l))
        ∙ step-along k h (always s from r (suc k) k (omega arith)),
    number-most (c.yielded + suc k) (omega (arith, l)),
  )

-- WITHOUT SEGMENT 3 the walk along a typeinfo's chain takes 0 (document 02, §2)
pub no_table : (s : List ℕ) (lib : TypeLib) (ti : TypeInfoEntry) (c : ImplTypeCursor) (n : ℕ) → length s ≤ limit → segment_of lib 3 ≡ refused n → value c ≡ impl_types_of s lib ti → value 0 ≡ walk_of s c
no_table s lib ti c n h missing = by (field type_info_base "datatype1" s ti.at ti.len)
  where
    by : (a : Answer ℕ) → value c ≡ map (λ (offset : ℕ). record { table = reference_table lib; next = offset; yielded = 0 }) a → value 0 ≡ walk_of s c
    by (value offset) e =
        let q : c ≡ record { table = reference_table lib; next = offset; yielded = 0 } = cc in
        walk-empty s (over_impl_types.stands c) h (ap (λ (x : ImplTypeCursor). x.table.len) q ∙ ap (λ (a : Answer Place). (table_of a).len) missing)
    by (refused m) e = let z : ◌≡◌ {A = ℕ} 0 1 = cc in absurd (omega arith)

-- ---- the same by cases

pub types-value : (s : List ℕ) (lib : TypeLib) (ti : TypeInfoEntry) (offset : ℕ) (table : Place) → value offset ≡ field type_info_base "datatype1" s ti.at ti.len → table ≡ reference_table lib → value (record { table = table; next = offset; yielded = 0 }) ≡ impl_types_of s lib ti
types-value s lib ti offset table e h =
    ap (λ (t : Place). value (record { table = t; next = offset; yielded = 0 })) h
    ∙ ap (map (λ (x : ℕ). record { table = reference_table lib; next = x; yielded = 0 })) e

module _ (s : List ℕ) where
  module _ (c : ImplTypeCursor) where
    pub chain-none : (n : ℕ) → refused n ≡ lent s (reference_at s c.table c.next) → ended n c ≡ impl_type_step s c
    chain-none n e = step-none over_impl_types (impl_type_next s) c n (next-is s (over_impl_types.stands c) (refused n) e)

    pub chain-record : (p : Place) (next number : ℕ) → length s ≤ limit → value p ≡ reference_at s c.table c.next → next ≡ onext s p.at
        → number ≡ number_of (c.yielded + 1) → yielded p c.yielded (record { table = c.table; next = next; yielded = number }) ≡ impl_type_step s c
    chain-record p next number h e q =
        step-found over_impl_types (impl_type_next s) c p (record { table = c.table; next = next }) number
        (ap (λ (x : ℕ). item p (record { table = c.table; next = x })) q
        ∙ next-is s (over_impl_types.stands c) (value p) (lent_fits s _ (value p) h e))
