-- Laws of numbers, for any cursor, and for those over functions, variables and parameters. Assumes nothing.
use Rattle.std.specs.Prelude.{◌≡◌, refl, Bool, true, false, cond, List, ℕ, suc, ◌+◌, ◌-◌, ◌≤◌, ◌<◌, ltb}
use Rattle.std.proofs.Common.{sym, ◌∙◌, ap, arith, le-ltb, ltb-true, ltb-false}
use Rattle.records.specs.declared.answer.Place.{Place}
use Rattle.records.specs.Answer.{Answer, value, refused}
use Rattle.records.specs.Layout.{size_of, func_record, var_record}
use Rattle.records.specs.Record.{limit}
use Rattle.typelib.specs.Tables.{lent}
use Rattle.cursors.specs.declared.iterators.FuncCursor.{FuncCursor}
use Rattle.cursors.specs.declared.iterators.VarCursor.{VarCursor}
use Rattle.cursors.specs.declared.iterators.ParamCursor.{ParamCursor}
use Rattle.cursors.specs.Numbers.{largest, number_of, Next, item, stop, next_by, Step, yielded, ended, beside, Counting, with_number}
use Rattle.cursors.specs.Cursors.{BlockAt, over_funcs, over_vars, over_params, record_at, block_next, func_step, var_step, param_at, param_next, param_step}
use Rattle.cursors.specs.CursorLaws.{recorded, param}

-- ---- the number

pub number-few : (k : ℕ) → k ≤ largest → number_of k ≡ k
unfolding number_of
number-few k h = by (ltb k largest) refl
  where
    by : (b : Bool) → ltb k largest ≡ b → cond b k largest ≡ k
    by true e = refl
    by false e = omega (arith, ltb-false k largest e)

pub number-most : (k : ℕ) → largest ≤ k → number_of k ≡ largest
unfolding number_of
number-most k h = rw (le-ltb k largest h)

-- a number that has not stopped is the count
pub number-back : (k : ℕ) → number_of k < largest → number_of k ≡ k
number-back k h = by (ltb k largest) refl
  where
    by : (b : Bool) → ltb k largest ≡ b → number_of k ≡ k
    by true e = number-few k (omega (arith, ltb-true k largest e))
    by false e = absurd (let f = number-most k (ltb-false k largest e) in omega (arith, h, f))

-- one more than a number is the number behind it
pub number-next : (k : ℕ) → number_of (number_of k + 1) ≡ number_of (k + 1)
number-next k = by (ltb k largest) refl
  where
    by : (b : Bool) → ltb k largest ≡ b → number_of (number_of k + 1) ≡ number_of (k + 1)
    by true e = ap (λ (n : ℕ). number_of (n + 1)) (number-few k (omega (arith, ltb-true k largest e)))
    by false e =
        ap (λ (n : ℕ). number_of (n + 1)) (number-most k (ltb-false k largest e))
        ∙ number-most (largest + 1) (omega arith)
        ∙ sym (number-most (k + 1) (omega (arith, ltb-false k largest e)))

-- ---- one step

-- a step without its number
abbrev pub without : {R C D : Type 0} → (C → D) → Step R C → Next R D
without stands (yielded r n c) = item r (stands c)
without stands (ended m c) = stop m (stands c)

-- what a step that yields tells, and one that does not
pub record Yields {R C D : Type 0} (k : Counting C D) (next : D → Next R D) (c d : C) (r : R) (n : ℕ) : Type 0 where
  pub found : item r (k.stands d) ≡ next (k.stands c)
  pub number : n ≡ k.count c
  pub more : k.count d ≡ number_of (k.count c + 1)

pub record Ends {R C D : Type 0} (k : Counting C D) (next : D → Next R D) (c d : C) (m : ℕ) : Type 0 where
  pub none : stop m (k.stands d) ≡ next (k.stands c)
  pub same : k.count d ≡ k.count c

module _ {R C D : Type 0} (k : Counting C D) (next : D → Next R D) where
  -- RECORDS AND THEIR ORDER ARE THOSE OF BEFORE: a step without its number is the step without numbers
  pub as_before : (c : C) → without k.stands (with_number k next c) ≡ next (k.stands c)
  as_before c = by (next (k.stands c))
    where
      by : (t : Next R D) → without k.stands (beside k.cursor (k.count c) t) ≡ t
      by (item r d) = ap (item r) (k.stood d (number_of (k.count c + 1)))
      by (stop m d) = ap (stop m) (k.stood d (k.count c))

  -- how the code comes to a step: a record was found, or none
  pub step-found : (c : C) (r : R) (d : D) (n : ℕ) → item r d ≡ next (k.stands c) → n ≡ number_of (k.count c + 1) → yielded r (k.count c) (k.cursor d n) ≡ with_number k next c
  step-found c r d n e h = ap (λ (x : ℕ). yielded r (k.count c) (k.cursor d x)) h ∙ ap (beside k.cursor (k.count c)) e

  pub step-none : (c : C) (m : ℕ) → stop m (k.stands c) ≡ next (k.stands c) → ended m c ≡ with_number k next c
  step-none c m e = ap (ended m) (sym (k.whole c)) ∙ ap (beside k.cursor (k.count c)) e

  pub step-yields : (c d : C) (r : R) (n : ℕ) → yielded r n d ≡ with_number k next c → Yields k next c d r n
  step-yields c d r n = by (next (k.stands c)) refl
    where
      by : (t : Next R D) → next (k.stands c) ≡ t → yielded r n d ≡ beside k.cursor (k.count c) t → Yields k next c d r n
      by (item q e) f h =
          let a : r ≡ q = cc in
          let b : n ≡ k.count c = cc in
          let g : d ≡ k.cursor e (number_of (k.count c + 1)) = cc in
          let stands : k.stands d ≡ e = ap k.stands g ∙ k.stood e (number_of (k.count c + 1)) in
          record {
            found = ap (λ (x : R). item x (k.stands d)) a ∙ ap (item q) stands ∙ sym f;
            number = b;
            more = ap k.count g ∙ k.counted e (number_of (k.count c + 1));
          }
      by (stop m e) f h = let z : ◌≡◌ {A = ℕ} 0 1 = cc in absurd (omega arith)

  pub step-ends : (c d : C) (m : ℕ) → ended m d ≡ with_number k next c → Ends k next c d m
  step-ends c d m = by (next (k.stands c)) refl
    where
      by : (t : Next R D) → next (k.stands c) ≡ t → ended m d ≡ beside k.cursor (k.count c) t → Ends k next c d m
      by (item q e) f h = let z : ◌≡◌ {A = ℕ} 0 1 = cc in absurd (omega arith)
      by (stop n e) f h =
          let a : m ≡ n = cc in
          let g : d ≡ k.cursor e (k.count c) = cc in
          let stands : k.stands d ≡ e = ap k.stands g ∙ k.stood e (k.count c) in
          record {
            none = ap (λ (x : ℕ). stop x (k.stands d)) a ∙ ap (stop n) stands ∙ sym f;
            same = ap k.count g ∙ k.counted e (k.count c);
          }

  -- A CURSOR THAT HAS YIELDED NOTHING comes back as it was, its count too, so that over the same bytes it yields nothing again
  pub again : (c d : C) (m : ℕ) → ((n : ℕ) (e : D) → stop n e ≡ next (k.stands c) → e ≡ k.stands c)
      → ended m d ≡ with_number k next c → (d ≡ c) × (ended m d ≡ with_number k next d)
  again c d m stays h =
      let e = step-ends c d m h in
      let stood : k.stands d ≡ k.stands c = stays m (k.stands d) e.none in
      let same : d ≡ c =
      sym (k.whole d) ∙ ap (λ (x : D). k.cursor x (k.count d)) stood ∙ ap (k.cursor (k.stands c)) e.same ∙ k.whole c in
      (same, h ∙ ap (with_number k next) (sym same))

-- a step that goes by a value or stops where it stands
pub by-stops : {A R D : Type 0} (d : D) (f : A → R) (g : A → D) (a : Answer A) (n : ℕ) (e : D) → stop n e ≡ next_by d f g a → e ≡ d
by-stops d f g (value x) n e h = let z : ◌≡◌ {A = ℕ} 0 1 = cc in absurd (omega arith)
by-stops d f g (refused m) n e h = cc

-- ---- cursors that are reached by steps, whatever bytes each step is taken over

-- d is reached from c, and j records were yielded on the way
pub data After {S R C : Type 0} (step : S → C → Step R C) (c : C) : ℕ → C → Type 0 where
  start : After step c 0 c
  more : {j : ℕ} {d e : C} {r : R} {n : ℕ} (s : S) → After step c j d → yielded r n e ≡ step s d → After step c (suc j) e
  still : {j : ℕ} {d e : C} {m : ℕ} (s : S) → After step c j d → ended m e ≡ step s d → After step c j e

-- steps that keep count: of a record the count is the number, and then one more
pub record Counts {S R C : Type 0} (count : C → ℕ) (step : S → C → Step R C) : Type 0 where
  pub number : {s : S} {c d : C} {r : R} {n : ℕ} → yielded r n d ≡ step s c → n ≡ count c
  pub more : {s : S} {c d : C} {r : R} {n : ℕ} → yielded r n d ≡ step s c → count d ≡ number_of (count c + 1)
  pub same : {s : S} {c d : C} {m : ℕ} → ended m d ≡ step s c → count d ≡ count c

pub counts : {S R C D : Type 0} (k : Counting C D) (next : S → D → Next R D) → Counts k.count (λ s. with_number k (next s))
counts k next =
    record {
      number = λ {s} {c} {d} {r} {n} e. (step-yields k (next s) c d r n e).number;
      more = λ {s} {c} {d} {r} {n} e. (step-yields k (next s) c d r n e).more;
      same = λ {s} {c} {d} {m} e. (step-ends k (next s) c d m e).same;
    }

-- the cursor has yielded j, and the record that it hands out next has number j
pub record Numbered {S R C : Type 0} (count : C → ℕ) (step : S → C → Step R C) (j : ℕ) (d : C) : Type 0 where
  pub yields : count d ≡ j
  pub number : {s : S} {e : C} {r : R} {n : ℕ} → yielded r n e ≡ step s d → n ≡ j

pub numbered : {S R C : Type 0} {count : C → ℕ} {step : S → C → Step R C} → Counts count step → {j : ℕ} {d : C} → count d ≡ j → Numbered count step j d
numbered counting e = record { yields = e; number = λ h. counting.number h ∙ e }

-- something was left, and one less is
pub record Lessens {C : Type 0} (left : C → ℕ) (c d : C) : Type 0 where
  pub some : 0 < left c
  pub fewer : left d ≡ left c - 1

-- steps that yield only where something is left, and take one of it
pub record Takes {S R C : Type 0} (left : C → ℕ) (step : S → C → Step R C) : Type 0 where
  pub takes : {s : S} {c d : C} {r : R} {n : ℕ} → yielded r n d ≡ step s c → Lessens left c d
  pub keeps : {s : S} {c d : C} {m : ℕ} → ended m d ≡ step s c → left d ≡ left c

-- steps that yield only inside the most bytes that are read, and go forward
pub record Forward {S R C : Type 0} (pos : C → ℕ) (step : S → C → Step R C) : Type 0 where
  pub ahead : {s : S} {c d : C} {r : R} {n : ℕ} → yielded r n d ≡ step s c → pos c < pos d
  pub inside : {s : S} {c d : C} {r : R} {n : ℕ} → yielded r n d ≡ step s c → pos c ≤ limit
  pub keeps : {s : S} {c d : C} {m : ℕ} → ended m d ≡ step s c → pos d ≡ pos c

-- a turn of a loop that goes by the cursor's own numbers
pub record Turn {C : Type 0} (left count : C → ℕ) (c d : C) (n : ℕ) : Type 0 where
  pub lessens : Lessens left c d
  pub number : n ≡ count c
  pub more : count d ≡ count c + 1
  pub sum : count d + left d ≡ count c + left c

module _ {S R C : Type 0} {count : C → ℕ} {step : S → C → Step R C} (counting : Counts count step) where
  -- THE COUNT AFTER j RECORDS is the one of before and j, as far as numbers go
  pub count-after : {c d : C} {j : ℕ} → count c ≤ largest → After step c j d → count d ≡ number_of (count c + j)
  count-after {c} h start = sym (ap number_of (omega arith) ∙ number-few (count c) h)
  count-after {c} h (more {j = j} s a e) =
      counting.more e ∙ ap (λ (n : ℕ). number_of (n + 1)) (count-after h a) ∙ number-next (count c + j) ∙ ap number_of (omega arith)
  count-after {c} h (still s a e) = counting.same e ∙ count-after h a

  -- where each step takes one and adds one, and they are together no more than the largest number
  pub turn : {left : C → ℕ} → Takes left step → {s : S} {c d : C} {r : R} {n : ℕ} → count c + left c ≤ largest → yielded r n d ≡ step s c → Turn left count c d n
  turn taking {c = c} h e =
      let l = taking.takes e in
      let m = counting.more e ∙ number-few (count c + 1) (omega (arith, h, l.some)) in
      record { lessens = l; number = counting.number e; more = m; sum = omega (arith, m, l.some, l.fewer) }

  -- THE RECORD BEHIND j RECORDS HAS NUMBER j from where the count began, as far as numbers go
  pub number-after : {c d : C} {j : ℕ} → count c ≤ largest → After step c j d → Numbered count step (number_of (count c + j)) d
  number-after h a = numbered counting (count-after h a)

  -- YIELDED AND REMAINING are together what remained at first
  pub sum-after : {left : C → ℕ} → Takes left step → {c d : C} {j : ℕ} → count c ≡ 0 → left c ≤ largest → After step c j d → count d + left d ≡ left c
  sum-after taking z h start = omega (arith, z)
  sum-after taking z h (more s a e) =
      let ih = sum-after taking z h a in
      (turn taking (omega (arith, ih, h)) e).sum ∙ ih
  sum-after taking z h (still s a e) = omega (arith, sum-after taking z h a, counting.same e, taking.keeps e)

  -- so that the record behind j records has number j, where no more remained at first than there are numbers
  pub number-by-sum : {left : C → ℕ} → Takes left step → {c d : C} {j : ℕ} → count c ≡ 0 → left c < largest → After step c j d → Numbered count step j d
  number-by-sum taking {c} {d} {j} z h a =
      let n : count d ≡ number_of j = count-after (omega (arith, z)) a ∙ ap number_of (omega (arith, z)) in
      let few : number_of j < largest = omega (arith, n, sum-after taking z (omega (arith, h)) a, h) in
      numbered counting (n ∙ number-back j few)

  -- and so it has where each step goes forward, inside the most bytes that are read
  forward-after : {pos : C → ℕ} → Forward pos step → {c d : C} {j : ℕ} → count c ≡ 0 → After step c j d → (count d ≡ j) × (j ≤ pos d)
  forward-after going z start = (z, omega arith)
  forward-after going z (more {d = d} s a e) =
      let ih = forward-after going z a in
      let n = counting.more e ∙ number-few (count d + 1) (omega (arith, ih.0, ih.1, going.inside e)) in
      (omega (arith, ih.0, n), omega (arith, ih.1, going.ahead e))
  forward-after going z (still s a e) =
      let ih = forward-after going z a in
      (counting.same e ∙ ih.0, omega (arith, ih.1, going.keeps e))

  pub number-by-place : {pos : C → ℕ} → Forward pos step → {c d : C} {j : ℕ} → count c ≡ 0 → After step c j d → Numbered count step j d
  number-by-place going z a = numbered counting (forward-after going z a).0

-- ---- functions, variables and parameters

-- what is found goes on by its value
pub by-item : {A R D : Type 0} (Q : R → D → Type 0) (d : D) (f : A → R) (g : A → D) (a : Answer A)
    → ((x : A) → value x ≡ a → Q (f x) (g x)) → (r : R) (e : D) → item r e ≡ next_by d f g a → Q r e
by-item Q d f g (value x) h r e q =
    let u : r ≡ f x = cc in
    let v : e ≡ g x = cc in
    rw (u, v) (h x refl)
by-item Q d f g (refused n) h r e q = let z : ◌≡◌ {A = ℕ} 0 1 = cc in absurd (omega arith)

abbrev left : BlockAt → ℕ
left d = d.remaining

-- a record is found only where something is left, and then one less is
block-lessens : (least : ℕ) (s : List ℕ) (d e : BlockAt) (p : Place) → item p e ≡ block_next least s d → Lessens left d e
block-lessens least s d e p =
    by-item (λ _ x. Lessens left d x) d _ _ (lent s (record_at s d.pos d.end d.remaining least)) (λ n h.
    record { some = (recorded s d.pos d.end d.remaining least n h).some; fewer = refl }) p e

param-lessens : (s : List ℕ) (d e : BlockAt) (p : Place) → item p e ≡ param_next s d → Lessens left d e
param-lessens s d e p =
    by-item (λ _ x. Lessens left d x) d _ _ (lent s (param_at s d)) (λ q h.
    record { some = (param s d q h).some; fewer = refl }) p e

block-stays : (least : ℕ) (s : List ℕ) (d : BlockAt) (n : ℕ) (e : BlockAt) → stop n e ≡ block_next least s d → e ≡ d
block-stays least s d = by-stops d _ _ (lent s (record_at s d.pos d.end d.remaining least))

param-stays : (s : List ℕ) (d : BlockAt) (n : ℕ) (e : BlockAt) → stop n e ≡ param_next s d → e ≡ d
param-stays s d = by-stops d _ _ (lent s (param_at s d))

-- any cursor over such steps takes one from what remains
taking : {C : Type 0} (k : Counting C BlockAt) (next : List ℕ → BlockAt → Next Place BlockAt)
    → ((s : List ℕ) (d e : BlockAt) (p : Place) → item p e ≡ next s d → Lessens left d e)
    → ((s : List ℕ) (d : BlockAt) (n : ℕ) (e : BlockAt) → stop n e ≡ next s d → e ≡ d)
    → Takes (λ (c : C). (k.stands c).remaining) (λ s. with_number k (next s))
taking k next lessens stays =
    record {
      takes = λ {s} {c} {d} {r} {n} e.
          let l = lessens s (k.stands c) (k.stands d) r (step-yields k (next s) c d r n e).found in
          record { some = l.some; fewer = l.fewer };
      keeps = λ {s} {c} {d} {m} e.
          ap left (stays s (k.stands c) m (k.stands d) (step-ends k (next s) c d m e).none);
    }

pub func-takes : Takes (λ (c : FuncCursor). c.remaining) func_step
func-takes = taking over_funcs (block_next (size_of func_record)) (block-lessens (size_of func_record)) (block-stays (size_of func_record))

pub var-takes : Takes (λ (c : VarCursor). c.remaining) var_step
var-takes = taking over_vars (block_next (size_of var_record)) (block-lessens (size_of var_record)) (block-stays (size_of var_record))

pub param-takes : Takes (λ (c : ParamCursor). c.remaining) param_step
param-takes = taking over_params param_next param-lessens param-stays

pub func-turn : (s : List ℕ) {c d : FuncCursor} {p : Place} {n : ℕ} → c.yielded + c.remaining ≤ largest → yielded p n d ≡ func_step s c → Turn (λ x. x.remaining) (λ x. x.yielded) c d n
func-turn s = turn (counts over_funcs (block_next (size_of func_record))) func-takes {s = s}

pub var-turn : (s : List ℕ) {c d : VarCursor} {p : Place} {n : ℕ} → c.yielded + c.remaining ≤ largest → yielded p n d ≡ var_step s c → Turn (λ x. x.remaining) (λ x. x.yielded) c d n
var-turn s = turn (counts over_vars (block_next (size_of var_record))) var-takes {s = s}

-- WHAT A CURSOR HAS YIELDED AND WHAT REMAINS are together what remained when it had yielded none, whatever its steps were over; and the record
-- behind j records has number j
module _ {c d : FuncCursor} {j : ℕ} (none : c.yielded ≡ 0) (few : c.remaining < largest) (a : After func_step c j d) where
  pub func-sum : d.yielded + d.remaining ≡ c.remaining
  func-sum = sum-after (counts over_funcs (block_next (size_of func_record))) func-takes none (omega (arith, few)) a

  pub func-number : Numbered (λ (x : FuncCursor). x.yielded) func_step j d
  func-number = number-by-sum (counts over_funcs (block_next (size_of func_record))) func-takes none few a

module _ {c d : VarCursor} {j : ℕ} (none : c.yielded ≡ 0) (few : c.remaining < largest) (a : After var_step c j d) where
  pub var-sum : d.yielded + d.remaining ≡ c.remaining
  var-sum = sum-after (counts over_vars (block_next (size_of var_record))) var-takes none (omega (arith, few)) a

  pub var-number : Numbered (λ (x : VarCursor). x.yielded) var_step j d
  var-number = number-by-sum (counts over_vars (block_next (size_of var_record))) var-takes none few a

module _ {c d : ParamCursor} {j : ℕ} (none : c.yielded ≡ 0) (few : c.remaining < largest) (a : After param_step c j d) where
  pub param-sum : d.yielded + d.remaining ≡ c.remaining
  param-sum = sum-after (counts over_params param_next) param-takes none (omega (arith, few)) a

  pub param-number : Numbered (λ (x : ParamCursor). x.yielded) param_step j d
  param-number = number-by-sum (counts over_params param_next) param-takes none few a

module _ (s : List ℕ) where
  -- the steps without their numbers
  pub func-as-before : (c : FuncCursor) → without over_funcs.stands (func_step s c) ≡ block_next (size_of func_record) s (over_funcs.stands c)
  func-as-before = as_before over_funcs (block_next (size_of func_record) s)

  pub var-as-before : (c : VarCursor) → without over_vars.stands (var_step s c) ≡ block_next (size_of var_record) s (over_vars.stands c)
  var-as-before = as_before over_vars (block_next (size_of var_record) s)

  pub param-as-before : (c : ParamCursor) → without over_params.stands (param_step s c) ≡ param_next s (over_params.stands c)
  param-as-before = as_before over_params (param_next s)

  -- a cursor at its end
  pub func-again : (c d : FuncCursor) (m : ℕ) → ended m d ≡ func_step s c → (d ≡ c) × (ended m d ≡ func_step s d)
  func-again c d m = again over_funcs (block_next (size_of func_record) s) c d m (block-stays (size_of func_record) s (over_funcs.stands c))

  pub var-again : (c d : VarCursor) (m : ℕ) → ended m d ≡ var_step s c → (d ≡ c) × (ended m d ≡ var_step s d)
  var-again c d m = again over_vars (block_next (size_of var_record) s) c d m (block-stays (size_of var_record) s (over_vars.stands c))

  pub param-again : (c d : ParamCursor) (m : ℕ) → ended m d ≡ param_step s c → (d ≡ c) × (ended m d ≡ param_step s d)
  param-again c d m = again over_params (param_next s) c d m (param-stays s (over_params.stands c))
