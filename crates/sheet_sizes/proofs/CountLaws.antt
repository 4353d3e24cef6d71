-- The laws of counting. Assumes nothing.
use mathlib.Core.Path.{◌≡◌, refl, sym, ap, ◌∙◌}
use mathlib.Core.List.{List, [], ◌∷◌}
use Prim.Native.Nat.{ℕ, ◌<◌}
use lib.ListN.{length}
use Rattle.records.specs.Answer.{Answer, value, refused, map}
use Rattle.description.specs.Description.{Bytes}
use Rattle.description.specs.Figures.{Figures}
use Rattle.emit.specs.Emit.{Put, At, Refused, past, put, advance, moved, Emitted}
use Rattle.emit.specs.Laws.{advance-none, advance-add, put_refused, put-moved}
use Rattle.describe.specs.Values.{and_then, all}
use Rattle.sheet_sizes.specs.declared.Count.{Count}
use Rattle.sheet_sizes.specs.declared.Ends.{Ends}
use Rattle.sheet_sizes.specs.Counts.{Measured, measured, figures, none, sized, plus, ◌⊕◌, Counts, So, Stopped, counted, counts_at, counts, of, with, ends, Counting, Ending}
use Rattle.sheet_sizes.specs.Counted.{count_all}

-- ---- one part behind another

pub join : (t : Counts) (x y : Answer Figures) → counted (counted t x) y ≡ counted t (x ⊕ y)
join (So a) (value b) (value c) =
    rw (advance-add a.length b.length c.length, advance-add a.functions b.functions c.functions, advance-add a.parameters b.parameters c.parameters, advance-add a.variables b.variables c.variables, advance-add a.references b.references c.references)
join (So a) (value b) (refused n) = refl
join (So a) (refused n) y = refl
join (Stopped m) (value b) (value c) = refl
join (Stopped m) (value b) (refused n) = refl
join (Stopped m) (refused n) y = refl

pub then : {from mid r : Count} {x y : Answer Figures} → Counting x from mid → Counting y mid r → Counting (x ⊕ y) from r
then {from} {mid} {r} {x} {y} a b = record { is = b.is ∙ ap (λ (k : Counts). counted k y) a.is ∙ join (of from) x y }

-- what was counted, by another name
pub known : {from r : Count} {x y : Answer Figures} → x ≡ y → Counting x from r → Counting y from r
known {from} e a = record { is = a.is ∙ ap (counted (of from)) e }

counted_none : (t : Counts) → t ≡ counted t (value none)
counted_none (So a) =
    sym (rw (advance-none a.length, advance-none a.functions, advance-none a.parameters, advance-none a.variables, advance-none a.references))
counted_none (Stopped m) = refl

pub nothing : (c : Count) → Counting (value none) c c
nothing c = record { is = counted_none (of c) }

-- ---- places

pub ahead-measured : (to : ℕ) {r n : ℕ} → r ≡ advance to n → (bs : Bytes) → length bs ≡ n → Measured (value bs) to r
ahead-measured to {r} {n} e bs f = measured (ap put (e ∙ ap (advance to) (sym f)) ∙ put-moved to bs)

-- bytes, and counts beside them
pub part : (c : Count) (r i j k l : ℕ) {bs : Bytes} → Measured (value bs) c.to r
    → Counting (value (figures (length bs) i j k l)) c
    (record { to = r; functions = advance c.functions i; parameters = advance c.parameters j; variables = advance c.variables k; references = advance c.references l })
unfolding counts
part c r i j k l {bs} h = record { is = ap (λ (u : Put). counts_at u (advance c.functions i) (advance c.parameters j) (advance c.variables k) (advance c.references l)) h.moves ∙ by (put c.to) }
  where
    by : (t : Put) → counts_at (moved t (value bs)) (advance c.functions i) (advance c.parameters j) (advance c.variables k) (advance c.references l)
        ≡ counted (counts_at t c.functions c.parameters c.variables c.references) (value (figures (length bs) i j k l))
    by (At q) = refl
    by (Refused m) = refl

-- bytes alone
pub bytes : (c : Count) (r : ℕ) {bs : Bytes} → Measured (value bs) c.to r → Counting (sized bs) c (with c (ends r c.references))
bytes c r h = rw (advance-none c.functions, advance-none c.parameters, advance-none c.variables, advance-none c.references) at (part c r 0 0 0 0 h)

-- bytes of a function, of a variable, and before n parameters
module _ (c : Count) (r m : ℕ) {bs : Bytes} (h : Measured (value bs) c.to r) where
  pub function-part : m ≡ advance c.functions 1
      → Counting (value (figures (length bs) 1 0 0 0)) c (record { to = r; functions = m; parameters = c.parameters; variables = c.variables; references = c.references })
  function-part e = rw e (rw (advance-none c.parameters, advance-none c.variables, advance-none c.references) at (part c r 1 0 0 0 h))

  pub variable-part : m ≡ advance c.variables 1
      → Counting (value (figures (length bs) 0 0 1 0)) c (record { to = r; functions = c.functions; parameters = c.parameters; variables = m; references = c.references })
  variable-part e = rw e (rw (advance-none c.functions, advance-none c.parameters, advance-none c.references) at (part c r 0 0 1 0 h))

  pub parameters-part : (n : ℕ) → m ≡ advance c.parameters n
      → Counting (value (figures (length bs) 0 n 0 0)) c (record { to = r; functions = c.functions; parameters = m; variables = c.variables; references = c.references })
  parameters-part n e = rw e (rw (advance-none c.functions, advance-none c.variables, advance-none c.references) at (part c r 0 n 0 0 h))

-- a refusal
pub refusing : (c : Count) (r n : ℕ) {k : ℕ} {o : List ℕ} → Emitted (refused k) (put c.to) o (put r) o → Counting (refused k) c (with c (ends r n))
unfolding counts
refusing c r n {k} h = record { is = ap (λ (u : Put). counts_at u c.functions c.parameters c.variables n) h.moves ∙ by (put c.to) }
  where
    by : (t : Put) → counts_at (moved t (refused k)) c.functions c.parameters c.variables n ≡ counted (counts_at t c.functions c.parameters c.variables c.references) (refused k)
    by (At q) = refl
    by (Refused m) = refl

-- at a refusal nothing is counted
pub stays : (c : Count) (x : Answer Figures) → past < c.to → Counting x c c
unfolding counts
stays c x h = record { is = rw (put_refused c.to h) }

-- ---- the same of a place and references

pub then-e : {from mid r : Ends} {x y : Answer Figures} → Ending x from mid → Ending y mid r → Ending (x ⊕ y) from r
then-e a b = record { is = λ c. then (a.is c) (b.is c) }

pub known-e : {from r : Ends} {x y : Answer Figures} → x ≡ y → Ending x from r → Ending y from r
known-e e a = record { is = λ c. known e (a.is c) }

pub nothing-e : (e : Ends) → Ending (value none) e e
nothing-e e = record { is = λ c. nothing (with c e) }

pub bytes-e : (to r n : ℕ) {bs : Bytes} → Measured (value bs) to r → Ending (sized bs) (ends to n) (ends r n)
bytes-e to r n h = record { is = λ c. bytes (with c (ends to n)) r h }

pub references-e : (to r n k : ℕ) {bs : Bytes} → Measured (value bs) to r → Ending (value (figures (length bs) 0 0 0 k)) (ends to n) (ends r (advance n k))
references-e to r n k h =
    record { is = λ c. rw (advance-none c.functions, advance-none c.parameters, advance-none c.variables) at (part (with c (ends to n)) r 0 0 0 k h) }

pub refusing-e : (to r n m : ℕ) {k : ℕ} {o : List ℕ} → Emitted (refused k) (put to) o (put r) o → Ending (refused k) (ends to n) (ends r m)
refusing-e to r n m h = record { is = λ c. refusing (with c (ends to n)) r m h }

pub stays-e : (to n : ℕ) (x : Answer Figures) → past < to → Ending x (ends to n) (ends to n)
stays-e to n x h = record { is = λ c. stays (with c (ends to n)) x h }

-- ---- a loop: what the rest of it, counted from here, makes of the whole

pub record Left (whole : Answer Figures) (from : Count) (rest : Answer Figures) (c : Count) : Type 0 where
  pub finish : (r : Count) → Counting rest c r → Counting whole from r

pub left-all : {x : Answer Figures} {c : Count} → Left x c x c
left-all = record { finish = λ r e. e }

pub left_less : {whole rest a rest' : Answer Figures} {from c d : Count} → Left whole from rest c → Counting a c d → rest ≡ a ⊕ rest' → Left whole from rest' d
left_less l e q = record { finish = λ r f. l.finish r (known (sym q) (then e f)) }

pub left-none : {whole rest : Answer Figures} {from c : Count} → Left whole from rest c → rest ≡ value none → Counting whole from c
left-none {c = c} l q = l.finish c (known (sym q) (nothing c))

pub left-stopped : {whole rest : Answer Figures} {from c : Count} → Left whole from rest c → past < c.to → Counting whole from c
left-stopped {rest = rest} {c = c} l h = l.finish c (stays c rest h)

-- ---- lists

-- figures of a list that are those of its entries, one behind the other
pub record Sums {A : Type 0} (f : A → Figures) (g : List A → Figures) : Type 0 where
  pub empty : g [] ≡ none
  pub more : (x : A) (xs : List A) → plus (f x) (g xs) ≡ g (x ∷ xs)

pub all-counted : {A : Type 0} {f : A → Figures} {g : List A → Figures} → Sums f g → (xs : List (Answer A)) → count_all f xs ≡ map g (all xs)
unfolding count_all all
all-counted s [] = ap value (sym s.empty)
all-counted {A} {f} {g} s (x ∷ xs) = ap (λ (y : Answer Figures). map f x ⊕ y) (all-counted s xs) ∙ by x (all xs)
  where
    by : (x : Answer A) (y : Answer (List A)) → map f x ⊕ map g y ≡ map g (and_then x y)
    by (value a) (value rest) = ap value (s.more a rest)
    by (value a) (refused n) = refl
    by (refused n) y = refl
