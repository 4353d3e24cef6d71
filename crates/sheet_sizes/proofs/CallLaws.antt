-- The figures call: it parses, counts, and gives what it counted. Assumes nothing.
use mathlib.Core.Path.{◌≡◌, sym, ap, ◌∙◌}
use mathlib.Core.List.{List}
use Prim.Native.Nat.{ℕ, suc, ◌-◌, ◌%◌, ◌≤◌, ◌<◌, min}
use native.Mathlib.Omega.{arith}
use borrow.Author.Tests.{lt-ltb, le-ltb}
use Rattle.records.specs.Answer.{Answer, value, refused, map}
use Rattle.records.specs.declared.answer.Refusal.{Refusal}
use Rattle.records.specs.Told.{refusal_number}
use Rattle.typelib.specs.declared.TypeLib.{TypeLib}
use Rattle.typelib.specs.Header.{parse_of, type_count}
use Rattle.description.specs.Description.{Library}
use Rattle.description.specs.Figures.{Figures, counted_in, figures_in}
use Rattle.description.specs.Sheet.{edition-one}
use Rattle.describe.specs.Describe.{header_of, types_of, describe_as, describe}
use Rattle.describe.specs.Figures.{figures_of}
use Rattle.describe.specs.Refusals.{describe-sound}
use Rattle.emit.specs.Emit.{Refused, past, put, advance}
use Rattle.emit.specs.Laws.{put-at, put_refused}
use Rattle.sheet_sizes.specs.declared.Count.{Count}
use Rattle.sheet_sizes.specs.Counts.{figures, Counts, So, Stopped, counted, counts, of, CountingAll}
use Rattle.sheet_sizes.specs.Counted.{library_counted}
use Rattle.sheet_sizes.proofs.RefusalLaws.{same-number}

-- ---- what was counted, as it is given

-- each count fits in 32 bits, and they are the figures
pub record Given (c : Count) (a : Answer Figures) : Type 0 where
  pub functions : c.functions ≤ past
  pub parameters : c.parameters ≤ past
  pub variables : c.variables ≤ past
  pub references : c.references ≤ past
  pub is : value (figures c.to c.functions c.parameters c.variables c.references) ≡ a

from_nothing : (n : ℕ) → advance 0 n ≡ min n 16777217
unfolding advance
from_nothing n = omega arith

module _ (c : Count) where
  place : c.to ≤ past → of c ≡ So (figures c.to c.functions c.parameters c.variables c.references)
  unfolding counts
  place h = rw (put-at c.to h)

  stopped : past < c.to → of c ≡ Stopped ((c.to - suc past) % 256)
  unfolding counts
  stopped h = rw (put_refused c.to h)

  start : counts 0 0 0 0 0 ≡ So (figures 0 0 0 0 0)
  unfolding counts
  start = let z : 0 ≤ past = omega arith in rw (put-at 0 z)

  given_by : c.to ≤ past → (y : Answer Library) → of c ≡ counted (So (figures 0 0 0 0 0)) (map (counted_in edition-one) y) → Given c (map (figures_in edition-one) y)
  unfolding figures_in
  given_by h (value d) e =
      let k : Figures = counted_in edition-one d in
      let q : So (figures c.to c.functions c.parameters c.variables c.references) ≡ So (figures (advance 0 k.length) (advance 0 k.functions) (advance 0 k.parameters) (advance 0 k.variables) (advance 0 k.references)) = sym (place h) ∙ e in
      let g : figures c.to c.functions c.parameters c.variables c.references ≡ figures (advance 0 k.length) (advance 0 k.functions) (advance 0 k.parameters) (advance 0 k.variables) (advance 0 k.references) = cc in
      let f = ap (λ (x : Figures). x.functions) g ∙ from_nothing k.functions in
      let p = ap (λ (x : Figures). x.parameters) g ∙ from_nothing k.parameters in
      let v = ap (λ (x : Figures). x.variables) g ∙ from_nothing k.variables in
      let r = ap (λ (x : Figures). x.references) g ∙ from_nothing k.references in
      record {
        functions = omega (arith, f);
        parameters = omega (arith, p);
        variables = omega (arith, v);
        references = omega (arith, r);
        is = ap value (g ∙ rw (from_nothing k.length, from_nothing k.functions, from_nothing k.parameters, from_nothing k.variables, from_nothing k.references));
      }
  given_by h (refused n) e = let q : So (figures c.to c.functions c.parameters c.variables c.references) ≡ Stopped n = sym (place h) ∙ e in absurd (let z : ◌≡◌ {A = ℕ} 0 1 = cc in omega arith)

  refused-by : (s : List ℕ) {r : Refusal} → past < c.to → ((e : Refusal) → put c.to ≡ Refused (refusal_number e) → r ≡ e)
      → (y : Answer Library) → describe edition-one s ≡ y → of c ≡ counted (So (figures 0 0 0 0 0)) (map (counted_in edition-one) y)
      → refused (refusal_number r) ≡ map (figures_in edition-one) y
  refused-by s h f (value d) g e = absurd (let q = sym (stopped h) ∙ e in let z : ◌≡◌ {A = ℕ} 0 1 = cc in omega arith)
  refused-by s h f (refused n) g e =
      let q : Stopped ((c.to - suc past) % 256) ≡ Stopped n = sym (stopped h) ∙ e in
      let z : (c.to - suc past) % 256 ≡ n = cc in
      ap refused (same-number c.to (describe-sound edition-one s) g (put_refused c.to h ∙ ap Refused z) f)

-- ---- the call

module _ (s : List ℕ) where
  pub figures-refused : {n : ℕ} → refused n ≡ parse_of s → refused n ≡ figures_of edition-one s
  unfolding figures_of describe
  figures-refused e = rw (← e)

  module _ {lib : TypeLib} (e : value lib ≡ parse_of s) where
    pub figures-many : 65535 < type_count lib → refused 13 ≡ figures_of edition-one s
    unfolding figures_of describe describe_as
    figures-many h = rw (← e, lt-ltb 65535 (type_count lib) h)

    module _ (few : type_count lib ≤ 65535) {c : Count} (k : CountingAll (library_counted s lib) c) where
      abbrev library-of : Answer Library
      library-of = map (λ types. record { header = header_of s lib; types = types }) (types_of s lib)

      described : describe edition-one s ≡ library-of
      unfolding describe describe_as
      described = rw (← e, le-ltb 65535 (type_count lib) few)

      from_start : of c ≡ counted (So (figures 0 0 0 0 0)) (map (counted_in edition-one) library-of)
      unfolding library_counted
      from_start = k.is ∙ ap (λ (t : Counts). counted t (map (counted_in edition-one) library-of)) (start c)

      pub figures-stopped : {r : Refusal} → past < c.to → ((e : Refusal) → put c.to ≡ Refused (refusal_number e) → r ≡ e)
          → refused (refusal_number r) ≡ figures_of edition-one s
      unfolding figures_of
      figures-stopped h f = refused-by c s h f library-of described from_start ∙ ap (map (figures_in edition-one)) (sym described)

      pub figures-given : c.to ≤ past → Given c (figures_of edition-one s)
      unfolding figures_of
      figures-given h = rw (← described) at (given_by c h library-of from_start)
