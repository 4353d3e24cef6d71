-- THE FIGURES OF A LIBRARY'S SHEET, before it is made (document 02, §5), from its description; and how the call that gives them stands to
-- the sheet call. Assumes nothing.
use Rattle.std.proofs.Math.Path.{◌≡◌, sym, ap}
use Rattle.std.specs.Prelude.{refl, ◌↔◌, ◌&&◌, List, ℕ, ◌≤◌, ◌<◌, min}
use Rattle.std.proofs.Common.{◌∙◌, arith}
use Rattle.std.proofs.Math.Dec.{leb}
use Rattle.std.proofs.Math.ListN.{length}
use borrow.Author.Tests.{le-leb}
use Rattle.util.specs.Read.{cond-elim}
use Rattle.records.specs.Answer.{Answer, value, refused, map, bind}
use Rattle.records.specs.Record.{limit}
use Rattle.description.specs.Description.{Bytes, Library}
use Rattle.description.specs.Figures.{Figures, figures_in}
use Rattle.description.specs.Sheet.{Edition, sheet_bytes}
use Rattle.describe.specs.Answers.{answers-refused}
use Rattle.describe.specs.Describe.{describe}
use Rattle.describe.specs.Call.{within, sheet_of, Call}
use Rattle.describe.specs.Demand3.{success, refusal}
use Rattle.describe.specs.Refusals.{describe-sound, no-space}

-- the figures of its description, or the refusal that it has instead of one
unfoldable pub figures_of : Edition → List ℕ → Answer Figures
figures_of e s = map (figures_in e) (describe e s)

-- ---- "The call refuses as the sheet would, except that 12 can't occur."

module _ (e : Edition) (s : List ℕ) (room n : ℕ) where
  never-twelve : describe e s ≡ refused n → n ≡ 12 → ⊥
  never-twelve h q = rw q at (answers-refused (describe-sound e s) h)

  refused-by : (a : Answer Library) → map (figures_in e) a ≡ refused n → a ≡ refused n
  refused-by (value d) h = absurd (let z : ◌≡◌ {A = ℕ} 0 1 = cc in omega arith)
  refused-by (refused m) h = let z : m ≡ n = cc in ap refused z

  within-refused : (bs : Bytes) → within room bs ≡ refused n → n ≡ 12
  unfolding within
  within-refused bs =
      cond-elim (λ (x : Answer Bytes). x ≡ refused n → n ≡ 12) (leb (length bs) limit && leb (length bs) room) (value bs) (refused 12)
      (λ _ h. absurd (let z : ◌≡◌ {A = ℕ} 0 1 = cc in omega arith)) (λ _ h. let z : 12 ≡ n = cc in sym z)

  sheet-refused : (a : Answer Library) → bind a (λ d. within room (sheet_bytes e d)) ≡ refused n → (n ≡ 12 → ⊥) → a ≡ refused n
  sheet-refused (value d) h k = absurd (k (within-refused (sheet_bytes e d) h))
  sheet-refused (refused m) h k = let z : m ≡ n = cc in ap refused z

  -- THE FIGURES ARE REFUSED exactly as the sheet is, with another number than 12, whatever room there is for it
  pub refuses-as-sheet : (figures_of e s ≡ refused n) ↔ ((sheet_of e s room ≡ refused n) × (n ≡ 12 → ⊥))
  unfolding figures_of sheet_of
  refuses-as-sheet = (
    λ h.
        let k : describe e s ≡ refused n = refused-by (describe e s) h in
        (ap (λ (a : Answer Library). bind a (λ d. within room (sheet_bytes e d))) k, never-twelve k),
    λ h. ap (map (figures_in e)) (sheet-refused (describe e s) h.0 h.1),
  )

-- ---- "Whenever a sheet is written, its length is the figure promised."

-- a library that has figures has a description, of which they are
pub record Described (e : Edition) (s : List ℕ) (f : Figures) : Type 0 where
  pub description : Library
  pub is : describe e s ≡ value description
  pub figures : f ≡ figures_in e description

pub described : (e : Edition) (s : List ℕ) {f : Figures} → figures_of e s ≡ value f → Described e s f
unfolding figures_of
described e s {f} = by (describe e s) refl
  where
    by : (a : Answer Library) → describe e s ≡ a → map (figures_in e) a ≡ value f → Described e s f
    by (value d) k h = let z : f ≡ figures_in e d = cc in record { description = d; is = k; figures = z }
    by (refused n) k h = absurd (let z : ◌≡◌ {A = ℕ} 0 1 = cc in omega arith)

-- the first figure is the length of the description's sheet, as it is given
length-given : (e : Edition) (d : Library) → (figures_in e d).length ≡ min (length (sheet_bytes e d)) 16777217
unfolding figures_in
length-given e d = refl

-- what was promised before a sheet of n bytes was written
pub record Promised (q : Answer Figures) (n : ℕ) : Type 0 where
  pub figures : Figures
  pub is : q ≡ value figures
  pub length : figures.length ≡ n

-- Of a library's bytes s: a sheet call, which was lent an output that held o and replied r, and a figures call, which replied q.
module _ {e : Edition} {s o o' : List ℕ} {r : Answer ℕ} {q : Answer Figures} (c : Call e s o r o') (g : q ≡ figures_of e s) where
  -- A SHEET OF n BYTES WAS PROMISED AS ONE OF n BYTES, whatever the output
  pub promised : {n : ℕ} → r ≡ value n → Promised q n
  unfolding figures_of
  promised {n} h =
      let w = success c h in
      let d : Library = w.description in
      let size : n ≡ length (sheet_bytes e d) = w.size in
      record {
        figures = figures_in e d;
        is = g ∙ ap (map (figures_in e)) w.is;
        length = length-given e d ∙ (omega (arith, size, w.most));
      }

  -- THE TWO CALLS REFUSE ALIKE, but for 12, which a figures call never replies
  pub refused-alike : (n : ℕ) → (q ≡ refused n) ↔ ((r ≡ refused n) × (n ≡ 12 → ⊥))
  refused-alike n =
      let alike = refuses-as-sheet e s (length o) n in (
        λ h. let k = alike.0 (sym g ∙ h) in (c.replies ∙ ap (map length) k.0, k.1),
        λ h. g ∙ alike.1 ((refusal c h.0).1, h.1),
      )

  module _ (f : Figures) (h : q ≡ value f) where
    first : (d : Library) → f ≡ figures_in e d → f.length ≡ min (length (sheet_bytes e d)) 16777217
    first d k = ap (λ (x : Figures). x.length) k ∙ length-given e d

    -- AN OUTPUT OF THAT LENGTH IS ENOUGH: the sheet call writes so many bytes
    pub reserved : f.length ≤ limit → f.length ≤ length o → r ≡ value f.length
    unfolding sheet_of within
    reserved few room =
        let k = described e s (sym g ∙ h) in
        let bs : Bytes = sheet_bytes e k.description in
        let size : length bs ≡ f.length = omega (arith, first k.description k.figures) in
        c.replies
        ∙ ap (λ (a : Answer Library). map length (bind a (λ d. within (length o) (sheet_bytes e d)))) k.is
        ∙ rw (le-leb (length bs) limit (omega (arith, size)), le-leb (length bs) (length o) (omega (arith, size))) (ap value size)

    -- A LENGTH ABOVE 16,777,216: the sheet call replies 12, whatever the output
    pub too_long : limit < f.length → r ≡ refused 12
    too_long many =
        let k = described e s (sym g ∙ h) in
        (no-space e s c).1 (record { description = k.description; is = k.is; long = λ l. absurd (omega (arith, first k.description k.figures, l, many)) })

    -- AN OUTPUT SHORTER THAN THE LENGTH: 12
    pub too_short : length o < f.length → r ≡ refused 12
    too_short few =
        let k = described e s (sym g ∙ h) in
        (no-space e s c).1 (record { description = k.description; is = k.is; long = λ l. omega (arith, first k.description k.figures, few) })
