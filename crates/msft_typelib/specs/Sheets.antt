-- The sheet call for C, demand 3 over two of them, and the figures call beside it. Assumes nothing.
use Rattle.std.proofs.Math.Path.{◌≡◌, refl, ap}
use Rattle.std.proofs.Common.{sym, ◌∙◌, append_assoc, arith, length-append, take_at, lt-ltb}
use Rattle.std.specs.Prelude.{List, ◌++◌, ◌↔◌, ℕ, zero, suc, ◌^◌, ℤ, pos, leb, take, drop}
use Rattle.std.proofs.Math.ListN.{length}
use Rattle.util.specs.Read.{cond-elim}
use Rattle.records.specs.Answer.{Answer, value, refused, map}
use Rattle.texts.specs.Text.{fitted, fronted}
use Rattle.description.specs.Description.{Bytes}
use Rattle.description.specs.Figures.{Figures}
use Rattle.description.specs.Format.{le_bytes, length-le_bytes}
use Rattle.description.specs.Sheet.{edition-one}
use Rattle.describe.specs.Values.{Octets}
use Rattle.describe.specs.Describe.{describe}
use Rattle.describe.specs.Call.{Call, sheet_of, written}
use Rattle.describe.specs.Demand3.{success, demand-3}
use Rattle.describe.specs.Figures.{promised}
use Rattle.describe.specs.Refusals.{refusal-listed}
use Rattle.replies.specs.Call.{reply, Outcome, outcome, laid}
use Rattle.replies.specs.Written.{below}
use Rattle.rows.specs.Values.{figures}
use Rattle.msft_typelib.specs.Rows.{figures_row}

-- how many bytes the sheet has, or minus the number of the refusal; and the output with the sheet at its front, or as it was
unfoldable pub sheeted : List ℕ → List ℕ → Outcome
sheeted s o = outcome (reply (map length (sheet_of edition-one s (length o)))) (written o (sheet_of edition-one s (length o)))

-- a call over the library's bytes s and an output that held o, which replied z and left o'; the bytes that it was lent are octets
pub record Sheeted (s o : List ℕ) (z : ℤ) (o' : List ℕ) : Type 0 where
  pub is : outcome z o' ≡ sheeted s o
  pub octets : Octets s

module _ {s o o' : List ℕ} where
  short : (a : Answer ℕ) → Call edition-one s o a o' → map (below (2 ^ 63)) a ≡ a
  short (value n) c = rw (lt-ltb n (2 ^ 63) (omega (arith, (success c {n = n} refl).most)))
  short (refused n) c = refl

  -- a sheet call's reply as a number
  pub sheet-told : (a : Answer ℕ) {z : ℤ} → Call edition-one s o a o' → z ≡ reply (map (below (2 ^ 63)) a) → Sheeted s o z o'
  unfolding sheeted
  sheet-told a {z} c e =
      let replied = ap (λ (k : ℤ). outcome k o') (e ∙ ap reply (short a c ∙ c.replies)) in
      record { is = replied ∙ ap (outcome (reply (map length (sheet_of edition-one s (length o))))) c.leaves; octets = c.octets }

  -- a call that replied a number, and not minus one, wrote so many bytes: no refusal has the number 0
  wrote_by : {n : ℕ} → Octets s → (x : Answer Bytes) → sheet_of edition-one s (length o) ≡ x
      → outcome (pos n) o' ≡ outcome (reply (map length x)) (written o x) → Call edition-one s o (value n) o'
  unfolding reply
  wrote_by {n} octets (value bs) e h =
      let k : n ≡ length bs = cc in
      let w : o' ≡ written o (value bs) = cc in
      record { replies = ap value k ∙ ap (map length) (sym e); leaves = w ∙ ap (written o) (sym e); octets = octets }
  wrote_by {n} octets (refused zero) e h =
      let w : o' ≡ written o (refused 0) = cc in
      let c : Call edition-one s o (refused 0) o' = record { replies = ap (map length) (sym e); leaves = w ∙ ap (written o) (sym e); octets = octets } in
      absurd (refusal-listed edition-one s c)
  wrote_by {n} octets (refused (suc m)) e h = let z : ◌≡◌ {A = ℕ} 0 1 = cc in absurd (omega arith)

  wrote : {n : ℕ} → Sheeted s o (pos n) o' → Call edition-one s o (value n) o'
  unfolding sheeted
  wrote c = wrote_by c.octets (sheet_of edition-one s (length o)) refl c.is

-- DEMAND 3 AS C SEES IT: of two calls that wrote a sheet, each replying its length, the sheets have one length and equal bytes exactly
-- if the descriptions of the two libraries are the same
pub demand-3-for-c : {s₁ s₂ o₁ o₂ o₁' o₂' : List ℕ} {n₁ n₂ : ℕ} → Sheeted s₁ o₁ (pos n₁) o₁' → Sheeted s₂ o₂ (pos n₂) o₂'
    → ((n₁ ≡ n₂) × (take n₁ o₁' ≡ take n₂ o₂')) ↔ (describe edition-one s₁ ≡ describe edition-one s₂)
demand-3-for-c c₁ c₂ = demand-3 (wrote c₁) (wrote c₂) refl refl

-- ---- the figures, as C sees them

-- the five words of a library that has figures
laid-figures : (f : Figures) (q : List ℕ) {q' : List ℕ} {k : ℕ} → outcome (pos k) q' ≡ laid (value (figures f)) q → (k ≡ 20) × (take 4 q' ≡ le_bytes 4 f.length)
unfolding laid fitted fronted reply
laid-figures f q {q'} {k} =
    let bs : List ℕ = figures f in
    let rest : List ℕ = le_bytes 4 f.functions ++ (le_bytes 4 f.parameters ++ (le_bytes 4 f.variables ++ le_bytes 4 f.references)) in
    let twenty : length bs ≡ 20 = simp (length-append, length-le_bytes) in
    cond-elim (λ (a : Answer (List ℕ)). outcome (pos k) q' ≡ outcome (reply (map length a)) (fronted a q) → (k ≡ 20) × (take 4 q' ≡ le_bytes 4 f.length))
    (leb (length bs) (length q)) (value bs) (refused 12)
    (λ _ h.
    let e : k ≡ length bs = cc in
    let w : q' ≡ bs ++ drop (length bs) q = cc in
    (e ∙ twenty, ap (take 4) (w ∙ append_assoc (le_bytes 4 f.length) rest (drop (length bs) q)) ∙ take_at (le_bytes 4 f.length) (rest ++ drop (length bs) q) 4 (length-le_bytes 4 f.length)))
    (λ _ h. absurd (let z : ◌≡◌ {A = ℕ} 0 1 = cc in omega arith))

-- WHAT C IS PROMISED: where msft_sheet replied n and msft_sheet_figures of the same library replied k, k is 20 and the first of the five
-- words is n, whatever the two outputs
pub promised-for-c : (q : List ℕ) {s o o' q' : List ℕ} {n k : ℕ} → Sheeted s o (pos n) o' → outcome (pos k) q' ≡ laid (figures_row s) q → (k ≡ 20) × (take 4 q' ≡ le_bytes 4 n)
promised-for-c q {s} {o} {o'} {q'} {n} {k} c h =
    let p = promised (wrote c) refl refl in
    let f : Figures = p.figures in
    let e : outcome (pos k) q' ≡ laid (value (figures f)) q = h ∙ ap (λ (a : Answer Figures). laid (map figures a) q) p.is in
    let w = laid-figures f q e in
    (w.0, w.1 ∙ ap (le_bytes 4) p.length)
