-- DEMAND 3: of two sheet calls that wrote a sheet, the sheets have one length and equal bytes exactly if the descriptions of the
-- two libraries are the same; and what a sheet call leaves. Assumes nothing.
use Rattle.std.proofs.Math.Path.{◌≡◌, refl, sym, ap}
use Rattle.std.proofs.Common.{◌∙◌, arith, take_at, drop_at, leb-true}
use Rattle.std.specs.Prelude.{◌↔◌, Bool, true, false, ◌&&◌, List, ℕ, ◌≤◌, take}
use Rattle.std.proofs.Math.Dec.{leb}
use Rattle.std.proofs.Math.ListN.{length, drop}
use Rattle.util.specs.Read.{cond-elim}
use Rattle.records.specs.Answer.{Answer, value, refused, map, bind}
use Rattle.records.specs.Record.{limit}
use Rattle.description.specs.Format.{Fits}
use Rattle.description.specs.Description.{Bytes, Library}
use Rattle.description.specs.Sheet.{Edition, edition-one, sheet, sheet_bytes}
use Rattle.description.proofs.Laws.{sheets-same}
use Rattle.describe.specs.Describe.{describe}
use Rattle.describe.specs.Call.{within, sheet_of, written, Call}
use Rattle.describe.specs.Fit.{Roomy, edition-one-roomy, described-fits}

-- ---- the sheet of a description

-- the bytes are the sheet of the library's description, and short enough
pub record Written (e : Edition) (s : List ℕ) (room : ℕ) (bs : Bytes) : Type 0 where
  pub description : Library
  pub is : describe e s ≡ value description
  pub bytes : bs ≡ sheet_bytes e description
  pub most : length bs ≤ limit
  pub fits : length bs ≤ room

both : (a b : Bool) → (a && b) ≡ true → (a ≡ true) × (b ≡ true)
both true b h = (refl, h)
both false b h = absurd (let z : ◌≡◌ {A = ℕ} 0 1 = cc in omega arith)

module _ (e : Edition) (s : List ℕ) where
  pub sheet-written : (room : ℕ) (bs : Bytes) → sheet_of e s room ≡ value bs → Written e s room bs
  unfolding sheet_of within
  sheet-written room bs = by (describe e s) refl
    where
      by : (a : Answer Library) → describe e s ≡ a → bind a (λ d. within room (sheet_bytes e d)) ≡ value bs → Written e s room bs
      by (value d) h =
          let all : Bytes = sheet_bytes e d in
          cond-elim (λ (x : Answer Bytes). x ≡ value bs → Written e s room bs) (leb (length all) limit && leb (length all) room) (value all) (refused 12)
          (λ t k.
          let q : bs ≡ all = cc in
          let b = both (leb (length all) limit) (leb (length all) room) t in
          record {
            description = d;
            is = h;
            bytes = q;
            most = rw q (leb-true (length all) limit b.0);
            fits = rw q (leb-true (length all) room b.1);
          })
          (λ _ k. absurd (let z : ◌≡◌ {A = ℕ} 0 1 = cc in omega arith))
      by (refused n) h = λ k. absurd (let z : ◌≡◌ {A = ℕ} 0 1 = cc in omega arith)

-- ---- one call

-- A CALL THAT WROTE n BYTES: the library has a description, the bytes are its sheet, they are no more than the limit and the
-- output's length, and the bytes behind them are as they were
pub record Success (e : Edition) (s o : List ℕ) (n : ℕ) (o' : List ℕ) : Type 0 where
  pub description : Library
  pub is : describe e s ≡ value description
  pub size : n ≡ length (sheet_bytes e description)
  pub front : take n o' ≡ sheet_bytes e description
  pub behind : drop n o' ≡ drop n o
  pub most : n ≤ limit
  pub room : n ≤ length o

module _ {e : Edition} {s o o' : List ℕ} {r : Answer ℕ} (c : Call e s o r o') where
  pub success : {n : ℕ} → r ≡ value n → Success e s o n o'
  unfolding written
  success {n} h = by (sheet_of e s (length o)) refl (sym h ∙ c.replies) c.leaves
    where
      by : (x : Answer Bytes) → sheet_of e s (length o) ≡ x → value n ≡ map length x → o' ≡ written o x → Success e s o n o'
      by (value bs) k p q =
          let w = sheet-written e s (length o) bs k in
          let size : length bs ≡ n = cc in
          record {
            description = w.description;
            is = w.is;
            size = sym size ∙ ap length w.bytes;
            front = rw q (take_at bs (drop (length bs) o) n size) ∙ w.bytes;
            behind = rw q (drop_at bs (drop (length bs) o) n size) ∙ ap (λ (m : ℕ). drop m o) size;
            most = omega (arith, w.most);
            room = omega (arith, w.fits);
          }
      by (refused m) k p q = absurd (let z : ◌≡◌ {A = ℕ} 0 1 = cc in omega arith)

  -- A CALL THAT REFUSED leaves the output as it was, and its number is that of the sheet's refusal
  pub refusal : {n : ℕ} → r ≡ refused n → (o' ≡ o) × (sheet_of e s (length o) ≡ refused n)
  unfolding written
  refusal {n} h = by (sheet_of e s (length o)) refl (sym h ∙ c.replies) c.leaves
    where
      by : (x : Answer Bytes) → sheet_of e s (length o) ≡ x → refused n ≡ map length x → o' ≡ written o x → (o' ≡ o) × (x ≡ refused n)
      by (value bs) k p q = absurd (let z : ◌≡◌ {A = ℕ} 0 1 = cc in omega arith)
      by (refused m) k p q = (q, cc)

-- ---- two calls

module _ (e : Edition) (roomy : Roomy e) {s₁ s₂ o₁ o₂ o₁' o₂' : List ℕ} {r₁ r₂ : Answer ℕ} {n₁ n₂ : ℕ}
    (c₁ : Call e s₁ o₁ r₁ o₁') (c₂ : Call e s₂ o₂ r₂ o₂') (h₁ : r₁ ≡ value n₁) (h₂ : r₂ ≡ value n₂) where
  pub demand-3-in : ((n₁ ≡ n₂) × (take n₁ o₁' ≡ take n₂ o₂')) ↔ (describe e s₁ ≡ describe e s₂)
  demand-3-in =
      let x : Success e s₁ o₁ n₁ o₁' = success c₁ h₁ in
      let y : Success e s₂ o₂ n₂ o₂' = success c₂ h₂ in
      let d : Library = x.description in
      let d' : Library = y.description in
      let f : Fits (sheet e) d = described-fits e roomy s₁ c₁.octets d x.is (omega (arith, x.size, x.most)) in
      let f' : Fits (sheet e) d' = described-fits e roomy s₂ c₂.octets d' y.is (omega (arith, y.size, y.most)) in (
        λ p. x.is ∙ ap value ((sheets-same e f f').0 (sym x.size ∙ p.0 ∙ y.size, sym x.front ∙ p.1 ∙ y.front)) ∙ sym y.is,
        λ p.
            let q : d ≡ d' = cc in
            let z = (sheets-same e f f').1 q in
            (x.size ∙ z.0 ∙ sym y.size, x.front ∙ z.1 ∙ sym y.front),
      )

pub demand-3 : {s₁ s₂ o₁ o₂ o₁' o₂' : List ℕ} {r₁ r₂ : Answer ℕ} {n₁ n₂ : ℕ}
    → Call edition-one s₁ o₁ r₁ o₁' → Call edition-one s₂ o₂ r₂ o₂' → r₁ ≡ value n₁ → r₂ ≡ value n₂
    → ((n₁ ≡ n₂) × (take n₁ o₁' ≡ take n₂ o₂')) ↔ (describe edition-one s₁ ≡ describe edition-one s₂)
demand-3 = demand-3-in edition-one edition-one-roomy
