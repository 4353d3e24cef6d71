-- The laws of values laid into an output. Assumes nothing.
use Rattle.std.specs.Prelude.{◌≡◌, List, ◌++◌, ℕ, suc, ◌-◌, ◌%◌, ◌≤◌, ◌<◌, ◌^◌, ℤ, pos, neg_ℤ, leb, length, take, drop}
use Rattle.std.proofs.Common.{sym, ap, ap₂, ◌∙◌, zero-add, arith, length-take-le, to_z, of_z, le-leb}
use Rattle.std.specs.Int.{w64}
use Rattle.std.proofs.lemmas.Bool.{lt-leb}
use Rattle.util.specs.Read.{cond-elim}
use Rattle.records.specs.Answer.{Answer, value, refused}
use Rattle.records.specs.Record.{limit}
use Rattle.texts.specs.Text.{fitted, fronted}
use Rattle.emit.specs.Emit.{Put, At, Refused, past, put}
use Rattle.emit.specs.Laws.{put-at, put_refused}
use Rattle.emit.specs.Emit.{Emitted, moved, advance}
use Rattle.emit.specs.Laws.{advance-within, filled}
use Rattle.rows.specs.RowLaws.{length_of}
use Rattle.replies.specs.Call.{after, reply, Outcome, outcome, laid}
use Rattle.replies.specs.CallLaws.{minus-back, pos-back, after_none, after-some}

never : {A : Type 0} {n m : ℕ} → At n ≡ Refused m → A
never e = let z : ◌≡◌ {A = ℕ} 0 1 = cc in absurd (omega arith)

-- ---- a row that a run from 0 lays

-- the bytes fit, and stand at the output's front
lay-value : (x : Answer (List ℕ)) {n : ℕ} (o : List ℕ) {r : Put} {o' : List ℕ} → length_of x ≤ limit
    → At n ≡ moved (At 0) x → n ≤ length o → n < 2 ^ 63 → Emitted x (At 0) (take n o) r o'
    → outcome (to_z w64 (of_z w64 (to_z w64 n))) (o' ++ drop n o) ≡ laid x o
unfolding laid fitted fronted reply
lay-value (value bs) {n} o {r} {o'} s e h k m =
    let q : advance 0 (length bs) ≡ length bs = advance-within 0 (length bs) (omega arith) ∙ zero-add (length bs) in
    let p : n ≡ advance 0 (length bs) = cc in
    let g : n ≡ length bs = p ∙ q in
    let f : o' ++ drop n o ≡ bs ++ drop (length bs) o = ap₂ (λ (a : List ℕ) (i : ℕ). a ++ drop i o) (filled m s (length-take-le n o h ∙ g)) g in
    rw (le-leb (length bs) (length o) (omega arith)) (ap (λ (z : ℤ). outcome z (o' ++ drop n o)) (pos-back n k ∙ ap pos g) ∙ ap (outcome (pos (length bs))) f)
lay-value (refused i) o s e h k m = never e

-- there is no room for them
lay-short : (x : Answer (List ℕ)) {n : ℕ} (o : List ℕ) {z : ℤ} → length_of x ≤ limit
    → At n ≡ moved (At 0) x → length o < n → z ≡ neg_ℤ (pos 12) → outcome (to_z w64 (of_z w64 (to_z w64 (of_z w64 z)))) o ≡ laid x o
unfolding laid fitted fronted reply
lay-short (value bs) {n} o {z} s e h k =
    let q : advance 0 (length bs) ≡ length bs = advance-within 0 (length bs) (omega arith) ∙ zero-add (length bs) in
    let p : n ≡ advance 0 (length bs) = cc in
    let g : n ≡ length bs = p ∙ q in
    rw (lt-leb (length bs) (length o) (omega arith)) (ap (λ (z : ℤ). outcome z o) (minus-back 12 (omega arith) k))
lay-short (refused i) o s e h k = never e

-- it was refused
lay-refused : (x : Answer (List ℕ)) (n : ℕ) (o : List ℕ) {z : ℤ} → Refused n ≡ moved (At 0) x → n < 256
    → z ≡ neg_ℤ (pos n) → outcome (to_z w64 (of_z w64 (to_z w64 (of_z w64 z)))) o ≡ laid x o
unfolding laid fitted fronted reply
lay-refused (value bs) n o e h k = never (sym e)
lay-refused (refused i) n o e h k =
    let q : n ≡ i = cc in
    ap (λ (z : ℤ). outcome z o) (minus-back n h k ∙ ap (λ (m : ℕ). neg_ℤ (pos m)) q)

-- where a place is, it is within
at-within : (n : ℕ) {p : ℕ} → put n ≡ At p → n ≡ p
unfolding put
at-within n {p} = cond-elim (λ (t : Put). t ≡ At p → n ≡ p) (leb n past) (At n) (Refused ((n - suc past) % 256)) (λ _ e. cc) (λ _ e. never (sym e))

-- `size` is what a run over no output gave
module _ (x : Answer (List ℕ)) (o : List ℕ) (size : ℕ) {a b : List ℕ} (m : Emitted x (put 0) a (put size) b) where
  ran : put size ≡ moved (At 0) x
  ran = m.moves ∙ ap (λ (t : Put). moved t x) (put-at 0 (omega arith))

  pub lay_done : {r : Put} {o' : List ℕ} → length_of x ≤ limit → size ≤ past → size ≤ length o → size < 2 ^ 63 → Emitted x (put 0) (take size o) r o'
      → outcome (to_z w64 (of_z w64 (to_z w64 size))) (o' ++ drop size o) ≡ laid x o
  lay_done l h k j w = lay-value x o l (sym (put-at size h) ∙ ran) k j (rw (put-at 0 (omega arith)) at w)

  pub lay-no-room : {z : ℤ} → length_of x ≤ limit → size ≤ past → length o < size → z ≡ neg_ℤ (pos 12)
      → outcome (to_z w64 (of_z w64 (to_z w64 (of_z w64 z)))) o ≡ laid x o
  lay-no-room l h k e = lay-short x o l (sym (put-at size h) ∙ ran) k e

  pub lay-declined : {z : ℤ} → past < size → z ≡ neg_ℤ (pos ((size - past - 1) % 256))
      → outcome (to_z w64 (of_z w64 (to_z w64 (of_z w64 z)))) o ≡ laid x o
  lay-declined h k =
      let e : (size - past - 1) % 256 ≡ (size - suc past) % 256 = omega arith in
      lay-refused x ((size - past - 1) % 256) o (ap Refused e ∙ sym (put_refused size h) ∙ ran) (omega arith) k

-- the same of a row's bytes, which are short, so that the size is no refusal
module _ (bs : List ℕ) (o : List ℕ) (size : ℕ) {a b : List ℕ} (s : length bs ≤ limit) (m : Emitted (value bs) (put 0) a (put size) b) where
  sized : size ≡ length bs
  sized = at-within size (ran (value bs) o size m) ∙ advance-within 0 (length bs) (omega arith) ∙ zero-add (length bs)

  pub row-done : {r : Put} {o' : List ℕ} → size ≤ length o → size < 2 ^ 63 → Emitted (value bs) (put 0) (take size o) r o'
      → outcome (to_z w64 (of_z w64 (to_z w64 size))) (o' ++ drop size o) ≡ laid (value bs) o
  row-done k j w = lay_done (value bs) o size m s (omega (arith, sized)) k j w

  pub row-no-room : {z : ℤ} → length o < size → z ≡ neg_ℤ (pos 12) → outcome (to_z w64 (of_z w64 (to_z w64 (of_z w64 z)))) o ≡ laid (value bs) o
  row-no-room k e = lay-no-room (value bs) o size m s (omega (arith, sized)) k e

-- a refusal is replied at once
pub row-refused : (n : ℕ) (o : List ℕ) {z : ℤ} → n < 256 → z ≡ neg_ℤ (pos n) → outcome (to_z w64 (of_z w64 (to_z w64 (of_z w64 z)))) o ≡ laid (refused n) o
unfolding laid fitted fronted reply
row-refused n o h k = ap (λ (z : ℤ). outcome z o) (minus-back n h k)

-- ---- behind what was refused before

pub laid-first : (n : ℕ) (x : Answer (List ℕ)) (o : List ℕ) {z : ℤ} → n < 256 → (n ≡ 0 → ⊥) → z ≡ neg_ℤ (pos n)
    → outcome (to_z w64 (of_z w64 (to_z w64 (of_z w64 z)))) o ≡ laid (after n x) o
unfolding laid fitted fronted reply
laid-first n x o h k e = ap (λ (z : ℤ). outcome z o) (minus-back n h e) ∙ ap (λ (a : Answer (List ℕ)). laid a o) (after-some n x k)

pub laid-behind : (n : ℕ) (x : Answer (List ℕ)) (o : List ℕ) {w : Outcome} → n ≡ 0 → w ≡ laid x o → w ≡ laid (after n x) o
laid-behind n x o h e = e ∙ ap (λ (a : Answer (List ℕ)). laid a o) (after_none n x h)
