-- Texts that a reading writes itself. Assumes nothing.
use Rattle.std.specs.Prelude.{◌≡◌, Bool, true, false, cond, List, ℕ, ◌^◌, ◌≤◌, ◌<◌, leb, ltb, ℤ, neg_ℤ}
use Rattle.std.proofs.Math.Path.{refl, ap}
use Rattle.std.proofs.Common.{sym, ◌∙◌, arith, to_z, of_z, lt-ltb, le-ltb, leb-true}
use Rattle.std.proofs.Math.IntN.{pos}
use Rattle.std.proofs.Math.ListN.{length}
use Rattle.std.specs.Int.{w64}
use Rattle.records.specs.Answer.{Answer, value, refused, map}
use Rattle.texts.specs.Text.{fitted, Laid}
use Rattle.replies.specs.Call.{reply, outcome, laid}
use Rattle.replies.specs.CallLaws.{valued, declined}

-- the number, or 0 where it is m or more
abbrev pub below : ℕ → ℕ → ℕ
below m n = cond (ltb n m) n 0

module _ (o : List ℕ) (h : length o < 2 ^ 63) where
  -- a length within the output is below 2 ^ 63
  room : (t : List ℕ) (b : Bool) → leb (length t) (length o) ≡ b
      → map (below (2 ^ 63)) (map length (cond b (value t) (refused 12))) ≡ map length (cond b (value t) (refused 12))
  room t true k = rw (lt-ltb (length t) (2 ^ 63) (omega (arith, leb-true (length t) (length o) k)))
  room t false k = refl

  small : (x : Answer (List ℕ)) → map (below (2 ^ 63)) (map length (fitted x o)) ≡ map length (fitted x o)
  unfolding fitted
  small (value t) = room t (leb (length t) (length o)) refl
  small (refused n) = refl

  -- what a reading wrote is laid into the output
  pub written : (x : Answer (List ℕ)) {a : Answer ℕ} {z : ℤ} {o' : List ℕ} → Laid x o a o' → z ≡ reply (map (below (2 ^ 63)) a)
      → outcome z o' ≡ laid x o
  unfolding laid
  written x {a} {z} {o'} l e =
      ap (λ (k : ℤ). outcome k o') (e ∙ ap (λ (b : Answer ℕ). reply (map (below (2 ^ 63)) b)) l.replies ∙ ap reply (small x))
      ∙ ap (outcome (reply (map length (fitted x o)))) l.leaves

-- ---- the reply for what was written

module _ {E : Type 0} (told : E → Answer ℕ) {a e : E} {n : ℕ} where
  pub counted : n < 2 ^ 63 → a ≡ e → value n ≡ told e → to_z w64 (of_z w64 (to_z w64 n)) ≡ reply (map (below (2 ^ 63)) (told a))
  counted h g k =
      let q : below (2 ^ 63) n ≡ n = rw (lt-ltb n (2 ^ 63) h) in
      valued (λ b. map (below (2 ^ 63)) (told b)) h g (ap value (sym q) ∙ ap (map (below (2 ^ 63))) k)

  pub uncounted : 2 ^ 63 ≤ n → a ≡ e → value n ≡ told e → pos 0 ≡ reply (map (below (2 ^ 63)) (told a))
  unfolding reply
  uncounted h g k =
      let q : below (2 ^ 63) n ≡ 0 = rw (le-ltb n (2 ^ 63) h) in
      ap pos (sym q) ∙ ap (λ (x : Answer ℕ). reply (map (below (2 ^ 63)) x)) (k ∙ ap told (sym g))

  pub unwritten : {z : ℤ} → n < 256 → a ≡ e → refused n ≡ told e → z ≡ neg_ℤ (pos n)
      → to_z w64 (of_z w64 (to_z w64 (of_z w64 z))) ≡ reply (map (below (2 ^ 63)) (told a))
  unwritten h g k m = declined (λ b. map (below (2 ^ 63)) (told b)) h g (ap (map (below (2 ^ 63))) k) m
