-- How an answer follows from the answer it is made of, a law for each case. Assumes nothing.
use Rattle.std.specs.Prelude.{◌≡◌, Bool, true, false, cond, ℕ}
use Rattle.std.proofs.Common.{sym, ◌∙◌, ap}
use Rattle.records.specs.Answer.{Answer, value, refused, map, bind}

module _ {A B : Type 0} where
  pub map-value : (f : A → B) (a : Answer A) (x : A) (y : B) → value x ≡ a → y ≡ f x → value y ≡ map f a
  map-value f a x y e h = ap value h ∙ ap (map f) e

  pub map-refused : (f : A → B) (a : Answer A) (n : ℕ) → refused n ≡ a → refused n ≡ map f a
  map-refused f a n e = ap (map f) e

  pub bind-value : (f : A → Answer B) (a : Answer A) (x : A) (r : Answer B) → value x ≡ a → r ≡ f x → r ≡ bind a f
  bind-value f a x r e h = h ∙ ap (λ (b : Answer A). bind b f) e

  pub bind-refused : (f : A → Answer B) (a : Answer A) (n : ℕ) → refused n ≡ a → refused n ≡ bind a f
  bind-refused f a n e = ap (λ (b : Answer A). bind b f) e

-- an answer that a match took apart tells what the call promised
pub tells : {E A : Type 0} (told : E → A) {r e : E} {a : A} → r ≡ e → told r ≡ a → told e ≡ a
tells told h k = sym (ap told h) ∙ k

-- a test that was passed, and one that was not
pub when_true : {A : Type 0} (b : Bool) (x y r : A) → b ≡ true → r ≡ x → r ≡ cond b x y
when_true b x y r h e = rw h e

pub when_false : {A : Type 0} (b : Bool) (x y r : A) → b ≡ false → r ≡ y → r ≡ cond b x y
when_false b x y r h e = rw h e
