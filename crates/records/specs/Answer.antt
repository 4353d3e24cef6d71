-- What a reading answers (document 01, "Numbers of refusal"). Assumes nothing.
use Rattle.std.specs.Prelude.{ℕ, Option, Some, None}

-- a value, or the number of the refusal
pub data Answer (A : Type 0) : Type 0 where
  value : A → Answer A
  refused : ℕ → Answer A

abbrev pub map : {A B : Type 0} → (A → B) → Answer A → Answer B
map f (value a) = value (f a)
map f (refused n) = refused n

-- f goes on from the value
abbrev pub bind : {A B : Type 0} → Answer A → (A → Answer B) → Answer B
bind (value a) f = f a
bind (refused n) f = refused n

-- refusal 9, "nothing there"
abbrev pub or_nine : {A : Type 0} → Option A → Answer A
or_nine (Some a) = value a
or_nine None = refused 9
