-- What is counted so far, and what a part adds to it. A part is an answer: what it comes to, or the number of a refusal.
-- Assumes nothing.
use Rattle.std.specs.Prelude.{◌≡◌, refl, [], ◌∷◌, ℕ, ◌+◌, length, take}
use Rattle.std.proofs.Common.{sym, ◌∙◌, append-nil, arith}
use Rattle.std.proofs.Math.Seq.{take-nil}
use Rattle.records.specs.Answer.{Answer, value, refused}
use Rattle.description.specs.Description.{Bytes}
use Rattle.description.specs.Figures.{Figures}
use Rattle.emit.specs.Emit.{Put, At, Refused, put, advance, moved, Laid, Emitted}
use Rattle.sheet_sizes.specs.declared.Count.{Count}
use Rattle.sheet_sizes.specs.declared.Ends.{Ends}

-- ---- a part of which only the length counts

-- r is where an emission of x from the place `to` would end: it is one over an output with no room
abbrev pub Measured : Answer Bytes → ℕ → ℕ → Type 0
Measured x to r = Emitted x (put to) [] (put r) []

-- the place is all: there is nothing to lay in such an output
pub measured : {x : Answer Bytes} {t r : Put} → r ≡ moved t x → Emitted x t [] r []
measured {x} {t} {r} e = record { moves = e; lays = lays x t; spares = refl; keeps = refl }
  where
    lays : (x : Answer Bytes) (t : Put) → Laid t x [] []
    lays (value []) (At p) = λ h k. take-nil (p + 0) ∙ sym (append-nil (take p []) ∙ take-nil p)
    lays (value (b ∷ bs)) (At p) = λ h k. absurd (omega (arith, k))
    lays (refused n) (At p) = tt
    lays (value bs) (Refused m) = tt
    lays (refused n) (Refused m) = tt

-- ---- figures

abbrev pub figures : ℕ → ℕ → ℕ → ℕ → ℕ → Figures
figures n f p v r = record { length = n; functions = f; parameters = p; variables = v; references = r }

abbrev pub none : Figures
none = figures 0 0 0 0 0

-- bytes, of whatever length
abbrev pub sized : Bytes → Answer Figures
sized bs = value (figures (length bs) 0 0 0 0)

abbrev pub plus : Figures → Figures → Figures
plus a b =
    figures (a.length + b.length) (a.functions + b.functions) (a.parameters + b.parameters) (a.variables + b.variables)
    (a.references + b.references)

-- x, and y behind it unless x is a refusal
infixr 20 ◌⊕◌
abbrev pub ◌⊕◌ : Answer Figures → Answer Figures → Answer Figures
value a ⊕ value b = value (plus a b)
value a ⊕ refused n = refused n
refused n ⊕ y = refused n

-- ---- what is counted so far: figures, each stopped one past the limit; or the number of the refusal

pub data Counts : Type 0 where
  So : Figures → Counts
  Stopped : ℕ → Counts

-- with a part behind it; a refusal stays
abbrev pub counted : Counts → Answer Figures → Counts
counted (So a) (value b) =
    So (figures (advance a.length b.length) (advance a.functions b.functions) (advance a.parameters b.parameters)
    (advance a.variables b.variables) (advance a.references b.references))
counted (So a) (refused n) = Stopped n
counted (Stopped m) x = Stopped m

abbrev pub counts_at : Put → ℕ → ℕ → ℕ → ℕ → Counts
counts_at (At n) f p v r = So (figures n f p v r)
counts_at (Refused m) f p v r = Stopped m

-- by the numbers that the code has: the first is a place or a refusal
unfoldable pub counts : ℕ → ℕ → ℕ → ℕ → ℕ → Counts
counts to f p v r = counts_at (put to) f p v r

abbrev pub of : Count → Counts
of c = counts c.to c.functions c.parameters c.variables c.references

-- ---- THE CONTRACTS OF WHAT COUNTS: called at `from`, it counted x and replied r

pub record Counting (x : Answer Figures) (from r : Count) : Type 0 where
  pub is : of r ≡ counted (of from) x

-- the same from nothing
pub record CountingAll (x : Answer Figures) (r : Count) : Type 0 where
  pub is : of r ≡ counted (counts 0 0 0 0 0) x

-- with another place and other references
abbrev pub with : Count → Ends → Count
with c e =
    record { to = e.to; functions = c.functions; parameters = c.parameters; variables = c.variables; references = e.references }

-- the same of a place and references, whatever was counted beside them
pub record Ending (x : Answer Figures) (from r : Ends) : Type 0 where
  pub is : (c : Count) → Counting x (with c from) (with c r)

abbrev pub ends : ℕ → ℕ → Ends
ends to n = record { to = to; references = n }
