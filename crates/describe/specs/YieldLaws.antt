-- What the cursors over functions, variables and parameters yield: no more than they have remaining, and records that are held,
-- so that `field_is` of `FieldLaws` says their fields. Assumes nothing.
use Rattle.std.proofs.Math.Path.{◌≡◌, refl, ap}
use Rattle.std.proofs.Common.{◌∙◌}
use mathlib.Core.List.{List, [], ◌∷◌}
use Prim.Native.Nat.{ℕ, zero, suc, ◌+◌, ◌≤◌}
use native.Mathlib.Omega.{arith}
use Rattle.std.specs.Prelude.{eqb}
use Rattle.std.proofs.Math.ListN.{length}
use Rattle.util.specs.Read.{cond-elim}
use Rattle.records.specs.declared.answer.Place.{Place}
use Rattle.records.specs.Answer.{Answer, value, refused}
use Rattle.records.specs.Layout.{size_of, func_record, var_record, parameter_info}
use Rattle.records.specs.RecordLaws.{Holds}
use Rattle.cursors.specs.declared.iterators.FuncCursor.{FuncCursor}
use Rattle.cursors.specs.declared.iterators.VarCursor.{VarCursor}
use Rattle.cursors.specs.declared.iterators.ParamCursor.{ParamCursor}
use Rattle.typelib.specs.Tables.{lent}
use Rattle.typelib.specs.TableLaws.{lent_fits}
use Rattle.cursors.specs.Numbers.{item, Step, yielded, ended}
use Rattle.cursors.specs.Cursors.{BlockAt, over_funcs, over_vars, over_params, record_at, block_next, fixed_at, func_step, var_step, param_at, param_next, param_step}
use Rattle.cursors.specs.CursorLaws.{recorded, fixed, lent-value}
use Rattle.cursors.specs.NumberLaws.{Lessens, by-item, step-yields, func-takes, var-takes, param-takes}
use Rattle.description.specs.Format.{Each}
use Rattle.describe.specs.Members.{onward, yields, func_records, var_records, param_records}

-- ---- any step

module _ {C : Type 0} (step : C → Step Place C) where
  pub yields-most : (n : ℕ) (c : C) → length (yields step n c) ≤ n
  unfolding yields
  yields-most zero c = omega arith
  yields-most (suc n) c = by (step c) (yields-most n)
    where
      by : (t : Step Place C) → ((d : C) → length (yields step n d) ≤ n) → length (onward (yields step n) t) ≤ suc n
      by (yielded p k d) ih = omega (arith, ih d)
      by (ended m d) ih = omega arith

  pub yields_each : (Q : Place → Type 0) → ((c d : C) (p : Place) (k : ℕ) → yielded p k d ≡ step c → Q p) → (n : ℕ) (c : C) → Each Q (yields step n c)
  unfolding yields
  yields_each Q h zero c = tt
  yields_each Q h (suc n) c = by (step c) refl (yields_each Q h n)
    where
      by : (t : Step Place C) → t ≡ step c → ((d : C) → Each Q (yields step n d)) → Each Q (onward (yields step n) t)
      by (yielded p k d) e ih = (h c d p k e, ih d)
      by (ended m d) e ih = tt

-- A step that yields only where something is left, and leaves one less, yields as many records as are left, or fewer.
module _ {C : Type 0} (step : C → Step Place C) (left : C → ℕ) (lessens : (c d : C) (p : Place) (k : ℕ) → yielded p k d ≡ step c → Lessens left c d) where
  one_more : (n : ℕ) (c : C) → left c ≤ n → yields step (suc n) c ≡ yields step n c
  unfolding yields
  one_more zero c h = by (step c) refl
    where
      by : (t : Step Place C) → t ≡ step c → onward (yields step 0) t ≡ []
      by (yielded p k d) e = absurd (omega (arith, (lessens c d p k e).some))
      by (ended m d) e = refl
  one_more (suc n) c h = by (step c) refl (one_more n)
    where
      by : (t : Step Place C) → t ≡ step c → ((d : C) → left d ≤ n → yields step (suc n) d ≡ yields step n d)
          → onward (yields step (suc n)) t ≡ onward (yields step n) t
      by (yielded p k d) e ih = let l = lessens c d p k e in ap (λ ps. p ∷ ps) (ih d (omega (arith, l.some, l.fewer)))
      by (ended m d) e ih = refl

  pub yields-all : (k : ℕ) (c : C) → yields step (left c + k) c ≡ yields step (left c) c
  yields-all zero c = ap (λ (n : ℕ). yields step n c) (omega arith)
  yields-all (suc k) c =
      let q : left c + suc k ≡ suc (left c + k) = omega arith in
      ap (λ (n : ℕ). yields step n c) q ∙ one_more (left c + k) c (omega arith) ∙ yields-all k c

-- ---- the steps of functions, variables and parameters

-- the record is held, and one less is left
pub record Yielded {C : Type 0} (s : List ℕ) (size : ℕ) (left : C → ℕ) (c d : C) (p : Place) : Type 0 where
  pub lessens : Lessens left c d
  pub holds : Holds s p.at p.len size

module _ (s : List ℕ) where
  param-holds : (d : BlockAt) (p : Place) → value p ≡ lent s (param_at s d) → Holds s p.at p.len (size_of parameter_info)
  unfolding param_at
  param-holds d p e =
      let v = lent-value s p (param_at s d) e in
      cond-elim (λ (a : Answer Place). value p ≡ a → Holds s p.at p.len 12) (eqb d.remaining 0) _ _
      (λ _ f. absurd (let z : ◌≡◌ {A = ℕ} 0 1 = cc in omega arith))
      (λ _ f.
      let x = fixed s d.pos d.end 12 p (lent_fits s (fixed_at s d.pos d.end 12) (value p) v.few f) in
      record { few = v.few; whole = omega (arith, x.whole); inside = omega (arith, x.start, x.whole, x.inside) })
      v.is

  block_held : (least : ℕ) (d e : BlockAt) (p : Place) → item p e ≡ block_next least s d → Holds s p.at p.len least
  block_held least d e p =
      by-item (λ q _. Holds s q.at q.len least) d _ _ (lent s (record_at s d.pos d.end d.remaining least)) (λ n h.
      let r = recorded s d.pos d.end d.remaining least n h in
      record { few = (lent-value s n _ h).few; whole = r.whole; inside = r.within }) p e

  pub func-yielded : (c d : FuncCursor) (p : Place) (k : ℕ) → yielded p k d ≡ func_step s c → Yielded s (size_of func_record) (λ x. x.remaining) c d p
  func-yielded c d p k e =
      record {
        lessens = func-takes.takes {s = s} e;
        holds = block_held (size_of func_record) (over_funcs.stands c) (over_funcs.stands d) p (step-yields over_funcs (block_next (size_of func_record) s) c d p k e).found;
      }

  pub var-yielded : (c d : VarCursor) (p : Place) (k : ℕ) → yielded p k d ≡ var_step s c → Yielded s (size_of var_record) (λ x. x.remaining) c d p
  var-yielded c d p k e =
      record {
        lessens = var-takes.takes {s = s} e;
        holds = block_held (size_of var_record) (over_vars.stands c) (over_vars.stands d) p (step-yields over_vars (block_next (size_of var_record) s) c d p k e).found;
      }

  pub param-yielded : (c d : ParamCursor) (p : Place) (k : ℕ) → yielded p k d ≡ param_step s c → Yielded s (size_of parameter_info) (λ x. x.remaining) c d p
  param-yielded c d p k e =
      record {
        lessens = param-takes.takes {s = s} e;
        holds = by-item (λ q _. Holds s q.at q.len 12) (over_params.stands c) _ _ (lent s (param_at s (over_params.stands c)))
            (param-holds (over_params.stands c)) p (over_params.stands d) (step-yields over_params (param_next s) c d p k e).found;
      }

  -- ---- all records are yielded

  pub funcs-all : (k : ℕ) (c : FuncCursor) → yields (func_step s) (c.remaining + k) c ≡ yields (func_step s) c.remaining c
  funcs-all = yields-all (func_step s) (λ c. c.remaining) (λ c d p k e. (func-yielded c d p k e).lessens)

  pub vars-all : (k : ℕ) (c : VarCursor) → yields (var_step s) (c.remaining + k) c ≡ yields (var_step s) c.remaining c
  vars-all = yields-all (var_step s) (λ c. c.remaining) (λ c d p k e. (var-yielded c d p k e).lessens)

  pub params-all : (k : ℕ) (c : ParamCursor) → yields (param_step s) (c.remaining + k) c ≡ yields (param_step s) c.remaining c
  params-all = yields-all (param_step s) (λ c. c.remaining) (λ c d p k e. (param-yielded c d p k e).lessens)

  -- ---- and each is held

  pub funcs-held : (a : Answer FuncCursor) → Each (λ p. Holds s p.at p.len (size_of func_record)) (func_records s a)
  unfolding func_records
  funcs-held (value c) = yields_each (func_step s) _ (λ c d p k e. (func-yielded c d p k e).holds) c.remaining c
  funcs-held (refused n) = tt

  pub vars-held : (a : Answer VarCursor) → Each (λ p. Holds s p.at p.len (size_of var_record)) (var_records s a)
  unfolding var_records
  vars-held (value c) = yields_each (var_step s) _ (λ c d p k e. (var-yielded c d p k e).holds) c.remaining c
  vars-held (refused n) = tt

  pub params-held : (a : Answer ParamCursor) → Each (λ p. Holds s p.at p.len (size_of parameter_info)) (param_records s a)
  unfolding param_records
  params-held (value c) = yields_each (param_step s) _ (λ c d p k e. (param-yielded c d p k e).holds) c.remaining c
  params-held (refused n) = tt
