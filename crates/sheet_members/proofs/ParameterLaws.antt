-- The parameters that a cursor yields lie one behind the other in the function's record. Assumes nothing.
use Rattle.typelib.specs.Header.{type_count}
use Rattle.std.specs.Prelude.{◌≡◌, refl, List, [], ℕ, zero, suc, ◌+◌, ◌-◌, ◌*◌, ◌≤◌, ◌<◌, ltb, length}
use Rattle.std.proofs.Common.{sym, ap, ◌∙◌, arith, ltb-false}
use Rattle.util.specs.Read.{cond-elim}
use Rattle.records.specs.declared.answer.Place.{Place}
use Rattle.member_records.specs.declared.func.FuncRecord.{FuncRecord}
use Rattle.records.specs.Answer.{Answer, value, map}
use Rattle.records.specs.Attributes.{argument_count}
use Rattle.records.specs.Record.{held}
use Rattle.records.specs.RecordLaws.{Holds, holds}
use Rattle.typelib.specs.declared.TypeLib.{TypeLib}
use Rattle.typelib.specs.Tables.{lent}
use Rattle.typelib.specs.TableLaws.{lent_fits}
use Rattle.cursors.specs.declared.iterators.ParamCursor.{ParamCursor}
use Rattle.cursors.specs.Numbers.{number_of, Step, yielded}
use Rattle.cursors.specs.NumberLaws.{number-next, step-found, param-takes}
use Rattle.cursors.specs.Cursors.{BlockAt, over_params, fixed_at, param_cursor, params_of, param_at, param_next_from, param_next, param_step}
use Rattle.cursors.specs.CursorLaws.{fixed-there, param-some}
use Rattle.description.specs.Format.{encode}
use Rattle.description.specs.Description.{Bytes}
use Rattle.description.specs.Sheet.{edition-one, parameter}
use Rattle.describe.specs.Answers.{IfValue, told, anything, answers-bind, answers-map, answers-value}
use Rattle.describe.specs.Values.{numbered}
use Rattle.describe.specs.Members.{onward, yields, parameter_of}
use Rattle.emit.specs.Emit.{◌▸◌}
use Rattle.sheet_members.specs.Lists.{lay_all, laid_more}
use Rattle.sheet_members.specs.Room.{Room}

module _ (s : List ℕ) where
  cursor_room : (p : Place) (n : ℕ) → Holds s p.at p.len 24 → Room s (param_cursor p n)
  unfolding param_cursor
  cursor_room p n h =
      cond-elim (Room s) (ltb p.len (12 * n)) _ _
      (λ _. record { few = h.few; first = refl; whole = omega arith; inside = omega arith })
      (λ k. record { few = h.few; first = refl; whole = omega (arith, ltb-false p.len (12 * n) k); inside = h.inside })

  params-room : (f : FuncRecord) → IfValue (Room s) (params_of s f)
  params-room f =
      answers-bind
      (answers-map (λ _. record { at = f.at; len = f.len }) (told (held s f.at f.len 24) (λ u e. holds s f.at f.len 24 e)) (λ u h. h))
      (λ p h. answers-map (param_cursor p) (anything (argument_count s f.at f.len)) (λ n _. cursor_room p n h))

  pub room : (f : FuncRecord) {a : Answer ParamCursor} {c : ParamCursor} → a ≡ params_of s f → a ≡ value c → Room s c
  room f e g = answers-value (params-room f) (sym e ∙ g)

  module _ (c : ParamCursor) where
    -- the cursor after i steps
    abbrev pub after : ℕ → ParamCursor
    after i = record { pos = c.pos + 12 * i; end = c.end; remaining = c.remaining - i; yielded = number_of i }

    pub step : (i : ℕ) → Room s c → i < c.remaining → yielded (record { at = c.pos + 12 * i; len = 12 }) (number_of i) (after (i + 1)) ≡ param_step s (after i)
    step i r h =
        let at : BlockAt = over_params.stands (after i) in
        let e : value (record { at = c.pos + 12 * i; len = 12 }) ≡ lent s (param_at s at) =
        lent_fits s (fixed_at s (c.pos + 12 * i) c.end 12) _ r.few
        (fixed-there s (c.pos + 12 * i) c.end 12 (omega (arith, r.whole)) (omega (arith, r.whole, r.inside)))
        ∙ param-some s at (λ z. omega (arith, z)) in
        let p : c.pos + 12 * (i + 1) ≡ c.pos + 12 * i + 12 = omega arith in
        let q : c.remaining - (i + 1) ≡ c.remaining - i - 1 = omega arith in
        rw (p, q) (step-found over_params (param_next s) (after i) _ _ (number_of (i + 1)) (ap (param_next_from at) e) (sym (number-next i)))

    -- it is the one that was given before any step
    pub after_none : Room s c → after 0 ≡ c
    unfolding number_of
    after_none r =
        let p : c.pos + 12 * 0 ≡ c.pos = omega arith in
        let q : c.remaining - 0 ≡ c.remaining = omega arith in
        rw (p, q, ← r.first)

    yields-on : (k i : ℕ) → Room s c → i + k ≡ c.remaining → k ≡ length (yields (param_step s) k (after i))
    unfolding yields
    yields-on zero i r h = refl
    yields-on (suc k) i r h =
        ap suc (yields-on k (i + 1) r (omega arith))
        ∙ ap (λ (x : Step Place ParamCursor). length (onward (yields (param_step s) k) x)) (step i r (omega arith))

    -- as many are yielded as remain
    pub all-yielded : Room s c → c.remaining ≡ length (yields (param_step s) c.remaining c)
    all-yielded r = yields-on c.remaining 0 r (omega arith) ∙ ap (λ (x : ParamCursor). length (yields (param_step s) c.remaining x)) (after_none r)

    module _ (lib : TypeLib) (f : FuncRecord) where
      -- the parameters from i on
      abbrev pub laid_from : ℕ → Answer Bytes
      laid_from i = lay_all (parameter edition-one (type_count lib)) (numbered (parameter_of s lib f) i (yields (param_step s) (c.remaining - i) (after i)))

      pub laid-all : Room s c → laid_from 0 ≡ lay_all (parameter edition-one (type_count lib)) (numbered (parameter_of s lib f) 0 (yields (param_step s) c.remaining c))
      laid-all r =
          let q : c.remaining - 0 ≡ c.remaining = omega arith in
          ap (λ (x : ParamCursor). lay_all (parameter edition-one (type_count lib)) (numbered (parameter_of s lib f) 0 (yields (param_step s) (c.remaining - 0) x))) (after_none r)
          ∙ ap (λ (n : ℕ). lay_all (parameter edition-one (type_count lib)) (numbered (parameter_of s lib f) 0 (yields (param_step s) n c))) q

      pub laid_one : (i : ℕ) → Room s c → i < c.remaining
          → laid_from i ≡ map (encode (parameter edition-one (type_count lib))) (parameter_of s lib f i (record { at = c.pos + 12 * i; len = 12 })) ▸ laid_from (i + 1)
      laid_one i r h =
          laid_more (param_step s) (λ (x : ParamCursor). x.remaining) (parameter edition-one (type_count lib)) (parameter_of s lib f) i
          (param-takes.takes (step i r h)) (step i r h)

      pub laid_end : (i : ℕ) → c.remaining ≤ i → laid_from i ≡ value []
      unfolding lay_all numbered yields
      laid_end i h = let e : c.remaining - i ≡ 0 = omega arith in rw e
