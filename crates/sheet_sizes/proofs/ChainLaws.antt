-- The chain of implemented types, gone along once: its records are measured while it is walked. Assumes nothing.
use Rattle.typelib.specs.Header.{type_count}
use mathlib.Core.Path.{◌≡◌, refl, sym, ap, ◌∙◌}
use mathlib.Core.List.{List, [], ◌∷◌, ◌++◌, append_assoc, append-nil}
use mathlib.Core.List as lists
use Prim.Native.Nat.{ℕ, ◌+◌, ◌-◌, ◌≤◌}
use native.Mathlib.Numerals.{add-one}
use native.Mathlib.Omega.{arith}
use lib.ListN.{length}
use Rattle.records.specs.declared.answer.Place.{Place}
use Rattle.records.specs.Answer.{Answer, value, refused}
use Rattle.records.specs.Layout.{size_of, ref_record}
use Rattle.records.specs.Record.{limit}
use Rattle.typelib.specs.declared.TypeLib.{TypeLib}
use Rattle.typelib.specs.TableLaws.{lent_fits, found_in}
use Rattle.cursors.specs.Numbers.{stop, yielded, ended}
use Rattle.cursors.specs.NumberLaws.{by-item, step-yields, step-ends}
use Rattle.impltypes.specs.declared.ImplTypeCursor.{ImplTypeCursor}
use Rattle.impltypes.specs.Chain.{ChainAt, over_impl_types, reference_at, onext, impl_type_next_from, impl_type_next, impl_type_step, place_at, walk_of}
use Rattle.impltypes.specs.ChainLaws.{place_is, next-is, Stands, stands, stands-more, stands-last, stands-round}
use Rattle.typelib.specs.Tabulate.{tabulate}
use Rattle.description.specs.Format.{Format, encode, joined}
use Rattle.description.specs.Sheet.{edition-one, impl_type}
use Rattle.describe.specs.Types.{impl_type_at}
use Rattle.emit.specs.Emit.{◌▸◌}
use Rattle.sheet_bases.specs.Bases.{links_bytes}

-- ---- what a step tells of the record at the cursor

module _ (s : List ℕ) (few : length s ≤ limit) (d : ImplTypeCursor) where
  abbrev at : ChainAt
  at = over_impl_types.stands d

  next : impl_type_next_from s at (reference_at s d.table d.next) ≡ impl_type_next s at
  next = next-is s at _ (lent_fits s _ _ few refl)

  record Yielded (p : Place) (e : ImplTypeCursor) : Type 0 where
    here : value p ≡ reference_at s d.table d.next
    onward : over_impl_types.stands e ≡ record { table = d.table; next = onext s p.at }

  yields_at : {p : Place} {m : ℕ} {e : ImplTypeCursor} → yielded p m e ≡ impl_type_step s d → Yielded p e
  yields_at {p} {m} {e} h =
      by-item (λ q x. x ≡ over_impl_types.stands e → q ≡ p → Yielded p e) at _ _ (reference_at s d.table d.next)
      (λ q g v w. record { here = ap value (sym w) ∙ g; onward = sym v ∙ ap (λ (y : Place). record { table = d.table; next = onext s y.at }) w })
      p (over_impl_types.stands e) ((step-yields over_impl_types (impl_type_next s) d e p m h).found ∙ sym next) refl refl

  ends_at : {m : ℕ} {e : ImplTypeCursor} → ended m e ≡ impl_type_step s d → refused m ≡ reference_at s d.table d.next
  ends_at {m} {e} h = by (reference_at s d.table d.next) refl ((step-ends over_impl_types (impl_type_next s) d e m h).none ∙ sym next)
    where
      by : (a : Answer Place) → a ≡ reference_at s d.table d.next → stop m (over_impl_types.stands e) ≡ impl_type_next_from s at a → refused m ≡ reference_at s d.table d.next
      by (value x) g k = let z : ◌≡◌ {A = ℕ} 0 1 = cc in absurd (omega arith)
      by (refused x) g k = let w : m ≡ x = cc in ap refused w ∙ g

-- ---- along the chain

module _ (s : List ℕ) (c : ImplTypeCursor) where
  abbrev from : ChainAt
  from = over_impl_types.stands c

  -- n records are passed, and the cursor stands at the next
  pub record Along (n : ℕ) (d : ImplTypeCursor) : Type 0 where
    pub next : Stands s from n d.next
    pub table : d.table ≡ c.table

  pub along : Along 0 c
  along = record { next = stands s from; table = refl }

  module _ (few : length s ≤ limit) (n : ℕ) {d : ImplTypeCursor} (a : Along n d) where
    module _ {p : Place} {m : ℕ} {e : ImplTypeCursor} (h : yielded p m e ≡ impl_type_step s d) where
      there : value p ≡ reference_at s c.table d.next
      there = (yields_at s few d h).here ∙ ap (λ (t : Place). reference_at s t d.next) a.table

      pub along-more : Along (n + 1) e
      along-more =
          let o = (yields_at s few d h).onward in
          record {
            next = stands-more s from n d.next a.next p e.next there (ap (λ (x : ChainAt). x.next) o);
            table = ap (λ (x : ChainAt). x.table) o ∙ a.table;
          }

      pub along-place : p ≡ place_at s from n
      along-place = place_is s c.table d.next (size_of ref_record) p there ∙ ap (λ (x : ℕ). record { at = c.table.at + x; len = size_of ref_record }) a.next.at

      pub along-inside : p.at + 16 ≤ length s
      along-inside = (found_in _ _ _ _ _ there).inside

      pub along-round : length s - 15 ≤ n → refused 10 ≡ walk_of s c
      along-round m = stands-round s from n d.next a.next p few there m

    pub along-last : {m : ℕ} {e : ImplTypeCursor} → ended m e ≡ impl_type_step s d → value n ≡ walk_of s c
    along-last {m} h = stands-last s from n d.next a.next m few (ends_at s few d h ∙ ap (λ (t : Place). reference_at s t d.next) a.table)

-- ---- one record more

joined-last : {A B : Type 0} (F : Format B) (f : A → B) (xs : List A) (x : A) → joined F (lists.map f xs) ++ encode F (f x) ≡ joined F (lists.map f (xs ++ (x ∷ [])))
joined-last F f [] x = sym (append-nil (encode F (f x)))
joined-last F f (y ∷ xs) x = append_assoc (encode F (f y)) _ _ ∙ ap (λ (l : List ℕ). encode F (f y) ++ l) (joined-last F f xs x)

pub links-last : (s : List ℕ) (lib : TypeLib) (c : ImplTypeCursor) (n : ℕ) {p : Place} → p ≡ place_at s (over_impl_types.stands c) n
    → value (links_bytes s lib c n 0) ▸ value (encode (impl_type edition-one (type_count lib)) (impl_type_at s lib p)) ≡ value (links_bytes s lib c (n + 1) 0)
unfolding links_bytes tabulate
links-last s lib c n {p} e =
    rw (e, add-one n) (ap value (joined-last (impl_type edition-one (type_count lib)) (impl_type_at s lib) (tabulate (place_at s (over_impl_types.stands c)) n) (place_at s (over_impl_types.stands c) n)))
