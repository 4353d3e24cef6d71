-- A whole call: it parses, measures, and then writes into a part of the output of just that size. Assumes nothing.
use mathlib.Core.Path.{◌≡◌, refl, sym, ap, ◌∙◌}
use mathlib.Core.List.{List, [], ◌∷◌, ◌++◌}
use Prim.Native.Nat.{ℕ, suc, ◌+◌, ◌-◌, ◌%◌, ◌≤◌, ◌<◌, min, max}
use native.Mathlib.Nat.{zero-add}
use native.Mathlib.Omega.{arith}
use lib.ListN.{length, take, drop}
use lib.Seq.{take-nil, length-take-le}
use borrow.Author.Tests.{le-leb, lt-leb, lt-ltb, le-ltb}
use Rattle.records.specs.Answer.{Answer, value, refused, map, bind}
use Rattle.records.specs.Record.{limit}
use Rattle.records.specs.declared.answer.Refusal.{Refusal}
use Rattle.records.specs.Told.{refusal_number}
use Rattle.typelib.specs.declared.TypeLib.{TypeLib}
use Rattle.typelib.specs.Header.{parse_of, type_count}
use Rattle.description.specs.Description.{Bytes}
use Rattle.description.specs.Sheet.{edition-one, sheet_bytes}
use Rattle.describe.specs.Values.{Octets}
use Rattle.describe.specs.Describe.{header_of, types_of, describe_as, describe}
use Rattle.describe.specs.Types.{types_from}
use Rattle.describe.specs.Answers.{answers-map, answers-mono, answers-all}
use Rattle.describe.specs.Refusals.{Sound, types-sound}
use Rattle.describe.specs.Call.{within, sheet_of, written, Call}
use Rattle.emit.specs.Emit.{Put}
use Rattle.emit.specs.Emit.{At, Refused, past, put}
use Rattle.emit.specs.Laws.{put-at, put_refused, filled}
use Rattle.emit.specs.Emit.{advance, moved, Emitted}
use Rattle.sheet_sizes.proofs.RefusalLaws.{same-number}
use Rattle.sheet.specs.Contents.{sheet_emitted, Answered, Made}

-- ---- measuring and writing

size_of : (bs : List ℕ) (n : ℕ) → At n ≡ At (advance 0 (length bs)) → n ≡ min (length bs) (suc limit)
unfolding advance
size_of bs n e = let f : n ≡ max 0 (min (0 + length bs) (suc limit)) = cc in omega arith

-- `size` is what measuring x gave
module _ (size : ℕ) where
  first : (x : Answer Bytes) → put size ≡ moved (put 0) x → put size ≡ moved (At 0) x
  first x e = e ∙ ap (λ (t : Put). moved t x) (put-at 0 (omega arith))

  pub whole-refused : (x : Answer Bytes) {o : List ℕ} {r : Refusal} → Sound x → put size ≡ moved (put 0) x → past < size
      → ((e : Refusal) → put size ≡ Refused (refusal_number e) → r ≡ e) → Answered x o (refused (refusal_number r)) o
  unfolding written
  whole-refused (value bs) sound m h f = absurd (let q : At (advance 0 (length bs)) ≡ Refused ((size - suc past) % 256) = sym (first (value bs) m) ∙ put_refused size h in let z : ◌≡◌ {A = ℕ} 0 1 = cc in omega arith)
  whole-refused (refused k) sound m h f = record { replies = ap refused (same-number size sound refl (first (refused k) m) f); leaves = refl }

  pub whole_long : (x : Answer Bytes) {o : List ℕ} → put size ≡ moved (put 0) x → size ≤ past → limit < size → Answered x o (refused 12) o
  unfolding within written
  whole_long (value bs) {o} m l h =
      let k : limit < length bs = omega (arith, size_of bs size (sym (put-at size l) ∙ first (value bs) m)) in
      record { replies = rw (lt-leb (length bs) limit k); leaves = rw (lt-leb (length bs) limit k) }
  whole_long (refused j) m l h = absurd (let q : At size ≡ Refused j = sym (put-at size l) ∙ first (refused j) m in let z : ◌≡◌ {A = ℕ} 0 1 = cc in omega arith)

  pub whole-short : (x : Answer Bytes) {o : List ℕ} → put size ≡ moved (put 0) x → size ≤ limit → length o < size → Answered x o (refused 12) o
  unfolding within written
  whole-short (value bs) {o} m h room =
      let e : size ≡ min (length bs) (suc limit) = size_of bs size (sym (put-at size (omega arith)) ∙ first (value bs) m) in
      let k : length bs ≤ limit = omega (arith, e) in
      let j : length o < length bs = omega (arith, e) in
      record {
        replies = rw (le-leb (length bs) limit k, lt-leb (length bs) (length o) j);
        leaves = rw (le-leb (length bs) limit k, lt-leb (length bs) (length o) j);
      }
  whole-short (refused j) m h room = absurd (let q : At size ≡ Refused j = sym (put-at size (omega arith)) ∙ first (refused j) m in let z : ◌≡◌ {A = ℕ} 0 1 = cc in omega arith)

  pub whole-done : (x : Answer Bytes) {o e' : List ℕ} {r' : Put} → put size ≡ moved (put 0) x → size ≤ limit → size ≤ length o
      → Emitted x (put 0) (take size o) r' e' → Answered x o (value size) (e' ++ drop size o)
  unfolding within written
  whole-done (value bs) {o} {e'} {r'} m h room w₀ =
      let w : Emitted (value bs) (At 0) (take size o) r' e' = rw (put-at 0 (omega arith)) at w₀ in
      let q : size ≡ length bs = omega (arith, size_of bs size (sym (put-at size (omega arith)) ∙ first (value bs) m)) in
      let k : length bs ≤ limit = omega arith in
      let j : length bs ≤ length o = omega arith in
      let t : length (take size o) ≡ size = length-take-le size o room in
      let f : e' ≡ bs = filled w k (t ∙ q) in
      record {
        replies = rw (le-leb (length bs) limit k, le-leb (length bs) (length o) j) (ap value q);
        leaves = rw (le-leb (length bs) limit k, le-leb (length bs) (length o) j) (rw (f, q));
      }
  whole-done (refused j) m h room w = absurd (let q : At size ≡ Refused j = sym (put-at size (omega arith)) ∙ first (refused j) m in let z : ◌≡◌ {A = ℕ} 0 1 = cc in omega arith)

  -- an emission of it, and one over no output
  pub emitted-made : (x : Answer Bytes) {o e : List ℕ} → Emitted x (put 0) o (put size) e → Made x size e
  emitted-made x {o} {e} w₀ = record { measured = w₀.moves; made = made x w₀ }
    where
      made : (x : Answer Bytes) → Emitted x (put 0) o (put size) e → size ≤ limit → size ≤ length e → value (take size e) ≡ x
      made (value bs) w₁ h room =
          let w : Emitted (value bs) (At 0) o (put size) e = rw (put-at 0 (omega arith)) at w₁ in
          let q : size ≡ length bs = omega (arith, size_of bs size (sym (put-at size (omega arith)) ∙ first (value bs) w₁.moves)) in
          let k : length e ≡ length o = w.keeps in
          ap value (ap (λ (n : ℕ). take n e) (q ∙ sym (zero-add (length bs))) ∙ w.lays (omega (arith, q)) (omega (arith, q, k)))
      made (refused j) w₁ h room = absurd (let q : At size ≡ Refused j = sym (put-at size (omega arith)) ∙ first (refused j) w₁.moves in let z : ◌≡◌ {A = ℕ} 0 1 = cc in omega arith)

  pub measured-made : (x : Answer Bytes) → put size ≡ moved (put 0) x → Made x size []
  measured-made x m = record { measured = m; made = made x m }
    where
      made : (x : Answer Bytes) → put size ≡ moved (put 0) x → size ≤ limit → size ≤ 0 → value (take size []) ≡ x
      made (value []) m h room = ap value (take-nil size)
      made (value (b ∷ bs)) m h room = absurd (omega (arith, size_of (b ∷ bs) size (sym (put-at size (omega arith)) ∙ first (value (b ∷ bs)) m)))
      made (refused j) m h room = absurd (let q : At size ≡ Refused j = sym (put-at size (omega arith)) ∙ first (refused j) m in let z : ◌≡◌ {A = ℕ} 0 1 = cc in omega arith)

-- ---- parsing first

joined-answer : {A : Type 0} (f : A → Bytes) (room : ℕ) (a : Answer A) → bind a (λ d. within room (f d)) ≡ bind (map f a) (within room)
joined-answer f room (value d) = refl
joined-answer f room (refused n) = refl

module _ (s : List ℕ) (octets : Octets s) where
  pub call-refused : {o : List ℕ} {a : Answer ℕ} {n : ℕ} → refused n ≡ parse_of s → a ≡ refused n → Call edition-one s o a o
  unfolding sheet_of describe written
  call-refused e f = record { replies = rw (f, ← e); leaves = rw (← e); octets = octets }

  module _ {lib : TypeLib} (e : value lib ≡ parse_of s) where
    pub call-many : {o : List ℕ} → 65535 < type_count lib → Call edition-one s o (refused 13) o
    unfolding sheet_of describe describe_as written
    call-many h = record { replies = rw (← e, lt-ltb 65535 (type_count lib) h); leaves = rw (← e, lt-ltb 65535 (type_count lib) h); octets = octets }

    is-emitted : (room : ℕ) → type_count lib ≤ 65535 → sheet_of edition-one s room ≡ bind (sheet_emitted s lib) (within room)
    unfolding sheet_of describe describe_as sheet_emitted
    is-emitted room h = rw (← e, le-ltb 65535 (type_count lib) h) (joined-answer (sheet_bytes edition-one) room (map (λ types. record { header = header_of s lib; types = types }) (types_of s lib)))

    pub call-answered : {o o' : List ℕ} {r : Answer ℕ} → type_count lib ≤ 65535 → Answered (sheet_emitted s lib) o r o' → Call edition-one s o r o'
    call-answered {o} {o'} {r} h a =
        record {
          replies = a.replies ∙ ap (map length) (sym (is-emitted (length o) h));
          leaves = a.leaves ∙ ap (written o) (sym (is-emitted (length o) h));
          octets = octets;
        }

-- a sheet that is refused has one of a description's numbers
pub emitted-sound : (s : List ℕ) (lib : TypeLib) → Sound (sheet_emitted s lib)
unfolding sheet_emitted
emitted-sound s lib =
    let all-sound : Sound (types_of s lib) = answers-mono (answers-all (types_from s lib (type_count lib) 0) (types-sound s lib (type_count lib) 0)) (λ n k. k) (λ ys _. tt) in
    let library-sound : Sound (map (λ types. record { header = header_of s lib; types = types }) (types_of s lib)) =
    answers-map (λ types. record { header = header_of s lib; types = types }) all-sound (λ _ _. tt) in
    answers-map (sheet_bytes edition-one) library-sound (λ _ _. tt)
