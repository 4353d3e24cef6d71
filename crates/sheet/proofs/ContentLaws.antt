-- Contents and bodies, written in another order than they are laid out, are the sheet. Assumes nothing.
use Rattle.typelib.specs.Header.{type_count}
use mathlib.Core.Path.{◌≡◌, refl, sym, ap, ap₂, ◌∙◌}
use mathlib.Core.List.{List, [], ◌∷◌, ◌++◌, append_assoc, append-nil}
use mathlib.Core.List as lists
use Prim.Native.Nat.{ℕ, suc, ◌+◌, ◌-◌, ◌*◌, ◌%◌, ◌≤◌, ◌<◌, min, max}
use native.Mathlib.Nat.{zero-add, add-zero}
use native.Mathlib.Omega.{arith}
use lib.ListN.{length, take, length-append}
use lib.Seq.{sets, length-take-le}
use lib.Dec.{leb}
use borrow.Author.Tests.{le-leb, leb-true}
use Rattle.util.specs.Read.{read, or_zero, cond-elim}
use Rattle.records.specs.Answer.{Answer, value, refused, map}
use Rattle.records.specs.Record.{limit}
use Rattle.typelib.specs.declared.TypeLib.{TypeLib}
use Rattle.description.specs.Format.{Format, encode, opt, joined, le_bytes, length-le_bytes}
use Rattle.description.specs.Description.{Bytes, TypeInfo, Header}
use Rattle.description.specs.Sheet.{edition-one, u32, guid, name, header, type_info, sheet_bytes}
use Rattle.description.specs.ByteLayout.{sheet-bytes}
use Rattle.describe.specs.Values.{and_then, all}
use Rattle.describe.specs.References.{guid_of}
use Rattle.describe.specs.Members.{name_of}
use Rattle.describe.specs.Types.{type_of, types_from}
use Rattle.describe.specs.Describe.{header_of}
use Rattle.emit.specs.Emit.{Put}
use Rattle.emit.specs.Emit.{At, Refused, past, put}
use Rattle.emit.specs.Emit.{◌▸◌, advance, moved, Emitted, overwritten, Overwritten}
use Rattle.emit.specs.Laws.{put-at, put_refused, sets-append, sets-append-front, sets-front, take-sets, take_less, advance-within, moved-join, skip, known, over-room, over-keeps, over-before}
use Rattle.sheet_members.specs.Lists.{lay_all, all_laid, Sized, sized, unsized, all-sized}
use Rattle.sheet_members.specs.Bodies.{types-length, bodies, bodies-more}
use Rattle.description.specs.Figures.{Figures, counted_in}
use Rattle.sheet_sizes.specs.declared.Count.{Count}
use Rattle.sheet_sizes.specs.Counts.{figures, So, counted, counts_at, counts, CountingAll}
use Rattle.sheet_sizes.specs.Counted.{library_counted}
use Rattle.sheet.specs.Contents.{sheet_emitted, len_of, lens_of, distanced, Patched, LaidTwo, spared_two, Twofold}

pub header_is : (s : List ℕ) (lib : TypeLib) {g n : ℕ} → g ≡ or_zero (read 4 s (0 + 8)) → n ≡ or_zero (read 4 s (0 + 56))
    → value (le_bytes 4 (or_zero (read 4 s (0 + 12))))
    ▸ (value (le_bytes 4 (or_zero (read 4 s (0 + 24)))) ▸ (value (encode (opt guid) (guid_of s lib g)) ▸ value (encode (opt name) (name_of s lib n))))
    ≡ value (encode header (header_of s lib))
unfolding header_of header
header_is s lib {g} {n} e f = rw (e, f)

-- ---- a length

pub unpatched : (from end : ℕ) {at : ℕ} {o : List ℕ} → ((p q : ℕ) → put from ≡ At p → put end ≡ At q → p ≤ q → ⊥) → Patched (put from) (put end) at o o
unfolding distanced
unpatched from end {at} {o} h = record { puts = by (put from) (put end) refl refl }
  where
    by : (t u : Put) → put from ≡ t → put end ≡ u → o ≡ distanced t u at o
    by (At p) (At q) e g = cond-elim (λ z. o ≡ z) (leb p q) (overwritten (le_bytes 4 (q - p)) (put at) o) o (λ k. absurd (h p q e g (leb-true p q k))) (λ _. refl)
    by (At p) (Refused m) e g = refl
    by (Refused m) u e g = refl

pub past-never : (n : ℕ) {p : ℕ} → past < n → put n ≡ At p → ⊥
past-never n h e = let q : Refused ((n - suc past) % 256) ≡ At _ = sym (put_refused n h) ∙ e in let z : ◌≡◌ {A = ℕ} 0 1 = cc in omega arith

pub patched : (from end at : ℕ) {o o' : List ℕ} → from ≤ end → end ≤ past → Overwritten (le_bytes 4 (end - from)) (put at) o o' → Patched (put from) (put end) at o o'
unfolding distanced
patched from end at h k w =
    let f : from ≤ past = omega arith in
    record { puts = rw (put-at from f, put-at end k, le-leb from end h) w.over }

-- it stands there where there is room
puts-room : (p q at : ℕ) {o o' : List ℕ} → Patched (At p) (At q) at o o' → p ≤ q → at + 4 ≤ limit → at + 4 ≤ length o → o' ≡ sets o at (le_bytes 4 (q - p))
unfolding distanced
puts-room p q at {o} {o'} f h k l =
    let m : at ≤ past = omega arith in
    let w : Overwritten (le_bytes 4 (q - p)) (At at) o o' = record { over = rw (le-leb p q h, put-at at m) at f.puts } in
    over-room w (omega (arith, l, length-le_bytes 4 (q - p)))

-- it leaves the output as long as it was
pub patch-keeps : (t u : Put) {c : ℕ} {o o' : List ℕ} → Patched t u c o o' → length o' ≡ length o
unfolding distanced
patch-keeps (At p) (At q) {c} {o} f =
    ap length f.puts
    ∙ cond-elim (λ z. length z ≡ length o) (leb p q) (overwritten (le_bytes 4 (q - p)) (put c) o) o (λ _. over-keeps (put c) (record { over = refl })) (λ _. refl)
patch-keeps (At p) (Refused m) f = ap length f.puts
patch-keeps (Refused m) u f = ap length f.puts

-- what stands before it is spared
patch-spares : (t u : Put) (n c : ℕ) {o o' : List ℕ} → n ≤ c → Patched t u c o o' → take n o' ≡ take n o
unfolding distanced
patch-spares (At p) (At q) n c {o} h f =
    ap (take n) f.puts
    ∙ cond-elim (λ z. take n z ≡ take n o) (leb p q) (overwritten (le_bytes 4 (q - p)) (put c) o) o (λ _. over-before c n h (record { over = refl })) (λ _. refl)
patch-spares (At p) (Refused m) n c h f = ap (take n) f.puts
patch-spares (Refused m) u n c h f = ap (take n) f.puts

-- ---- lengths and bodies

two_none : {c : ℕ} {t : Put} {o : List ℕ} → Twofold (value []) (value []) c t o t o
two_none {c} {t} {o} = record { moves = (skip t o).moves; lays = none t; spares = refl; keeps = refl }
  where
    none : (t : Put) → LaidTwo (value []) (value []) c t o o
    none (At p) = λ h k l. rw (add-zero p) (sym (append-nil (take p o)))
    none (Refused m) = tt

two-refused : (ls xs : Answer Bytes) {c : ℕ} {t : Put} {o : List ℕ} {m : ℕ} → t ≡ Refused m → Twofold ls xs c t o t o
two-refused ls xs {c} {t} {o} {m} e = rw e (record { moves = refl; lays = none ls xs; spares = refl; keeps = refl })
  where
    none : (ls xs : Answer Bytes) → LaidTwo ls xs c (Refused m) o o
    none (value ks) (value bs) = tt
    none (value ks) (refused n) = tt
    none (refused n) xs = tt

-- what stands before the bodies: the contents, whose first length goes in behind the first body
before : (b ks o o₁ : List ℕ) (c p : ℕ) → c + length (le_bytes 4 (length b) ++ ks) ≤ p → p + length b ≤ length o → take (p + length b) o₁ ≡ take p o ++ b
    → take (p + length b) (sets (sets o₁ c (le_bytes 4 (length b))) (c + 4) ks) ≡ take p (sets o c (le_bytes 4 (length b) ++ ks)) ++ b
before b ks o o₁ c p h l e =
    let q : c + length (le_bytes 4 (length b)) ≡ c + 4 = ap (λ n. c + n) (length-le_bytes 4 (length b)) in
    let fs : List ℕ = le_bytes 4 (length b) ++ ks in
    let n : length (take p o) ≡ p = length-take-le p o (omega arith) in
    ap (take (p + length b)) (ap (λ n. sets (sets o₁ c (le_bytes 4 (length b))) n ks) (sym q) ∙ sym (sets-append (le_bytes 4 (length b)) ks o₁ c))
    ∙ take-sets fs o₁ (p + length b) c (omega arith)
    ∙ ap (λ (z : List ℕ). sets z c fs) e
    ∙ sets-append-front fs (take p o) b c (omega (arith, n))
    ∙ ap (λ (z : List ℕ). z ++ b) (sym (take-sets fs o p c h))

-- what is spared where a body ends is spared where it began
spared-later : (x : Answer Bytes) (c p : ℕ) (o o' : List ℕ) → spared_two (c + 4) (moved (At p) x) o' ≡ spared_two (c + 4) (moved (At p) x) o
    → take (min c p) o' ≡ take (min c p) o
unfolding advance
spared-later (value b) c p o o' w = take_less (min c p) (min (c + 4) (max p (min (p + length b) past))) o' o (omega arith) w
spared-later (refused n) c p o o' w = ap (take (min c p)) w

module _ {c : ℕ} {u : Put} {o o₁ o₂ : List ℕ} (o₃ : List ℕ) where
  lays : (x ls xs : Answer Bytes) (t : Put) → Emitted x t o u o₁ → Patched t u c o₁ o₂ → LaidTwo ls xs (c + 4) u o₂ o₃ → LaidTwo (len_of x ▸ ls) (x ▸ xs) c t o o₃
  lays (value b) (value ks) (value bs) (At p) a f w = λ h k l.
      let s : c + (4 + length ks) ≤ p = omega (arith, h, length-append (le_bytes 4 (length b)) ks, length-le_bytes 4 (length b)) in
      let m : p + length b + length bs ≤ limit = omega (arith, k, length-append b bs) in
      let m' : p + length b + length bs ≤ length o = omega (arith, l, length-append b bs) in
      let e : u ≡ At (p + length b) = a.moves ∙ ap At (advance-within p (length b) (omega arith)) in
      let q : p + length b - p ≡ length b = omega arith in
      let l₁ : take (p + length b) o₁ ≡ take p o ++ b = a.lays (omega arith) (omega arith) in
      let n₁ : length o₁ ≡ length o = a.keeps in
      let l₂ : o₂ ≡ sets o₁ c (le_bytes 4 (length b)) = rw q at (puts-room p (p + length b) c (rw e at f) (omega arith) (omega arith) (omega (arith, n₁))) in
      let n₂ : length o₂ ≡ length o₁ = patch-keeps (At p) u f in
      let l₃ : take (p + length b + length bs) o₃ ≡ take (p + length b) (sets o₂ (c + 4) ks) ++ bs = (rw e at w) (omega arith) (omega arith) (omega (arith, n₁, n₂)) in
      let r : p + length (b ++ bs) ≡ p + length b + length bs = omega (arith, length-append b bs) in
      ap (λ n. take n o₃) r
      ∙ l₃
      ∙ ap (λ (z : List ℕ). take (p + length b) (sets z (c + 4) ks) ++ bs) l₂
      ∙ ap (λ (z : List ℕ). z ++ bs) (before b ks o o₁ c p h (omega arith) l₁)
      ∙ append_assoc (take p (sets o c (le_bytes 4 (length b) ++ ks))) b bs
  lays (value b) (value ks) (value bs) (Refused m) a f w = tt
  lays (value b) (value ks) (refused n) t a f w = tt
  lays (value b) (refused n) xs t a f w = tt
  lays (refused n) ls xs t a f w = tt

  spares : (x : Answer Bytes) (t : Put) → Emitted x t o u o₁ → Patched t u c o₁ o₂ → spared_two (c + 4) u o₃ ≡ spared_two (c + 4) u o₂ → spared_two c t o₃ ≡ spared_two c t o
  unfolding distanced
  spares x (At p) a f w =
      spared-later x c p o₂ o₃ (rw a.moves at w) ∙ patch-spares (At p) u (min c p) c (omega arith) f ∙ take_less (min c p) p o₁ o (omega arith) a.spares
  spares x (Refused m) a f w = (rw a.moves at w) ∙ f.puts ∙ a.spares

two-more : {x ls xs : Answer Bytes} {c : ℕ} {t u r : Put} {o o₁ o₂ o₃ : List ℕ}
    → Emitted x t o u o₁ → Patched t u c o₁ o₂ → Twofold ls xs (c + 4) u o₂ r o₃ → Twofold (len_of x ▸ ls) (x ▸ xs) c t o r o₃
two-more {x} {ls} {xs} {c} {t} {u} {r} {o} {o₁} {o₂} {o₃} a b w =
    record {
      moves = w.moves ∙ ap (λ (v : Put). moved v xs) a.moves ∙ moved-join x xs t;
      lays = lays o₃ x ls xs t a b w.lays;
      spares = spares o₃ x t a b w.spares;
      keeps = w.keeps ∙ patch-keeps t u b ∙ a.keeps;
    }

-- ---- the loop over the types: what the rest of it makes of the whole

pub record LeftTwo (ks xs : Answer Bytes) (c : ℕ) (t₀ : Put) (o₀ : List ℕ) (ls ys : Answer Bytes) (d : ℕ) (t : Put) (o : List ℕ) : Type 0 where
  pub finish : (r : Put) (o' : List ℕ) → Twofold ls ys d t o r o' → Twofold ks xs c t₀ o₀ r o'

module _ (s : List ℕ) (lib : TypeLib) where
  abbrev F : Format TypeInfo
  F = type_info edition-one (type_count lib)

  abbrev lens : ℕ → ℕ → Answer Bytes
  lens n i = lens_of F (types_from s lib n i)

  lens-more : (n i : ℕ) → i < n → lens (n - i) i ≡ len_of (map (encode F) (type_of s lib i)) ▸ lens (n - (i + 1)) (i + 1)
  unfolding lens_of types_from
  lens-more n i h = let e : n - i ≡ suc (n - (i + 1)) = omega arith in rw e

  abbrev pub LeftFrom : ℕ → Put → List ℕ → ℕ → Put → List ℕ → Type 0
  LeftFrom n t₀ o₀ i t o = LeftTwo (lens n 0) (bodies s lib n 0) 8 t₀ o₀ (lens (n - i) i) (bodies s lib (n - i) i) (8 + 4 * i) t o

  pub types-start : (n : ℕ) {t : Put} {o : List ℕ} → LeftFrom n t o 0 t o
  types-start n {t} {o} = let e : n - 0 ≡ n = omega arith in rw e (record { finish = λ r o' w. w })

  pub types-less : (n i : ℕ) {t₀ t u : Put} {o₀ o o₁ o₂ : List ℕ} → i < n → LeftFrom n t₀ o₀ i t o
      → Emitted (map (encode F) (type_of s lib i)) t o u o₁ → Patched t u (8 + 4 * i) o₁ o₂ → LeftFrom n t₀ o₀ (i + 1) u o₂
  types-less n i h left a b =
      let e : 8 + 4 * (i + 1) ≡ 8 + 4 * i + 4 = omega arith in
      record { finish = λ r o' w. left.finish r o' (rw (lens-more n i h, bodies-more s lib n i h) (two-more a b (rw e at w))) }

  pub types-none : (n i : ℕ) {t₀ t : Put} {o₀ o : List ℕ} → n ≤ i → LeftFrom n t₀ o₀ i t o → Twofold (lens n 0) (bodies s lib n 0) 8 t₀ o₀ t o
  unfolding lens_of lay_all types_from
  types-none n i {t₀} {t} {o₀} {o} h left = let e : n - i ≡ 0 = omega arith in (rw e at left).finish t o two_none

  pub types-refused : (n i : ℕ) {t₀ : Put} {t : ℕ} {o₀ o : List ℕ} → past < t → LeftFrom n t₀ o₀ i (put t) o → Twofold (lens n 0) (bodies s lib n 0) 8 t₀ o₀ (put t) o
  types-refused n i {t₀} {t} {o₀} {o} h left = left.finish (put t) o (two-refused (lens (n - i) i) (bodies s lib (n - i) i) (put_refused t h))

  -- the same, where the place that the emitter was to stop at is not further
  pub types-stopped : (n i : ℕ) {t₀ : Put} {t r : ℕ} {o₀ o : List ℕ} → r ≡ max t past → past < t → LeftFrom n t₀ o₀ i (put t) o → Twofold (lens n 0) (bodies s lib n 0) 8 t₀ o₀ (put r) o
  types-stopped n i {t₀} {t} {r} m h left = let e : r ≡ t = omega (arith, m, h) in rw e (types-refused n i h left)

-- ---- the whole

-- n lengths and the bodies, or no more than a refusal
data Both (n : ℕ) : Answer Bytes → Answer Bytes → Type 0 where
  both : (ks bs : Bytes) → length ks ≡ 4 * n → Both n (value ks) (value bs)
  neither : (m : ℕ) → Both n (refused m) (refused m)

both-more : {n : ℕ} (x : Answer Bytes) {ls xs : Answer Bytes} → Both n ls xs → Both (suc n) (len_of x ▸ ls) (x ▸ xs)
both-more (value b) (both ks bs e) = both (le_bytes 4 (length b) ++ ks) (b ++ bs) (omega (arith, length-append (le_bytes 4 (length b)) ks, length-le_bytes 4 (length b), e))
both-more (value b) (neither m) = neither m
both-more (refused m) h = neither m

both-all : {A : Type 0} (F : Format A) (xs : List (Answer A)) → Both (length xs) (lens_of F xs) (lay_all F xs)
unfolding lens_of lay_all
both-all F [] = both [] [] (omega arith)
both-all F (x ∷ xs) = both-more (map (encode F) x) (both-all F xs)

-- the bodies end where the sheet does
whole-moves : {n : ℕ} {ls xs : Answer Bytes} → 8 + 4 * n ≤ limit → Both (suc n) ls xs → moved (At (8 + 4 * n)) xs ≡ moved (At 0) (value (le_bytes 4 n) ▸ (ls ▸ xs))
unfolding advance le_bytes
whole-moves {n} few (both ks bs e) =
    let four : length (le_bytes 4 n) ≡ 4 = length-le_bytes 4 n in
    let size : length (le_bytes 4 n ++ (ks ++ bs)) ≡ 8 + 4 * n + length bs = omega (arith, length-append (le_bytes 4 n) (ks ++ bs), length-append ks bs, four, e) in
    let m : max (8 + 4 * n) (min (8 + 4 * n + length bs) (suc limit)) ≡ max 0 (min (0 + length (le_bytes 4 n ++ (ks ++ bs))) (suc limit)) = omega (arith, size) in
    ap At m
whole-moves few (neither m) = refl

whole : {n : ℕ} {ls xs : Answer Bytes} {t r : Put} {o o₁ o₂ : List ℕ} → 8 + 4 * n ≤ limit → Both (suc n) ls xs
    → Emitted (value (le_bytes 4 n)) (At 0) o t o₁ → Twofold ls xs 4 (At (8 + 4 * n)) o₁ r o₂ → Emitted (value (le_bytes 4 n) ▸ (ls ▸ xs)) (At 0) o r o₂
unfolding le_bytes
whole {n} {ls} {xs} {t} {r} {o} {o₁} {o₂} few (both ks bs e) a w =
    let four : length (le_bytes 4 n) ≡ 4 = length-le_bytes 4 n in
    let size : length (le_bytes 4 n ++ (ks ++ bs)) ≡ 8 + 4 * n + length bs = omega (arith, length-append (le_bytes 4 n) (ks ++ bs), length-append ks bs, four, e) in
    record {
      moves = w.moves ∙ whole-moves few (both ks bs e);
      lays = λ k l.
          let p : 4 + length ks ≡ 8 + 4 * n = omega (arith, e) in
          let q : take (0 + length (le_bytes 4 n)) o₁ ≡ take 0 o ++ le_bytes 4 n = a.lays (omega (arith, four, k, size)) (omega (arith, four, l, size)) in
          let f : take 4 o₁ ≡ le_bytes 4 n = ap (λ (x : ℕ). take x o₁) (sym four) ∙ q in
          let v : take (8 + 4 * n + length bs) o₂ ≡ take (8 + 4 * n) (sets o₁ 4 ks) ++ bs = w.lays (omega (arith, p)) (omega (arith, k, size)) (omega (arith, l, size, a.keeps)) in
          let g : take (4 + length ks) (sets o₁ 4 ks) ≡ take 4 o₁ ++ ks = sets-front ks o₁ 4 (omega (arith, p, l, size, a.keeps)) in
          ap (λ (x : ℕ). take x o₂) (zero-add (length (le_bytes 4 n ++ (ks ++ bs))) ∙ size)
          ∙ v
          ∙ ap (λ (x : ℕ). take x (sets o₁ 4 ks) ++ bs) (sym p)
          ∙ ap (λ (x : List ℕ). x ++ bs) (g ∙ ap (λ (x : List ℕ). x ++ ks) f)
          ∙ append_assoc (le_bytes 4 n) ks bs;
      spares = refl;
      keeps = w.keeps ∙ a.keeps;
    }
whole few (neither m) a w = record { moves = w.moves; lays = tt; spares = refl; keeps = w.keeps ∙ a.keeps }

-- ---- it is the sheet's layout

module _ {A : Type 0} (F : Format A) where
  abbrev lengths : List A → Bytes
  lengths ys = joined u32 (lists.map (λ y. length (encode F y)) ys)

  lens-laid : (xs : List (Answer A)) → lens_of F xs ≡ map lengths (all xs)
  unfolding lens_of all
  lens-laid [] = refl
  lens-laid (x ∷ xs) = ap (λ y. len_of (map (encode F) x) ▸ y) (lens-laid xs) ∙ by-answers x (all xs)
    where
      by-answers : (x : Answer A) (y : Answer (List A)) → len_of (map (encode F) x) ▸ map lengths y ≡ map lengths (and_then x y)
      by-answers (value a) (value b) = refl
      by-answers (value a) (refused n) = refl
      by-answers (refused n) y = refl

sheet-laid : (h : Header) (n : ℕ) (y : Answer (List TypeInfo)) → Sized (type_info edition-one n) n y
    → value (le_bytes 4 n) ▸ ((value (le_bytes 4 (length (encode header h))) ▸ map (lengths (type_info edition-one n)) y) ▸ (value (encode header h) ▸ map (joined (type_info edition-one n)) y))
    ≡ map (sheet_bytes edition-one) (map (λ types. record { header = h; types = types }) y)
sheet-laid h n y (sized {ys = ys} e) =
    let m : ℕ = length ys in
    ap (λ k. value (le_bytes 4 k ++ ((le_bytes 4 (length (encode header h)) ++ lengths (type_info edition-one k) ys) ++ (encode header h ++ joined (type_info edition-one k) ys)))) (sym e)
    ∙ ap value
    (sym (append_assoc (le_bytes 4 m) (le_bytes 4 (length (encode header h)) ++ lengths (type_info edition-one m) ys) (encode header h ++ joined (type_info edition-one m) ys))
    ∙ sym (sheet-bytes edition-one (record { header = h; types = ys })))
sheet-laid h n y unsized = refl

-- a count's place moves as the bytes do
first-figure : {A : Type 0} (c : Count) (bytes : A → Bytes) (Counts-of : A → Figures) → ((a : A) → (Counts-of a).length ≡ length (bytes a)) → (a : Answer A)
    → CountingAll (map Counts-of a) c → put c.to ≡ moved (put 0) (map bytes a)
unfolding counts
first-figure {A} c bytes Counts-of e a k =
    by (put c.to) a (k.is ∙ ap (λ (t : Put). counted (counts_at t 0 0 0 0) (map Counts-of a)) first) ∙ ap (λ (t : Put). moved t (map bytes a)) (sym first)
  where
    first : put 0 ≡ At 0
    first = put-at 0 (omega arith)

    by : (t : Put) (a : Answer A) → counts_at t c.functions c.parameters c.variables c.references ≡ counted (So (figures 0 0 0 0 0)) (map Counts-of a) → t ≡ moved (At 0) (map bytes a)
    by (At q) (value x) h =
        let f : Figures = Counts-of x in
        let g : figures q c.functions c.parameters c.variables c.references ≡ figures (advance 0 f.length) (advance 0 f.functions) (advance 0 f.parameters) (advance 0 f.variables) (advance 0 f.references) = cc in
        ap At (ap (λ (y : Figures). y.length) g ∙ ap (advance 0) (e x))
    by (At q) (refused n) h = absurd (let z : ◌≡◌ {A = ℕ} 0 1 = cc in omega arith)
    by (Refused m) (value x) h = absurd (let z : ◌≡◌ {A = ℕ} 0 1 = cc in omega arith)
    by (Refused m) (refused n) h = let z : m ≡ n = cc in ap Refused z

-- its parts, for a library
module _ (s : List ℕ) (lib : TypeLib) where
  abbrev form : Format TypeInfo
  form = type_info edition-one (type_count lib)

  abbrev bodies_of : List (Answer TypeInfo)
  bodies_of = types_from s lib (type_count lib) 0

  abbrev own_body : Bytes
  own_body = encode header (header_of s lib)

  parts_are : value (le_bytes 4 (type_count lib)) ▸ ((len_of (value own_body) ▸ lens_of form bodies_of) ▸ (value own_body ▸ lay_all form bodies_of)) ≡ sheet_emitted s lib
  unfolding sheet_emitted
  parts_are =
      ap₂ (λ (x y : Answer Bytes). value (le_bytes 4 (type_count lib)) ▸ ((value (le_bytes 4 (length own_body)) ▸ x) ▸ (value own_body ▸ y))) (lens-laid form bodies_of) (sym (all_laid form bodies_of))
      ∙ sheet-laid (header_of s lib) (type_count lib) (all bodies_of) (rw (types-length s lib (type_count lib) 0) at (all-sized form bodies_of))

  both-parts : Both (suc (type_count lib)) (len_of (value own_body) ▸ lens_of form bodies_of) (value own_body ▸ lay_all form bodies_of)
  both-parts = both-more (value own_body) (rw (types-length s lib (type_count lib) 0) at (both-all form bodies_of))

  start-at : type_count lib ≤ 65535 → put (8 + 4 * type_count lib) ≡ At (8 + 4 * type_count lib)
  start-at few = put-at (8 + 4 * type_count lib) (omega (arith, few))

  pub sheet-whole : {n : ℕ} {t u r : Put} {o o₁ o₂ o₃ o₄ : List ℕ} → n ≡ type_count lib → type_count lib ≤ 65535
      → Emitted (value (le_bytes 4 n)) (put 0) o t o₁ → Emitted (value own_body) (put (8 + 4 * n)) o₁ u o₂ → Patched (put (8 + 4 * n)) u 4 o₂ o₃
      → Twofold (lens_of form bodies_of) (lay_all form bodies_of) 8 u o₃ r o₄ → Emitted (sheet_emitted s lib) (put 0) o r o₄
  sheet-whole e few a h p w =
      let first : put 0 ≡ At 0 = put-at 0 (omega arith) in
      rw first
      (known parts_are (whole (omega (arith, few)) both-parts (rw (e, first) at a) (two-more (rw (e, start-at few) at h) (rw (e, start-at few) at p) w)))

  -- where it ends, by what was counted
  pub sheet-size : {c : Count} → CountingAll (library_counted s lib) c → put c.to ≡ moved (put 0) (sheet_emitted s lib)
  unfolding sheet_emitted library_counted
  sheet-size {c} k = first-figure c (sheet_bytes edition-one) (counted_in edition-one) (λ d. refl) (map (λ types. record { header = header_of s lib; types = types }) (all bodies_of)) k
