-- The bytes of `Parts` are those of the formats. Assumes nothing.
use Rattle.std.proofs.Common.{Option, Some, None, Ok, Err, ◌≡◌, refl, sym, ap, ◌∙◌, Bool, true, false, cond, List, [], ◌∷◌, ℕ, ◌+◌, ◌-◌, ◌*◌, ◌/◌, ◌%◌, ◌^◌, ◌≤◌, ◌<◌, arith, ℤ, length, ltb, eq-eqb, ne_eqb, le-leb, eqb-true, w32, of_z}
use Rattle.std.proofs.lemmas.Bool.{lt-leb}
use Rattle.std.specs.declared.result.Result.{Result}
use Rattle.typelib.specs.Header.{type_count}
use Rattle.util.specs.Read.{read, or_zero, cond-elim}
use Rattle.records.specs.declared.answer.Place.{Place}
use Rattle.records.specs.declared.answer.Refusal.{Refusal}
use Rattle.records.specs.Answer.{Answer, value, refused, map}
use Rattle.records.specs.Counted.{file_name_bytes}
use Rattle.records.specs.Record.{limit, part_of, bits_of, flag_set}
use Rattle.records.specs.Told.{told, told_as, refusal_number}
use Rattle.typelib.specs.declared.TypeLib.{TypeLib}
use Rattle.records.specs.declared.impfile.ImpFile.{ImpFile}
use Rattle.typelib.specs.declared.references.ResolvedHreftype.{ResolvedHreftype}
use Rattle.typelib.specs.Names.{guid_place, name_bytes}
use Rattle.typelib.specs.References.{Resolved, dispatch_bit, cleared, internal_index, resolved_at, href_resolved, internal as here, external}
use Rattle.typelib.specs.ReferenceLaws.{index-there, index-beyond, resolved-internal as in-this-file}
use Rattle.typelib.specs.Tables.{lent, negative}
use Rattle.typelib.specs.TableLaws.{lent-long, lent_fits}
use Rattle.typelib.specs.Told.{told_imp_file, told_hreftype, told_resolved}
use Rattle.description.specs.Format.{encode, opt, le_bytes}
use Rattle.description.specs.Description.{Bytes, own_is_guid, Reference}
use Rattle.description.specs.Sheet.{edition-one, u32, guid, name, file, bit, import, internal, misplaced, reference}
use Rattle.describe.specs.Values.{found, bytes_in}
use Rattle.describe.specs.References.{guid_of, file_of, own_of, import_of, reference_from, reference_of}
use Rattle.describe.specs.MisplacedLaws.{HitsNone, code-three, as-resolved}
use Rattle.describe.specs.Members.{name_of, name_by, memid_by}
use Rattle.emit.specs.Emit.{counted_part, ◌▸◌}
use Rattle.emit.specs.Laws.{byte-first}
use Rattle.sheet_trees.specs.declared.names.Names.{Names}
use Rattle.sheet_trees.specs.Names.{name_in, name_in_by}
use Rattle.sheet_trees.specs.Parts.{opt_part, reference_bytes, internal_bytes, misplaced_bytes, index_bytes, here_bytes, own_bytes, file_bytes, import_bytes}

-- ---- parts that may be missing

part-guid : (o : Option Bytes) → opt_part 0 o ≡ encode (opt guid) o
unfolding opt_part opt guid le_bytes
part-guid None = refl
part-guid (Some bs) = refl

part-name : (o : Option Bytes) → opt_part 1 o ≡ encode (opt name) o
unfolding opt_part opt name
part-name None = refl
part-name (Some bs) = refl

module _ (s : List ℕ) where
  module _ {a : Result Place Refusal} {p : Place} {bs : Bytes} (e : a ≡ Ok p) (f : bs ≡ part_of s (value p)) where
    pub part-some : value (1 ∷ []) ▸ value bs ≡ value (opt_part 0 (found (bytes_in s (told a))))
    unfolding opt_part le_bytes
    part-some = rw (e, f)

  -- the byte 1 and the count are put as one number
  pub counted-some : {a : Result Place Refusal} {p : Place} → a ≡ Ok p → counted_part s p ≡ value (opt_part 1 (found (bytes_in s (told a))))
  unfolding opt_part le_bytes counted_part
  counted-some {a} {p} e =
      let bs : Bytes = part_of s (value p) in
      let n : length bs % 256 % 256 ≡ length bs % 256 = omega arith in
      ap (λ (l : Answer Bytes). l ▸ value bs) (byte-first 1 1 (length bs % 256) (omega arith)) ∙ rw (n, e)

  pub part_none : (w : ℕ) {a : Result Place Refusal} {e : Refusal} → a ≡ Err e → value (0 ∷ []) ≡ value (opt_part w (found (bytes_in s (told a))))
  unfolding opt_part
  part_none w h = rw h

  pub part-is : (w : ℕ) {a b : Answer Place} → a ≡ b → value (opt_part w (found (bytes_in s a))) ≡ value (opt_part w (found (bytes_in s b)))
  part-is w e = ap (λ (a : Answer Place). value (opt_part w (found (bytes_in s a)))) e

  module _ (lib : TypeLib) where
    pub guid-is : (offset : ℕ) (a : Answer Place) → a ≡ guid_place s lib offset
        → value (opt_part 0 (found (bytes_in s a))) ≡ value (encode (opt guid) (guid_of s lib offset))
    unfolding guid_of
    guid-is offset a e = rw e (ap value (part-guid (found (bytes_in s (guid_place s lib offset)))))

    pub name-is : (offset : ℕ) (a : Answer Place) → a ≡ name_bytes s lib offset
        → value (opt_part 1 (found (bytes_in s a))) ≡ value (encode (opt name) (name_of s lib offset))
    unfolding name_of
    name-is offset a e = rw e (ap value (part-name (found (bytes_in s (name_bytes s lib offset)))))

    -- by names that were looked up
    module _ (t : Names) {E : Type 0} (number : E → ℕ) {x : Result ℤ E} where
      pub in-by : {z : ℤ} {n : ℕ} → x ≡ Ok z → n ≡ of_z w32 z
          → value (opt_part 1 (found (bytes_in s (name_in s lib t n)))) ≡ value (opt_part 1 (name_in_by s lib t (told_as number x)))
      unfolding name_in_by
      in-by {z} {n} e f = rw (e, f)

      pub in-missing : {e : E} → x ≡ Err e → value (0 ∷ []) ≡ value (opt_part 1 (name_in_by s lib t (told_as number x)))
      unfolding name_in_by opt_part
      in-missing h = rw h

    pub name-by : {E : Type 0} (number : E → ℕ) {x : Result ℤ E} {z : ℤ} {n : ℕ} → x ≡ Ok z → n ≡ of_z w32 z
        → value (encode (opt name) (name_of s lib n)) ≡ value (encode (opt name) (name_by s lib (told_as number x)))
    unfolding name_of name_by
    name-by number {x} {z} {n} e f = rw (e, f)

    pub name-missing : {E : Type 0} (number : E → ℕ) {x : Result ℤ E} {e : E} → x ≡ Err e
        → value (0 ∷ []) ≡ value (encode (opt name) (name_by s lib (told_as number x)))
    unfolding name_by opt
    name-missing number h = rw h

-- (the byte 1 and the identifier are put as one number)
pub memid-is : {E : Type 0} (number : E → ℕ) {x : Result ℤ E} {z : ℤ} {n : ℕ} → x ≡ Ok z → n ≡ of_z w32 z
    → value (le_bytes 5 (1 + 256 * n)) ≡ value (encode (opt u32) (memid_by (told_as number x)))
unfolding memid_by opt
memid-is number {x} {z} {n} e f = byte-first 4 1 n (omega arith) ∙ rw (e, f)

pub memid-missing : {E : Type 0} (number : E → ℕ) {x : Result ℤ E} {e : E} → x ≡ Err e
    → value (0 ∷ []) ≡ value (encode (opt u32) (memid_by (told_as number x)))
unfolding memid_by opt
memid-missing number h = rw h

-- ---- references

-- the bytes of a reference, as an emitter has them
abbrev emitted : TypeLib → Reference → Answer Bytes
emitted lib r = value (encode (reference edition-one (type_count lib)) r)

-- which hreftypes hit a typeinfo, and which none, by what the code asks: the sign, the low two bits, and the number without its bit
module _ {h : ℕ} where
  pub not-negative : 0x80000000 ≤ h → HitsNone h → ⊥
  not-negative k n = omega (arith, n.not_negative)

  pub not-import : (h % 4 ≡ 0 → ⊥) → HitsNone h → ⊥
  not-import z n = z n.low_bits_clear

  module _ {c : ℕ} (e : c ≡ cleared h) where
    pub not-multiple : c % 100 ≡ 0 → HitsNone h → ⊥
    not-multiple m n = n.no_multiple (rw (← e) m)

    pub none-hit : h < 0x80000000 → h % 4 ≡ 0 → (c % 100 ≡ 0 → ⊥) → HitsNone h
    none-hit k z m = record { not_negative = k; low_bits_clear = z; no_multiple = λ p. m (rw e p) }

-- (the code and the bit are put as one number)
pub internal-is : (bit index : ℕ) → value (le_bytes 2 (1 + 256 * bit)) ▸ value (le_bytes 2 index) ≡ value (internal_bytes bit index)
unfolding internal_bytes
internal-is bit index = ap (λ (a : Answer Bytes). a ▸ value (le_bytes 2 index)) (byte-first 1 1 bit (omega arith))

pub misplaced-is : (bit offset : ℕ) → value (le_bytes 2 (3 + 256 * bit)) ▸ value (le_bytes 4 offset) ≡ value (misplaced_bytes bit offset)
unfolding misplaced_bytes
misplaced-is bit offset = ap (λ (a : Answer Bytes). a ▸ value (le_bytes 4 offset)) (byte-first 1 3 bit (omega arith))

module _ (s : List ℕ) (lib : TypeLib) where
  own-true : (x : ℕ) (b : Bool) → b ≡ true → encode (opt guid) (guid_of s lib x) ≡ own_bytes b (own_of s lib b x)
  unfolding own_bytes
  own-true x true e = refl
  own-true x false e = absurd (let z : ◌≡◌ {A = ℕ} 0 1 = cc in omega arith)

  own-false : (x : ℕ) (b : Bool) → b ≡ false → le_bytes 4 x ≡ own_bytes b (own_of s lib b x)
  unfolding own_bytes
  own-false x true e = absurd (let z : ◌≡◌ {A = ℕ} 0 1 = cc in omega arith)
  own-false x false e = refl

  pub own-guid : (flags x : ℕ) → flags / 0x10000 % 2 ≡ 1
      → value (encode (opt guid) (guid_of s lib x)) ≡ value (own_bytes (own_is_guid flags) (own_of s lib (own_is_guid flags) x))
  own-guid flags x h = ap value (own-true x (own_is_guid flags) (eq-eqb _ _ h))

  pub own-word : (flags x : ℕ) → (flags / 0x10000 % 2 ≡ 1 → ⊥)
      → value (le_bytes 4 x) ≡ value (own_bytes (own_is_guid flags) (own_of s lib (own_is_guid flags) x))
  own-word flags x h = ap value (own-false x (own_is_guid flags) (ne_eqb _ _ h))

  pub file-some : (at : ℕ) {a : Result Place Refusal} {p : Place} {bs : Bytes} {offset : ℕ} → a ≡ Ok p → bs ≡ part_of s (value p)
      → offset ≡ or_zero (read 4 s (at + 0))
      → value (1 ∷ [])
      ▸ (value (encode (opt guid) (guid_of s lib offset))
      ▸ (value (le_bytes 4 (or_zero (read 4 s (at + 4))))
      ▸ (value (le_bytes 4 (or_zero (read 4 s (at + 8))))
      ▸ (value (le_bytes 2 (length bs)) ▸ value bs))))
      ≡ value (file_bytes s lib at (told a))
  unfolding file_bytes file opt
  file-some at {a} {p} {bs} {offset} e f g = rw (e, f, g)

  pub file-none : (at : ℕ) {a : Result Place Refusal} {e : Refusal} → a ≡ Err e → value (0 ∷ []) ≡ value (file_bytes s lib at (told a))
  unfolding file_bytes opt
  file-none at h = rw h

  pub file-named : {a : Result ImpFile Refusal} {f : ImpFile} (name : Answer Place) → a ≡ Ok f → name ≡ file_name_bytes s f.at f.len
      → value (file_bytes s lib f.at name) ≡ value (encode (opt file) (file_of s lib (told_imp_file a)))
  unfolding file_bytes file_of
  file-named {a} {f} name e g = rw (e, g)

  pub file-missing : {a : Result ImpFile Refusal} {e : Refusal} → a ≡ Err e → value (0 ∷ []) ≡ value (encode (opt file) (file_of s lib (told_imp_file a)))
  unfolding file_of opt
  file-missing h = rw h

  pub import-is : (b at : ℕ) (imp : Answer Place) {flags word : ℕ} → flags ≡ or_zero (read 4 s (at + 0)) → word ≡ or_zero (read 4 s (at + 8))
      → value (2 ∷ [])
      ▸ (value (le_bytes 1 b)
      ▸ (value (le_bytes 4 flags)
      ▸ (value (own_bytes (own_is_guid flags) (own_of s lib (own_is_guid flags) word)) ▸ value (encode (opt file) (file_of s lib imp)))))
      ≡ value (import_bytes (import_of s lib b at imp))
  unfolding import_bytes own_bytes reference import bit
  import-is b at imp {flags} {word} e f = rw (e, f)

  pub resolved-internal : (b : ℕ) (r : Resolved) {i : ℕ} → r ≡ here i → value (internal_bytes b i) ≡ value (reference_bytes lib (reference_from s lib b (value r)))
  unfolding internal_bytes reference_bytes reference_from reference internal bit
  resolved-internal b r {i} e = rw e

  pub resolved-external : (b : ℕ) (r : Resolved) {p : Place} {imp : Answer Place} → r ≡ external p imp
      → value (import_bytes (import_of s lib b p.at imp)) ≡ value (reference_bytes lib (reference_from s lib b (value r)))
  unfolding import_bytes reference_bytes reference_from reference
  resolved-external b r {p} {imp} e = rw e

  -- an hreftype that has one of its low two bits set
  module _ (h : ℕ) {a : Result (ResolvedHreftype Refusal) Refusal} (k : told_resolved a ≡ href_resolved s lib h) (z : h % 4 ≡ 0 → ⊥) where
    pub reference-some : {b : ℕ} {r : ResolvedHreftype Refusal} → b ≡ h / 2 ^ 24 % 2 ^ 1 → a ≡ Ok r
        → value (reference_bytes lib (reference_from s lib b (value (told_hreftype r)))) ≡ emitted lib (reference_of s lib h)
    unfolding reference_bytes
    reference-some {b} {r} g l =
        let m : value (told_hreftype r) ≡ href_resolved s lib h = sym (ap told_resolved l) ∙ k in
        rw (g, m) (ap (emitted lib) (as-resolved s lib h (not-import z)))

    pub reference-none : {e : Refusal} → a ≡ Err e → value (0 ∷ []) ≡ emitted lib (reference_of s lib h)
    unfolding reference_from reference
    reference-none {e = m} l =
        let q : refused (refusal_number m) ≡ href_resolved s lib h = sym (ap told_resolved l) ∙ k in
        ap (λ (x : Answer Resolved). emitted lib (reference_from s lib (bits_of 24 1 h) x)) q ∙ ap (emitted lib) (as-resolved s lib h (not-import z))

-- ---- references in this file

module _ (s : List ℕ) (count b c : ℕ) where
  pub here-long : limit < length s → value (0 ∷ []) ≡ value (here_bytes s count b c)
  unfolding here_bytes
  here-long l = ap (λ (a : Answer ℕ). value (index_bytes b a)) (lent-long _ _ l)

  module _ (l : length s ≤ limit) where
    here-is : (a : Answer ℕ) → a ≡ internal_index count c → value (index_bytes b a) ≡ value (here_bytes s count b c)
    unfolding here_bytes
    here-is a q = ap (λ (x : Answer ℕ). value (index_bytes b x)) (lent_fits s (internal_index count c) a l q)

    pub here-index : c / 100 < count → value (internal_bytes b (c / 100)) ≡ value (here_bytes s count b c)
    here-index lt = here-is (value (c / 100)) (index-there count c lt)

    pub here-beyond : count ≤ c / 100 → value (0 ∷ []) ≡ value (here_bytes s count b c)
    here-beyond le = here-is (refused 9) (index-beyond count c le)

-- an hreftype whose low two bits are clear is in this file
module _ (s : List ℕ) (lib : TypeLib) (h : ℕ) where
  in-this : (b : ℕ) (a : Answer ℕ) → index_bytes b (lent s a) ≡ reference_bytes lib (reference_from s lib b (lent s (map here a)))
  unfolding lent internal_bytes reference_bytes reference_from reference internal bit
  in-this b a = by (ltb limit (length s)) a
    where
      by : (x : Bool) (i : Answer ℕ) → index_bytes b (cond x (refused 1) i) ≡ reference_bytes lib (reference_from s lib b (cond x (refused 1) (map here i)))
      by true i = refl
      by false (value i) = refl
      by false (refused n) = refl

  cleared-low : h % 4 ≡ 0 → cleared h % 4 ≡ 0
  cleared-low z = cond-elim (λ (c : ℕ). c % 4 ≡ 0) (flag_set dispatch_bit h) (h - dispatch_bit) h (λ e. omega (arith, eqb-true (h / dispatch_bit % 2) 1 e)) (λ _. z)

  pub in-this-negative : 0x80000000 ≤ h → value (0 ∷ []) ≡ emitted lib (reference_of s lib h)
  unfolding lent reference_from reference
  in-this-negative k = by (ltb limit (length s)) (negative h) (le-leb 0x80000000 h k) ∙ ap (emitted lib) (as-resolved s lib h (not-negative k))
    where
      by : (x y : Bool) → y ≡ true → value (0 ∷ []) ≡ emitted lib (reference_from s lib (bits_of 24 1 h) (cond x (refused 1) (cond y (refused 9) (resolved_at s lib (cleared h)))))
      by true y e = refl
      by false y e = rw e

  -- its bit, and its number without it
  module _ {b c : ℕ} (k : h < 0x80000000) (z : h % 4 ≡ 0) (g : b ≡ h / 2 ^ 24 % 2 ^ 1) (e : c ≡ cleared h) where
    pub in-this-offset : c % 100 ≡ 0 → value (here_bytes s (type_count lib) b c) ≡ emitted lib (reference_of s lib h)
    unfolding here_bytes reference_bytes
    in-this-offset m =
        let i = internal_index (type_count lib) (cleared h) in
        let r : map here i ≡ resolved_at s lib (cleared h) = in-this-file s lib (cleared h) (map here i) (cleared-low z) refl in
        let q : map here i ≡ cond (negative h) (refused 9) (resolved_at s lib (cleared h)) = rw (lt-leb 0x80000000 h k) r in
        let n = as-resolved s lib h (not-multiple e m) in
        rw (g, e)
        (ap value (in-this (bits_of 24 1 h) i)
        ∙ ap (λ (a : Answer Resolved). emitted lib (reference_from s lib (bits_of 24 1 h) (lent s a))) q
        ∙ ap (emitted lib) n)

    pub in-this-misplaced : (c % 100 ≡ 0 → ⊥) → value (misplaced_bytes b c) ≡ emitted lib (reference_of s lib h)
    unfolding misplaced_bytes reference misplaced bit
    in-this-misplaced m =
        let n = code-three s lib h (none-hit e k z m) in
        rw (g, e) (ap (emitted lib) n)
