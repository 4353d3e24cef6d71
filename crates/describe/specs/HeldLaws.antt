-- The header, typeinfos, import records, import files, array descriptors and records of a chain that the description takes fields
-- of are held, as `YieldLaws` says of the other records: so every field is what its reading answers (`field_is` of `FieldLaws`).
-- Assumes nothing.
use Rattle.std.specs.Prelude.{◌≡◌, refl, List, [], ◌∷◌, ◌++◌, ℕ, zero, suc, ◌+◌, ◌≤◌, ◌<◌}
use Rattle.std.proofs.Common.{sym, ◌∙◌, ap, arith}
use Rattle.util.specs.Read.{le, read, or_zero, read-zero}
use Rattle.records.specs.declared.answer.Place.{Place}
use Rattle.records.specs.declared.types.TypeDescription.{TypeDescription}
use Rattle.records.specs.declared.types.TypeDescription.TheVariants as type
use Rattle.records.specs.Answer.{Answer, value, refused, bind}
use Rattle.records.specs.Counted.{imp_file_size, array_desc_size}
use Rattle.records.specs.Layout.{size_of, type_info_base, imp_info, imp_file, array_desc, ref_record}
use Rattle.records.specs.RecordLaws.{Holds}
use Rattle.typelib.specs.declared.TypeLib.{TypeLib}
use Rattle.typelib.specs.Header.{header, parse_of}
use Rattle.typelib.specs.Tables.{lent, segment_of, place_in, table_place}
use Rattle.typelib.specs.TableLaws.{found as found-place}
use Rattle.cursors.specs.CursorLaws.{lent-value}
use Rattle.impltypes.specs.Chain.{ChainAt, place_at, records_from}
use Rattle.impltypes.specs.ChainLaws.{place_is, inside, walk-took, records}
use Rattle.typelib.specs.Tabulate.{tabulate}
use Rattle.description.specs.Format.{Each}
use Rattle.typelib.specs.References.{Resolved, imp_file_at, href_resolved}
use Rattle.typelib.specs.References.{internal as here, external}
use Rattle.typelib.specs.Descriptors.{array_desc_at, type_description}
use Rattle.typelib.specs.TypeInfos.{typeinfo_of}
use Rattle.describe.specs.Values.{field_of}
use Rattle.describe.specs.Answers.{IfValue, told, anything, answers-bind, answers-mono, answers-value}
use Rattle.describe.specs.Cases.{resolved-cases, description-cases}
use Rattle.describe.specs.Refusals.{parse-sound, typeinfo-sound}

module _ (s : List ℕ) where
  -- the place of a record whose fixed part is `fixed`
  abbrev pub HeldAt : ℕ → Place → Type 0
  HeldAt fixed p = Holds s p.at p.len fixed

  pub header-held : IfValue (λ _. Holds s 0 (size_of header) (size_of header)) (parse_of s)
  header-held = answers-mono (parse-sound s) (λ _ _. tt) (λ _ h. h)

  module _ (lib : TypeLib) where
    pub typeinfo-held : (i : ℕ) → IfValue (HeldAt (size_of type_info_base)) (typeinfo_of s lib i)
    typeinfo-held i = answers-mono (typeinfo-sound s lib i) (λ _ _. tt) (λ p h. h)

    -- ---- records of tables

    place-held : (k offset size fixed : ℕ) → fixed ≤ size → IfValue (HeldAt fixed) (table_place s lib k offset size)
    place-held k offset size fixed h =
        told (table_place s lib k offset size) (λ p e.
        let f = found-place s lib k offset size p e in
        record { few = f.few; whole = omega (arith, f.whole); inside = omega (arith, f.whole, f.inside) })

    -- an import record, and the import file that it names
    abbrev pub ImportHeld : Resolved → Type 0
    ImportHeld (here i) = Unit {0}
    ImportHeld (external p file) = HeldAt (size_of imp_info) p × IfValue (HeldAt (size_of imp_file)) file

    file-held : (offset : ℕ) → IfValue (HeldAt (size_of imp_file)) (imp_file_at s lib offset)
    file-held offset =
        answers-bind (anything (table_place s lib 2 offset 14)) (λ p _.
        place-held 2 offset (imp_file_size (le 2 s (p.at + 12))) 14 (omega arith))

    pub import-held : (h : ℕ) → IfValue ImportHeld (href_resolved s lib h)
    import-held =
        resolved-cases s lib ImportHeld (λ _ _. tt) (λ p offset e.
        (answers-value (place-held 1 offset 12 12 (omega arith)) (sym e), file-held (le 4 s (p.at + 4))))

    -- ---- array descriptors, with the bounds that they count

    pub record Starts (k offset : ℕ) (p : Place) : Type 0 where
      pub table : Place
      pub segment : value table ≡ segment_of lib k
      pub at : p.at ≡ table.at + offset

    starts : (k offset size : ℕ) (p : Place) → value p ≡ table_place s lib k offset size → Starts k offset p
    starts k offset size p e = by (segment_of lib k) refl (lent-value s p _ e).is
      where
        by : (a : Answer Place) → a ≡ segment_of lib k → value p ≡ bind a (λ table. place_in s table offset size) → Starts k offset p
        by (value table) h f =
            record { table = table; segment = h; at = ap (λ (x : Place). x.at) (place_is s table offset size p f) }
        by (refused n) h f = absurd (let z : ◌≡◌ {A = ℕ} 0 1 = cc in omega arith)

    -- two places at one offset of a table start together
    together : {k offset : ℕ} {p q : Place} → Starts k offset p → Starts k offset q → p.at ≡ q.at
    together {k} {offset} {p} {q} a b =
        let e : value a.table ≡ value b.table = a.segment ∙ sym b.segment in
        let t : a.table ≡ b.table = cc in
        a.at ∙ ap (λ (x : Place). x.at + offset) t ∙ sym b.at

    array-held : (offset : ℕ) → IfValue (λ d. HeldAt (array_desc_size (field_of array_desc "dimensions" s d.at)) d) (array_desc_at s lib offset)
    array-held offset =
        answers-bind (told {P = λ p. value p ≡ table_place s lib 10 offset 8} (table_place s lib 10 offset 8) (λ p e. e)) (λ p e.
        let size : ℕ = array_desc_size (le 2 s (p.at + 4)) in
        told (table_place s lib 10 offset size) (λ q f.
        let h = found-place s lib 10 offset size q f in
        let a : q.at ≡ p.at = together (starts 10 offset size q f) (starts 10 offset 8 p e) in
        let n : or_zero (read 2 s (q.at + 4)) ≡ le 2 s (p.at + 4) =
        read-zero 2 s (q.at + 4) (or_zero (read 2 s (q.at + 4))) (omega (arith, h.inside)) refl ∙ ap (λ (x : ℕ). le 2 s (x + 4)) a in
        record { few = h.few; whole = omega (arith, h.whole); inside = omega (arith, h.whole, h.inside) }))

    abbrev pub ArrayHeld : TypeDescription → Type 0
    ArrayHeld (type.Base vt) = Unit {0}
    ArrayHeld (type.Pointer x) = Unit {0}
    ArrayHeld (type.SafeArray x) = Unit {0}
    ArrayHeld (type.CArray d) = Holds s d.at d.len (array_desc_size (field_of array_desc "dimensions" s d.at))
    ArrayHeld (type.UserDefined x) = Unit {0}

    pub descriptor-held : (field : ℕ) → IfValue ArrayHeld (lent s (type_description s lib field))
    descriptor-held =
        description-cases s lib ArrayHeld (λ _ _. tt) (λ _. tt) (λ _. tt) (λ p offset e. answers-value (array-held offset) (sym e)) (λ _. tt)

-- ---- the records of a chain

each_append : {A : Type 0} (P : A → Type 0) (xs ys : List A) → Each P xs → Each P ys → Each P (xs ++ ys)
each_append P [] ys h k = k
each_append P (x ∷ xs) ys h k = (h.0, each_append P xs ys h.1 k)

each-tabulate : {A : Type 0} (P : A → Type 0) (f : ℕ → A) (n : ℕ) → ((k : ℕ) → k < n → P (f k)) → Each P (tabulate f n)
unfolding tabulate
each-tabulate P f zero h = tt
each-tabulate P f (suc n) h =
    each_append P (tabulate f n) (f n ∷ []) (each-tabulate P f n (λ k l. h k (omega arith))) (h n (omega arith), tt)

module _ (s : List ℕ) (c : ChainAt) where
  pub chain_held : IfValue (Each (HeldAt s (size_of ref_record))) (records_from s c)
  chain_held =
      told (records_from s c) (λ ps e.
      let r = records s c ps e in
      let w = (walk-took s c r.n).0 r.walked in
      rw r.are (each-tabulate (HeldAt s (size_of ref_record)) (place_at s c) r.n (λ k l.
      record { few = w.0; whole = omega arith; inside = inside s c k (w.1.passes k l) })))
