-- What holds of the sheets of an edition. Each law is a law of every format, at the format of the sheet.
-- Assumes nothing.
use Rattle.std.specs.Prelude.{◌≡◌, ◌↔◌, List, [], ◌++◌, ℕ, Some}
use Rattle.std.proofs.Math.Path.{ap}
use Rattle.std.proofs.Math.ListN.{length}
use Rattle.description.specs.Format.{Fits, reads, only-reads, same, prefix-free}
use Rattle.description.specs.Description.{Library}
use Rattle.description.specs.Sheet.{Edition, sheet, sheet_bytes, read_sheet}

module _ (e : Edition) where
  -- two sheets have one length and equal bytes exactly if their descriptions are equal
  pub sheets-same : {d d' : Library} → Fits (sheet e) d → Fits (sheet e) d'
      → ((length (sheet_bytes e d) ≡ length (sheet_bytes e d')) × (sheet_bytes e d ≡ sheet_bytes e d')) ↔ (d ≡ d')
  unfolding sheet sheet_bytes
  sheets-same h h' = (λ p. (same (sheet e) h h').0 p.1, λ p. (ap (λ x. length (sheet_bytes e x)) p, ap (sheet_bytes e) p))

  -- no sheet begins another
  pub sheets-prefix-free : {d d' : Library} (s : List ℕ) → Fits (sheet e) d → Fits (sheet e) d'
      → sheet_bytes e d ++ s ≡ sheet_bytes e d' → (d ≡ d') × (s ≡ [])
  unfolding sheet sheet_bytes
  sheets-prefix-free s h h' p = prefix-free (sheet e) s h h' p

  -- a sheet is read back, whatever follows it
  pub sheet-reads : (d : Library) (rest : List ℕ) → Fits (sheet e) d → read_sheet e (sheet_bytes e d ++ rest) ≡ Some (d, rest)
  unfolding sheet sheet_bytes read_sheet
  sheet-reads = reads (sheet e)

  -- nothing but a sheet is read
  pub sheet-only-reads : {d : Library} {bs rest : List ℕ} → read_sheet e bs ≡ Some (d, rest) → Fits (sheet e) d × (bs ≡ sheet_bytes e d ++ rest)
  unfolding sheet sheet_bytes read_sheet
  sheet-only-reads p = only-reads (sheet e) p
