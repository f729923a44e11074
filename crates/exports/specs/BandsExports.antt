-- The exports for a summary by their contracts, as in Exports.antt: which outcomes a contract allows, that each is an outcome of its call told in C's terms, and that any two are equal. Definitions only.
use Rattle.std.specs.Prelude.{◌≡◌, List, ℕ, length}
use contract.Lifetimes.{Lfts}
use Rattle.desks.specs.Desks.{Sight, sight_of}
use Rattle.checks.specs.Tables.{Table, table_of}
use Rattle.aktyrbuz.specs.BandsExported.{BandsExport, bands_leaves, bands_export}
use Rattle.aktyrbuz.specs.BandsCalls.{BandsCall, BandCall}
use Rattle.aktyrbuz.proofs.bands_summary.aktyrbuz_bands.Reads as make-contract
use Rattle.aktyrbuz.proofs.bands_summary.aktyrbuz_band.Reads as refresh-contract
use Rattle.exports.specs.Exports.{Tells}

-- making the summary of a table for a desk and a width, with so many cells lent
pub data BandsExportCall : Table → Sight → ℕ → ℕ → BandsExport → Type 0 where
  makes : (κs : Lfts 7) (segments : _) (owners : _) (segment_count : _) (entries : _) (entry_count : _) (row_starts : _) (height : _) (splines : _) (bits : _) (desk : _) (width : _) (cells : _) (answer : _) (r : _)
      (segments' : _) (owners' : _) (segmentCount' : _) (entries' : _) (entryCount' : _) (rowStarts' : _) (height' : _) (splines' : _) (bits' : _) (desk' : _) (width' : _) (cells' : _) (answer' : _)
      → make-contract.Post κs (segments, (owners, (segment_count, (entries, (entry_count, (row_starts, (height, (splines, (bits, (desk, (width, (cells, (answer, tt))))))))))))) r
      (segments', (owners', (segmentCount', (entries', (entryCount', (rowStarts', (height', (splines', (bits', (desk', (width', (cells', (answer', tt)))))))))))))
      → BandsExportCall (table_of segments.now segment_count entries.now entry_count row_starts.now height) (sight_of owners.now splines bits.now desk) width (length cells.now) (bands_leaves r answer'.now cells'.now)

-- refreshing one band of the summary in these cells
pub data BandExportCall : Table → Sight → ℕ → ℕ → List ℕ → BandsExport → Type 0 where
  refreshes : (κs : Lfts 7) (segments : _) (owners : _) (segment_count : _) (entries : _) (entry_count : _) (row_starts : _) (height : _) (splines : _) (bits : _) (desk : _) (width : _) (cells : _) (band : _) (answer : _) (r : _)
      (segments' : _) (owners' : _) (segmentCount' : _) (entries' : _) (entryCount' : _) (rowStarts' : _) (height' : _) (splines' : _) (bits' : _) (desk' : _) (width' : _) (cells' : _) (band' : _) (answer' : _)
      → refresh-contract.Post κs (segments, (owners, (segment_count, (entries, (entry_count, (row_starts, (height, (splines, (bits, (desk, (width, (cells, (band, (answer, tt)))))))))))))) r
      (segments', (owners', (segmentCount', (entries', (entryCount', (rowStarts', (height', (splines', (bits', (desk', (width', (cells', (band', (answer', tt))))))))))))))
      → BandExportCall (table_of segments.now segment_count entries.now entry_count row_starts.now height) (sight_of owners.now splines bits.now desk) width band cells.now (bands_leaves r answer'.now cells'.now)

-- whatever an export's contract allows is an outcome that the call's contract allows, the five numbers included
pub record BandsExportsTellTheCalls : Type 0 where
  pub make : (t : Table) (s : Sight) (W room : ℕ) (x : BandsExport) → BandsExportCall t s W room x → Tells (BandsCall t s W room) bands_export x
  pub refresh : (t : Table) (s : Sight) (W b : ℕ) (cells : List ℕ) (x : BandsExport) → BandExportCall t s W b cells x → Tells (BandCall t s W b cells) bands_export x

-- any two outcomes that an export's contract allows are equal
pub record BandsOneOutcomeExported : Type 0 where
  pub make : (t : Table) (s : Sight) (W room : ℕ) (x z : BandsExport) → BandsExportCall t s W room x → BandsExportCall t s W room z → x ≡ z
  pub refresh : (t : Table) (s : Sight) (W b : ℕ) (cells : List ℕ) (x z : BandsExport) → BandExportCall t s W b cells x → BandExportCall t s W b cells z → x ≡ z
