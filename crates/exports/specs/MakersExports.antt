-- The export for another maker's table by its contract, as in Exports.antt: which outcomes the contract allows, that each is an answer of the check told in C's terms, and that any two are equal. Definitions only.
use Rattle.std.specs.Prelude.{◌≡◌}
use contract.Lifetimes.{Lfts}
use Rattle.checks.specs.Tables.{Table, table_of}
use Rattle.aktyrbuz.specs.MakersExported.{CheckExport, check_leaves, check_export}
use Rattle.aktyrbuz.specs.MakersCalls.{CheckCall}
use Rattle.aktyrbuz.proofs.makers_tables.aktyrbuz_check.Reads as check-contract
use Rattle.exports.specs.Exports.{Tells}

-- of a table
pub data CheckExportCall : Table → CheckExport → Type 0 where
  checks : (κs : Lfts 4) (segments : _) (segment_count : _) (height : _) (row_starts : _) (entries : _) (entry_count : _) (answer : _) (r : _)
      (segments' : _) (segmentCount' : _) (height' : _) (rowStarts' : _) (entries' : _) (entryCount' : _) (answer' : _)
      → check-contract.Post κs (segments, (segment_count, (height, (row_starts, (entries, (entry_count, (answer, tt))))))) r
      (segments', (segmentCount', (height', (rowStarts', (entries', (entryCount', (answer', tt)))))))
      → CheckExportCall (table_of segments.now segment_count entries.now entry_count row_starts.now height) (check_leaves r answer'.now)

-- whatever the export's contract allows is an answer that the check's contract allows, the five numbers included
abbrev pub CheckExportTellsTheCall : Type 0
CheckExportTellsTheCall = (t : Table) (x : CheckExport) → CheckExportCall t x → Tells (CheckCall t) check_export x

-- any two outcomes that the export's contract allows are equal
abbrev pub CheckOneOutcomeExported : Type 0
CheckOneOutcomeExported = (t : Table) (x z : CheckExport) → CheckExportCall t x → CheckExportCall t z → x ≡ z
