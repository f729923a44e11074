-- The export for another maker's table tells the check: the contract's equation gives back the answer, which the check's own contract allows.
use mathlib.Core.Path.{◌≡◌, refl, sym, ◌∙◌}
use Rattle.checks.specs.Tables.{Table}
use Rattle.makers.specs.Check.{check_of}
use Rattle.aktyrbuz.specs.MakersExported.{CheckExport, check_export}
use Rattle.aktyrbuz.specs.MakersCalls as calls
use Rattle.exports.specs.MakersExports.{CheckExportCall, checks, CheckExportTellsTheCall, CheckOneOutcomeExported}
use Rattle.exports.proofs.Lending.{lent_table}

pub check_export_tells_the_call : CheckExportTellsTheCall
check_export_tells_the_call t x (checks κs segments segment_count height row_starts entries entry_count answer r segments' segmentCount' height' rowStarts' entries' entryCount' answer' p) = record {
  outcome = check_of t.segments t.segment_count t.height t.row_starts t.entries t.entry_count;
  called = calls.checks κs.1.1 (lent_table segments segment_count entries entry_count row_starts height) _ (lent_table segments' segmentCount' entries' entryCount' rowStarts' height') refl;
  is = p;
}

check_equation : (t : Table) (x : CheckExport) → CheckExportCall t x → x ≡ check_export (check_of t.segments t.segment_count t.height t.row_starts t.entries t.entry_count)
check_equation t x (checks κs _ _ _ _ _ _ _ _ _ _ _ _ _ _ _ p) = p

pub check_one_outcome_exported : CheckOneOutcomeExported
check_one_outcome_exported t x z p q = check_equation t x p ∙ sym (check_equation t z q)

-- Assumes nothing.
