-- The exports for a summary tell the calls: a contract's equation gives back the answer, and with the lent cells it is an outcome that the call's own contract allows.
use mathlib.Core.Path.{◌≡◌, refl, sym, ap, ◌∙◌}
use mathlib.Core.List.{List}
use Prim.Native.Nat.{ℕ}
use lib.ListN.{length, replicate}
use Rattle.desks.specs.Desks.{Sight}
use Rattle.checks.specs.Tables.{Table}
use Rattle.checks.specs.Verdict.{Verdict}
use Rattle.checks.specs.Verdict as Verdict
use Rattle.checks.specs.Verdict.{Fine, Fault}
use Rattle.bands.specs.Bands.{bands_in, band_numbers, put_band}
use Rattle.bands.specs.Calls.{BandsOutcome, leaves, by_verdict, judge_bands, judge_band, fresh_cells, bands_of, band_of}
use Rattle.aktyrbuz.specs.BandsExported.{BandsExport, bands_export}
use Rattle.aktyrbuz.specs.BandsCalls as calls
use Rattle.exports.specs.Exports.{Tells}
use Rattle.exports.specs.BandsExports.{BandsExportCall, makes, BandExportCall, refreshes, BandsExportsTellTheCalls, BandsOneOutcomeExported}
use Rattle.exports.proofs.Lending.{lent_sight, lent_table}

abbrev Whole : BandsOutcome → Type 0
Whole o = leaves o.answer o.cells ≡ o

whole_by : (v : Verdict) (n : ℕ) (done refused : List ℕ) → Whole (by_verdict v n done refused)
whole_by Fine n done refused = refl
whole_by (Fault c) n done refused = refl

bands_whole : (t : Table) (s : Sight) (W room : ℕ) → Whole (bands_of t s W room)
unfolding bands_of
bands_whole t s W room = whole_by (judge_bands t s W room) (bands_in t.height) (fresh_cells t s W room) (replicate room 0)

band_whole : (t : Table) (s : Sight) (W b : ℕ) (cells : List ℕ) → Whole (band_of t s W b cells)
unfolding band_of
band_whole t s W b cells = whole_by (judge_band t s W (length cells) b) (bands_in t.height) (put_band cells b (band_numbers t s W b)) cells

made : (t : Table) (s : Sight) (W room : ℕ) (x : BandsExport) → BandsExportCall t s W room x → Tells (calls.BandsCall t s W room) bands_export x
made t s W room x (makes κs segments owners segment_count entries entry_count row_starts height splines bits desk width cells answer r
    segments' owners' segmentCount' entries' entryCount' rowStarts' height' splines' bits' desk' width' cells' answer' p) =
    let o = bands_of t s W room in
    let same : leaves o.answer cells'.now ≡ o = rw (ap (λ (u : BandsExport). u.cells) p) (bands_whole t s W room) in
    record {
      outcome = leaves o.answer cells'.now;
      called = calls.makes κs.1.1 (lent_table segments segment_count entries entry_count row_starts height) (lent_sight owners splines bits desk) width cells o.answer
          (lent_table segments' segmentCount' entries' entryCount' rowStarts' height') (lent_sight owners' splines' bits' desk') width' cells' same;
      is = p ∙ ap bands_export (sym same);
    }

refreshed : (t : Table) (s : Sight) (W b : ℕ) (cells : List ℕ) (x : BandsExport) → BandExportCall t s W b cells x → Tells (calls.BandCall t s W b cells) bands_export x
refreshed t s W b lent x (refreshes κs segments owners segment_count entries entry_count row_starts height splines bits desk width cells band answer r
    segments' owners' segmentCount' entries' entryCount' rowStarts' height' splines' bits' desk' width' cells' band' answer' p) =
    let o = band_of t s W b lent in
    let same : leaves o.answer cells'.now ≡ o = rw (ap (λ (u : BandsExport). u.cells) p) (band_whole t s W b lent) in
    record {
      outcome = leaves o.answer cells'.now;
      called = calls.refreshes κs.1.1 (lent_table segments segment_count entries entry_count row_starts height) (lent_sight owners splines bits desk) width cells band o.answer
          (lent_table segments' segmentCount' entries' entryCount' rowStarts' height') (lent_sight owners' splines' bits' desk') width' cells' band' same;
      is = p ∙ ap bands_export (sym same);
    }

pub bands_exports_tell_the_calls : BandsExportsTellTheCalls
bands_exports_tell_the_calls = record { make = made; refresh = refreshed }

bands_equation : (t : Table) (s : Sight) (W room : ℕ) (x : BandsExport) → BandsExportCall t s W room x → x ≡ bands_export (bands_of t s W room)
bands_equation t s W room x (makes κs _ _ _ _ _ _ _ _ _ _ _ _ _ _ _ _ _ _ _ _ _ _ _ _ _ _ _ p) = p

band_equation : (t : Table) (s : Sight) (W b : ℕ) (cells : List ℕ) (x : BandsExport) → BandExportCall t s W b cells x → x ≡ bands_export (band_of t s W b cells)
band_equation t s W b cells x (refreshes κs _ _ _ _ _ _ _ _ _ _ _ _ _ _ _ _ _ _ _ _ _ _ _ _ _ _ _ _ _ p) = p

pub bands_one_outcome_exported : BandsOneOutcomeExported
bands_one_outcome_exported = record {
  make = λ t s W room x z p q. bands_equation t s W room x p ∙ sym (bands_equation t s W room z q);
  refresh = λ t s W b cells x z p q. band_equation t s W b cells x p ∙ sym (band_equation t s W b cells z q);
}

-- Assumes nothing.
