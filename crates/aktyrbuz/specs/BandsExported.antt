-- What the exports for a summary return and leave, as in Exported.antt. Definitions only.
use Rattle.std.specs.Prelude.{List, ℕ, ℤ}
use Rattle.bands.specs.Calls.{BandsOutcome}
use Rattle.told.specs.Told.{told_bands, told_in}

pub record BandsExport : Type 0 where
  pub number : ℕ
  pub answer : List ℤ
  pub cells : List ℕ

abbrev pub bands_leaves : ℕ → List ℤ → List ℕ → BandsExport
bands_leaves r five cells = record { number = r; answer = five; cells = cells }

abbrev pub bands_export : BandsOutcome → BandsExport
bands_export o = bands_leaves (told_bands o.answer).number (told_in (told_bands o.answer)) o.cells
