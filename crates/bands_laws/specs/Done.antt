-- When making and refreshing a summary are done: no line of their tables of codes holds. Definitions only.
use Rattle.std.specs.Prelude.{◌≡◌, ℕ, ◌<◌}
use Rattle.desks.specs.Desks.{Sight}
use Rattle.checks.specs.Tables.{Table}
use Rattle.bands.specs.Bands.{bands_in, row_of_band, rows_in}
use Rattle.bands.specs.Refusals.{RowsBadFor, SummaryFits}

-- making in so many cells, with n bands: all that is asked before a row passes, no row of the image is bad, and n is how many bands the image has
pub record BandsDone (t : Table) (s : Sight) (W room n : ℕ) : Type 0 where
  pub fits : SummaryFits t s W room
  pub rows : RowsBadFor t s 0 t.height → ⊥
  pub told : n ≡ bands_in t.height

-- refreshing band b: it is one of the image's, and no row of it is bad
pub record BandDone (t : Table) (s : Sight) (W room b n : ℕ) : Type 0 where
  pub fits : SummaryFits t s W room
  pub in_image : b < bands_in t.height
  pub rows : RowsBadFor t s (row_of_band b) (rows_in t.height b) → ⊥
  pub told : n ≡ bands_in t.height
