-- A summary of every 64 rows of a table for a desk and a width: where the five numbers of each band stand. Definitions only.
use Rattle.std.specs.Prelude.{List, [], ◌∷◌, ℕ, zero, suc, ◌*◌}
use Rattle.std.proofs.lemmas.List.Edits.{sets}
use Rattle.band_sums.specs.declared.BandNumbers.{BandNumbers}
pub use Rattle.band_sums.specs.Numbers.{shown_in, band_good, least_of, greatest_of, band_numbers}
unfoldable pub use Rattle.band_sums.specs.Numbers.{bands_in, row_of_band, rows_in, shown_from, rows_good_from, numbers_over}

-- ---- the cells of a summary: five a band, one band after another

abbrev pub band_cells : BandNumbers → List ℕ
band_cells m = m.entries ∷ m.least ∷ m.greatest ∷ m.first ∷ m.past ∷ []

-- the numbers of band b put into its five cells
unfoldable pub put_band : List ℕ → ℕ → BandNumbers → List ℕ
put_band cells b m = sets cells (5 * b) (band_cells m)

-- those of the first n bands
unfoldable pub put_bands : List ℕ → (ℕ → BandNumbers) → ℕ → List ℕ
put_bands cells of zero = cells
put_bands cells of (suc n) = put_band (put_bands cells of n) n (of n)
