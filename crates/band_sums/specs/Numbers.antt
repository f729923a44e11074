-- The numbers of every 64 rows of a table for a desk and a width: which rows a band has, what is shown of them, and its five numbers. Definitions only.
use Rattle.std.specs.Prelude.{Bool, true, ◌&&◌, ℕ, zero, suc, ◌+◌, ◌-◌, ◌*◌, ◌/◌, min, max, length}
use mathlib.Core.List.{List, [], ◌∷◌, ◌++◌, foldl}
use Rattle.desks.specs.Desks.{Sight}
use Rattle.checks.specs.Tables.{Table, shown_of}
use Rattle.checks.specs.Checks.{row_good_for}
use Rattle.hull.specs.Reach.{reach_over}
use Rattle.band_sums.specs.declared.BandNumbers.{BandNumbers}

-- ---- the rows of a band

-- how many bands an image of H rows has: the last may be shorter than 64
unfoldable pub bands_in : ℕ → ℕ
bands_in H = (H + 63) / 64

-- band b begins with this row
unfoldable pub row_of_band : ℕ → ℕ
row_of_band b = 64 * b

-- and has so many of H
unfoldable pub rows_in : ℕ → ℕ → ℕ
rows_in H b = min 64 (H - 64 * b)

-- what a desk is shown of n rows from y on, row after row
unfoldable pub shown_from : Table → Sight → ℕ → ℕ → List ℕ
shown_from t s y zero = []
shown_from t s y (suc n) = shown_of t s y ++ shown_from t s (suc y) n

-- what a desk is shown of band b
abbrev pub shown_in : Table → Sight → ℕ → List ℕ
shown_in t s b = shown_from t s (row_of_band b) (rows_in t.height b)

-- the starts, entries and owners of n rows from y on are good
unfoldable pub rows_good_from : Table → Sight → ℕ → ℕ → Bool
rows_good_from t s y zero = true
rows_good_from t s y (suc n) = row_good_for t s y && rows_good_from t s (suc y) n

abbrev pub band_good : Table → Sight → ℕ → Bool
band_good t s b = rows_good_from t s (row_of_band b) (rows_in t.height b)

-- ---- the five numbers of a band

-- the least and the greatest of listed segment numbers; 0 of none
abbrev pub least_of : List ℕ → ℕ
least_of [] = 0
least_of (i ∷ l) = foldl min i l

abbrev pub greatest_of : List ℕ → ℕ
greatest_of [] = 0
greatest_of (i ∷ l) = foldl max i l

-- of what is shown: how many entries, the least and the greatest segment number, and the hull of the columns below W that drawing it would touch
unfoldable pub numbers_over : Table → ℕ → List ℕ → BandNumbers
numbers_over t W l = record {
  entries = length l;
  least = least_of l;
  greatest = greatest_of l;
  first = (reach_over t.segments W l).first;
  past = (reach_over t.segments W l).past;
}

abbrev pub band_numbers : Table → Sight → ℕ → ℕ → BandNumbers
band_numbers t s W b = numbers_over t W (shown_in t s b)
