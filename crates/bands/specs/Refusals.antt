-- The codes of making and refreshing a summary, and when each is given: the table of codes, in the order of the checks. Definitions only.
use Rattle.std.specs.Prelude.{ℕ, ◌+◌, ◌*◌, ◌^◌, ◌≤◌, ◌<◌, length}
use Rattle.codes.specs.declared.Code.{Code}
use Rattle.desks.specs.Desks.{Sight}
use Rattle.checks.specs.Tables.{Table}
use Rattle.checks.specs.Refusals.{OverrunFor, CountsFitFor, Lent, RowBadFor}
use Rattle.bands.specs.Bands.{bands_in, row_of_band, rows_in}

-- of n rows from y on, one is bad
pub record RowsBadFor (t : Table) (s : Sight) (y n : ℕ) : Type 0 where
  pub row : ℕ
  pub from : y ≤ row
  pub before : row < y + n
  pub bad : RowBadFor t s row

-- what both calls ask before a row: the code and the place, when
pub data EarlyRefusal (t : Table) (s : Sight) (W room : ℕ) : Code → ℕ → Type 0 where
  -- 8: the width is above 2^23
  size : 2 ^ 23 < W → EarlyRefusal t s W room Code.Size 0
  -- 14: a count overruns its limit or its buffer
  counts : W ≤ 2 ^ 23 → OverrunFor t s → EarlyRefusal t s W room Code.Table 0
  -- 19: a desk other than 0 or 1
  desk : W ≤ 2 ^ 23 → CountsFitFor t s → 2 ≤ s.desk → EarlyRefusal t s W room Code.Desk 0
  -- 20: fewer bytes are lent than there are splines
  trace : W ≤ 2 ^ 23 → CountsFitFor t s → s.desk < 2 → length s.bits < s.splines → EarlyRefusal t s W room Code.Trace 0
  -- 7: fewer than five cells a band are lent
  room : W ≤ 2 ^ 23 → Lent t s → room < 5 * bands_in t.height → EarlyRefusal t s W room Code.Room 0

-- all of that passes
pub record SummaryFits (t : Table) (s : Sight) (W room : ℕ) : Type 0 where
  pub narrow : W ≤ 2 ^ 23
  pub lent : Lent t s
  pub roomy : 5 * bands_in t.height ≤ room

-- making
pub data BandsRefusal (t : Table) (s : Sight) (W room : ℕ) : Code → ℕ → Type 0 where
  early : {c : Code} {p : ℕ} → EarlyRefusal t s W room c p → BandsRefusal t s W room c p
  -- 14: a row of the image is bad
  rows : SummaryFits t s W room → RowsBadFor t s 0 t.height → BandsRefusal t s W room Code.Table 0

-- refreshing band b
pub data BandRefusal (t : Table) (s : Sight) (W room b : ℕ) : Code → ℕ → Type 0 where
  early : {c : Code} {p : ℕ} → EarlyRefusal t s W room c p → BandRefusal t s W room b c p
  -- 23: a band past the last
  band : SummaryFits t s W room → bands_in t.height ≤ b → BandRefusal t s W room b Code.Band 0
  -- 14: a row of the band is bad; other rows are not looked at
  rows : SummaryFits t s W room → b < bands_in t.height → RowsBadFor t s (row_of_band b) (rows_in t.height b) → BandRefusal t s W room b Code.Table 0
