-- The codes of reach, and when each is given: the table of codes, in the order of the checks. Definitions only.
-- That reach refuses exactly so is proofs/Refusals.antt.
use Rattle.std.specs.Prelude.{ℕ, ◌^◌, ◌≤◌, ◌<◌, length}
use Rattle.codes.specs.declared.Code.{Code}
use Rattle.desks.specs.Desks.{Sight}
use Rattle.checks.specs.Tables.{Table}
use Rattle.checks.specs.Refusals.{OverrunFor, CountsFitFor, Lent, RowBadFor}

-- reach in an image of the width W: the code and the place, when
pub data ReachRefusal (t : Table) (s : Sight) (y W : ℕ) : Code → ℕ → Type 0 where
  -- 19: a desk other than 0 or 1
  desk : 2 ≤ s.desk → ReachRefusal t s y W Code.Desk 0
  -- 8: the width is above 2^23
  size : s.desk < 2 → 2 ^ 23 < W → ReachRefusal t s y W Code.Size 0
  -- 14, 20, 15 and 14: as of drawing
  counts : s.desk < 2 → W ≤ 2 ^ 23 → OverrunFor t s → ReachRefusal t s y W Code.Table 0
  trace : s.desk < 2 → W ≤ 2 ^ 23 → CountsFitFor t s → length s.bits < s.splines → ReachRefusal t s y W Code.Trace 0
  row : W ≤ 2 ^ 23 → Lent t s → t.height ≤ y → ReachRefusal t s y W Code.Row 0
  entries : W ≤ 2 ^ 23 → Lent t s → y < t.height → RowBadFor t s y → ReachRefusal t s y W Code.Table 0
