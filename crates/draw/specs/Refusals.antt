-- The codes of drawing, and when each is given: the table of codes, in the order of the checks. Definitions only.
-- That drawing refuses exactly so is proofs/Refusals.antt.
use Rattle.std.specs.Prelude.{ℕ, ◌≤◌, ◌<◌, length}
use Rattle.codes.specs.declared.Code.{Code}
use Rattle.desks.specs.Desks.{Sight}
use Rattle.checks.specs.Tables.{Table}
use Rattle.checks.specs.Refusals.{OverrunFor, CountsFitFor, Lent, SpanOut, SpanFits, RowBadFor}

-- drawing: the code and the place, when
pub data DrawRefusal (t : Table) (s : Sight) (y x0 n l0 l1 l2 : ℕ) : Code → ℕ → Type 0 where
  -- 19: a desk other than 0 or 1
  desk : 2 ≤ s.desk → DrawRefusal t s y x0 n l0 l1 l2 Code.Desk 0
  -- 14: counts that overrun their buffers, the owners' among them, or exceed their limits
  counts : s.desk < 2 → OverrunFor t s → DrawRefusal t s y x0 n l0 l1 l2 Code.Table 0
  -- 20: fewer bytes than splines
  trace : s.desk < 2 → CountsFitFor t s → length s.bits < s.splines → DrawRefusal t s y x0 n l0 l1 l2 Code.Trace 0
  -- 15: the row is not below the height
  row : Lent t s → t.height ≤ y → DrawRefusal t s y x0 n l0 l1 l2 Code.Row 0
  -- 16: x0 + n above 2^23, or a channel shorter than n
  span : Lent t s → y < t.height → SpanOut x0 n l0 l1 l2 → DrawRefusal t s y x0 n l0 l1 l2 Code.Span 0
  -- 14: starts of the row that descend or pass the entry count, an entry of the row that names no segment, or one whose segment names no spline
  entries : Lent t s → y < t.height → SpanFits x0 n l0 l1 l2 → RowBadFor t s y → DrawRefusal t s y x0 n l0 l1 l2 Code.Table 0
