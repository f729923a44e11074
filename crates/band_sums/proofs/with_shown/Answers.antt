-- The five numbers of the sum, each with the entry.
use native.Mathlib.Omega.{arith}
use Rattle.band_sums.proofs.Sums.{one_is}
use Rattle.band_sums.proofs.with_shown.Goals as goal

pub returns : goal.returns
returns c =
    let A = c.args in
    one_is A.segments.now A.width A.sum A.i _ c.at.ensures c.with_segment-joined.ensures c.least_with-least.ensures (omega arith) (omega arith) (omega arith) c.max.ensures
