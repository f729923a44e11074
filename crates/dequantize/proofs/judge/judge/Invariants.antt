-- The invariant is a run over the splines, with what SHAPE asks for.
use Rattle.std.proofs.Common.{◌*◌, ◌≤◌, length}
use Rattle.dequantize.specs.Judge.{description_in, Shaped}
use Rattle.dequantize.proofs.Judging.{Under}
use Rattle.dequantize.proofs.judge.judge.Given as goal

abbrev pub invariant-loop-k : goal.invariant-loop-k
invariant-loop-k l =
    (l.at ≤ length l.description.deltas.now)
    × (2 * length l.description.counts.now ≤ length l.description.starts.now)
    × (128 * length l.description.counts.now ≤ length l.description.coefficients.now)
    × Shaped (description_in l.description)
    × Under (description_in l.description) l.given l.k-counter l.at l.total
