-- The parts of the words are where the number of points says.
use Rattle.replay_splines.proofs.Agreeing.{taken, case_agrees}
use Prim.Native.Nat.{◌*◌}
use native.Mathlib.Omega.{arith}
use borrow.Author.Rules.{rules}
use Rattle.replay_splines.proofs.dequantize.Goals as goal

pub slice_bounds-is_dequantized_from-end : goal.slice_bounds-is_dequantized_from-end
slice_bounds-is_dequantized_from-end c =
    let t = taken _ 64 (2 * c.count-n.result) _ c.signeds.ensures (omega (arith, c.if-n-gt32.false)) in
    search (rules, t)

pub returns : goal.returns
returns c =
    let A = c.args in
    λ e. case_agrees A.input.now A.output.now c.count-n.ensures.0 c.signeds.ensures c.signeds-2.ensures (c.is_dequantized_from.ensures e)
