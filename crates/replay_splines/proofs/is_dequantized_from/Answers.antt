-- The numbers are those of the words.
use Rattle.replay_splines.proofs.Agreeing.{numbers_agree}
use Rattle.replay_splines.proofs.is_dequantized_from.Goals as goal

pub returns : goal.returns
returns c =
    let A = c.args in
    λ e. numbers_agree A.input.now A.output.now A.deltas.now A.coefficients.now c.float-x.ensures c.float-y.ensures c.given_of-given.ensures c.dequantize-dequantized.ensures (c.is_dequantized.ensures e)
