-- The parts of the words are where the first of them say.
use lib.ListN.{get_or}
use Rattle.replay_layers.proofs.Agreeing.{case_agrees}
use Rattle.replay_layers.proofs.draw.Goals as goal

pub returns : goal.returns
returns c =
    let A = c.args in
    let input = A.input.now in
    λ e. case_agrees input A.output.now (get_or input 3 0) (get_or input 4 0) (get_or input 5 0) c.count-m.ensures.0 c.count-e.ensures.0 c.count-h.ensures.0 c.floats.ensures (c.draws.ensures e)
