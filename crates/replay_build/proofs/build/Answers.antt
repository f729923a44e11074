-- The parts of the words are where the first of them say.
use Rattle.replay_build.proofs.Building.{case_agrees}
use Rattle.replay_build.proofs.build.Goals as goal

pub returns : goal.returns
returns c =
    let A = c.args in
    λ e. case_agrees A.input.now A.output.now c.count-splines.ensures.0 c.count-points.ensures.0 (c.is_built_from.ensures e)
