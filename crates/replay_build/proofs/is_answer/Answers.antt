-- What was answered decides.
use Rattle.replay_build.proofs.Building.{answer_agrees}
use Rattle.replay_build.proofs.is_answer.Goals as goal

pub returns-in-Err : goal.returns-in-Err
returns-in-Err c = λ e. answer_agrees _ _ _ _ _ _ c.in-Err.is (c.is_refusal.ensures e)

pub returns-in-Ok : goal.returns-in-Ok
returns-in-Ok c = λ e. answer_agrees _ _ _ _ _ _ c.in-Ok.is (c.is_table.ensures e)
