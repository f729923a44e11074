-- What was added decides.
use Rattle.replay_layers.proofs.Agreeing.{added_agrees}
use Rattle.replay_layers.proofs.is_added.Goals as goal

pub returns-in-None : goal.returns-in-None
returns-in-None c = λ e. added_agrees _ c.in-None.is (c.is_nothing.ensures e)

pub returns-in-Some : goal.returns-in-Some
returns-in-Some c = λ e. added_agrees _ c.in-Some.is (c.is_made.ensures e)
