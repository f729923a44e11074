-- `text::turn` meets its contract: in each arm the step is known.
use mathlib.Core.Path.{sym, ◌∙◌}
use native.Mathlib.Omega.{arith}
use Rattle.text.proofs.Reading.{turn_full, turn_ends, turn_on, turn_stranger, turn_great}
use Rattle.text.proofs.turn.Goals as goal

pub returns-then-held-values : goal.returns-then-held-values
returns-then-held-values c = turn_full (sym c.step_on.ensures ∙ c.in-Ends.is) (omega arith)

pub returns-in-On : goal.returns-in-On
returns-in-On c = turn_on (sym c.step_on.ensures ∙ c.in-On.is)

pub returns-else-held-values : goal.returns-else-held-values
returns-else-held-values c = turn_ends (sym c.step_on.ensures ∙ c.in-Ends.is) (omega arith)

pub returns-in-Stranger : goal.returns-in-Stranger
returns-in-Stranger c = turn_stranger (sym c.step_on.ensures ∙ c.in-Stranger.is)

pub returns-in-Great : goal.returns-in-Great
returns-in-Great c = turn_great (sym c.step_on.ensures ∙ c.in-Great.is)
