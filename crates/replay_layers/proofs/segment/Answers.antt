-- The floats are those of the words.
use Rattle.replay_layers.proofs.Agreeing.{segment_agrees}
use Rattle.replay_layers.proofs.segment.Goals as goal

pub returns : goal.returns
returns c = λ e. segment_agrees c.args.input.now c.args.output.now _ c.floats.ensures c.add_segment-added.ensures (c.is_added.ensures e)
