-- The row is that of the first 32 words, and the sum that of the definition.
use Rattle.replay_layers.proofs.Agreeing.{transform_agrees}
use Rattle.replay_layers.proofs.transform.Goals as goal

pub returns : goal.returns
returns c =
    λ e. transform_agrees c.args.input.now c.args.output.now _ c.sums_at-sums.ensures c.all_rows.ensures c.floats.ensures c.float-t.ensures (c.is_only_float.ensures e).1
