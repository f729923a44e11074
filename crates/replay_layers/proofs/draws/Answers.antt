-- The channels are those of the words, and agree as they are left.
use Rattle.checks.specs.Tables.{table_in}
use Rattle.replay_layers.proofs.Agreeing.{from_channels, drawn_agrees}
use Rattle.replay_layers.proofs.draws.Goals as goal

pub channels_agree-requires : goal.channels_agree-requires
channels_agree-requires c = c.requires.1

pub returns-in-Ok : goal.returns-in-Ok
returns-in-Ok c =
    let A = c.args in
    λ e. drawn_agrees (table_in A.table.now) A.y A.x0 A.n A.before.now A.after.now
    (from_channels A.n A.before.now c.floats.ensures c.floats-2.ensures c.floats-3.ensures) c.draw.ensures (c.channels_agree.ensures e)
