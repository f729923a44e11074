-- Control points that the trace has passed may be gone through again, which is what `curve` asks for.
use Rattle.std.proofs.Common.{sym, ◌∙◌}
use Rattle.control_points.proofs.Walks.{traced_walk}
use Rattle.layers.specs.Exported.{path_from}
use Rattle.layers.proofs.Turned.{counted_room}
use Rattle.layers.proofs.path_from.Goals as goal

pub curve-requires : goal.curve-requires
curve-requires c = traced_walk _ _ _ _ c.requires (sym c.trace.ensures ∙ c.in-Ok.is)

pub returns-in-Err : goal.returns-in-Err
unfolding path_from
returns-in-Err c = rw (sym c.trace.ensures ∙ c.in-Err.is)

pub returns-in-Ok : goal.returns-in-Ok
unfolding path_from
returns-in-Ok c =
    let e = c.curve.ensures in
    rw (c.ok_or.ensures.value, e.0, e.1, sym c.trace.ensures ∙ c.in-Ok.is, counted_room)
