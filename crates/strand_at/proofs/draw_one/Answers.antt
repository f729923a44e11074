-- `draw_one`: the spline is dequantized again, and its start is a place, since it was accepted.
use mathlib.Core.Path.{sym, ◌∙◌}
use Rattle.strand_at.proofs.Starts.{start_walk}
use Rattle.strand_at.proofs.draw_one.Goals as goal

pub unwrap-spline-requires : goal.unwrap-spline-requires
unwrap-spline-requires c = rw (c.spline_at.ensures, c.requires.3.is)

pub unwrap-start-requires : goal.unwrap-start-requires
unwrap-start-requires c = rw (c.starting_point.ensures, c.requires.3.begins)

pub draw_spline-requires : goal.draw_spline-requires
draw_spline-requires c =
    (start_walk _ _ _ _ _ c.requires.3 _ c.starting_point.ensures c.unwrap-start.ensures, c.requires.2)

pub returns : goal.returns
returns c =
    rw (sym c.starting_point.ensures ∙ c.unwrap-start.ensures, sym c.spline_at.ensures ∙ c.unwrap-spline.ensures) c.draw_spline.ensures
