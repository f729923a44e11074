-- `paint`: no room for a spline, or the rows of the segments that stand on the front of their buffer.
use mathlib.Core.Path.{sym, ◌∙◌}
use native.Mathlib.Omega.{arith}
use lib.ListN.{length}
use Rattle.dequantize.specs.Judge.{description_in}
use Rattle.curve.specs.Curve.{path_room}
use Rattle.walk.specs.Walk.{walk_room}
use Rattle.owners.specs.Owners.{owned_room}
use Rattle.painting.specs.Painting.{paint_of}
use Rattle.table.proofs.Placing.{painted_fits, refused_none, listed_all}
use Rattle.table.proofs.paint.Goals as goal

pub list_segments-requires : goal.list_segments-requires
list_segments-requires c =
    let d = c.draw_all in
    let f = painted_fits c.args.segments.now _ c.args.owners.now _ (paint_of (description_in c.args.description.now) c.args.given c.args.high_precision (path_room (length c.args.path.now)) (walk_room (length c.args.walk.now)) (owned_room (length c.args.segments.now) (length c.args.owners.now))) d.ensures.1 c.in-Ok.count (sym d.ensures.0 ∙ c.in-Ok.is) in
    (omega (arith, f.0, d.auto.out), omega (arith, f.1, d.auto.owners), f.2, c.requires.2, c.requires.3)

pub returns-in-Err : goal.returns-in-Err
returns-in-Err c =
    let d = c.draw_all in
    refused_none c.args.path.now c.args.walk.now c.args.segments.now c.args.owners.now c.args.row_starts.now c.args.entries.now d.new.path d.new.walk d.new.out d.new.owners d.auto.path d.auto.walk d.auto.out d.auto.owners
    c.args.height c.args.estimate (paint_of (description_in c.args.description.now) c.args.given c.args.high_precision (path_room (length c.args.path.now)) (walk_room (length c.args.walk.now)) (owned_room (length c.args.segments.now) (length c.args.owners.now))) c.in-Err.k c.refuse.ensures (sym d.ensures.0 ∙ c.in-Err.is)

pub returns-in-Ok : goal.returns-in-Ok
returns-in-Ok c =
    let d = c.draw_all in
    listed_all c.args.path.now c.args.walk.now c.args.segments.now c.args.owners.now c.args.row_starts.now c.args.entries.now d.new.path d.new.walk d.new.out d.new.owners d.auto.path d.auto.walk d.auto.out d.auto.owners
    c.args.height c.args.estimate (paint_of (description_in c.args.description.now) c.args.given c.args.high_precision (path_room (length c.args.path.now)) (walk_room (length c.args.walk.now)) (owned_room (length c.args.segments.now) (length c.args.owners.now))) c.in-Ok.count c.list_segments.ensures d.ensures.1 (sym d.ensures.0 ∙ c.in-Ok.is)
