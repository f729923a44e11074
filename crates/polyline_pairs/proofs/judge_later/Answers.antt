-- `polyline_pairs::judge_later` meets its contract: the machine's equality of two pairs in range is that of points.
use mathlib.Core.Path.{sym, ◌∙◌}
use Rattle.polyline.specs.Read.{placeable, meets, track_to, judged_of}
use Rattle.polyline_pairs.proofs.Numbers.{same_is}
use Rattle.polyline_pairs.proofs.judge_later.Goals as goal

pub returns-then-eq : goal.returns-then-eq
unfolding judged_of placeable meets track_to
returns-then-eq c =
    let A = c.args in
    let same = same_is A.track.place.point A.q c.requires.0.held.1 (sym c.if-not-valid_point_pos-2.ensures) in
    rw (← c.minus-delta.ensures, sym c.if-not-valid_point_pos.ensures, sym c.if-not-valid_point_pos-2.ensures, sym same ∙ sym c.if-eq.ensures)

pub returns : goal.returns
unfolding judged_of placeable meets track_to
returns c =
    let A = c.args in
    let same = same_is A.track.place.point A.q c.requires.0.held.1 (sym c.if-not-valid_point_pos-2.ensures) in
    rw (← c.minus-delta.ensures, sym c.if-not-valid_point_pos.ensures, sym c.if-not-valid_point_pos-2.ensures, sym same ∙ sym c.if-eq.ensures)
