-- A hidden segment leaves the channels; any other is drawn.
use mathlib.Core.Path.{sym, ◌∙◌}
use native.Mathlib.Omega.{arith}
use Rattle.desks.specs.Desks.{sight_in}
use Rattle.singles.proofs.Singles.{hidden_kept, hidden_counts, shown_drawn, shown_counts}
use Rattle.singles.proofs.draw_shown.Goals as goal

pub returns-then-hides : goal.returns-then-hides
returns-then-hides c =
    let A = c.args in
    let P = A.part in
    let s = sight_in A.sight.now in
    let h = sym c.hidden-hides.ensures ∙ c.if-hides.true in
    record {
      value = omega (arith, hidden_counts s A.segments.now P.y P.x0 P.n A.i h);
      r0_after = hidden_kept s A.segments.now P.y P.x0 P.n A.i 0 A.r0.now h;
      r1_after = hidden_kept s A.segments.now P.y P.x0 P.n A.i 1 A.r1.now h;
      r2_after = hidden_kept s A.segments.now P.y P.x0 P.n A.i 2 A.r2.now h;
    }

pub returns-else-hides : goal.returns-else-hides
returns-else-hides c =
    let A = c.args in
    let P = A.part in
    let s = sight_in A.sight.now in
    let h = sym c.hidden-hides.ensures ∙ c.if-hides.false in
    let e = c.draw_segment.ensures in
    record {
      value = shown_counts s A.segments.now P.y P.x0 P.n A.i h e.value;
      r0_after = shown_drawn s A.segments.now P.y P.x0 P.n A.i 0 _ _ h e.r0_after;
      r1_after = shown_drawn s A.segments.now P.y P.x0 P.n A.i 1 _ _ h e.r1_after;
      r2_after = shown_drawn s A.segments.now P.y P.x0 P.n A.i 2 _ _ h e.r2_after;
    }
