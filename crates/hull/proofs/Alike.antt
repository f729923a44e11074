-- Other rows are not looked at, nor the other desk's bits: two tables that are alike in a row, by sights that agree, have one reach of it. Where nothing is hidden it is the reach of the whole row.
use mathlib.Core.Path.{◌≡◌, refl, sym, ap, ◌∙◌}
use mathlib.Core.Bool.{Bool, true, ◌||◌}
use mathlib.Core.List.{List, [], ◌∷◌}
use Prim.Native.Nat.{ℕ, suc, ◌^◌, ◌<◌}
use native.Mathlib.Omega.{arith}
use lib.Dec.{leb}
use lib.ListN.{length, get_or}
use lib.Ieee.{Float}
use Rattle.segments.specs.declared.Segment.{Segment}
use Rattle.segments.specs.declared.Range.{Range}
use Rattle.segments.specs.Segment.{segment_at}
use Rattle.segments.specs.Ranges.{has_column}
use Rattle.checks.specs.Verdict.{Verdict, Fine, Fault}
use Rattle.codes.specs.declared.Code.{Code}
use Rattle.desks.specs.Desks.{Sight, desk_good}
use Rattle.desks.specs.Agree.{Agree, NothingHidden}
use Rattle.desks.proofs.Shown.{shown_listed}
use Rattle.checks.specs.Tables.{Table, row_of, shown_of}
use Rattle.checks.specs.Checks.{or_fault, judge_row}
use Rattle.checks.specs.Alike.{AlikeFor}
use Rattle.checks.proofs.Checks.{RowFactsFor}
use Rattle.checks.proofs.Alike.{alike_judged, alike_desk, alike_named, alike_shown, agree_alike, shown_whole}
use Rattle.hull.specs.Reach.{touched, reach_over, judge_reach_of, reach_answer, tells, reach_of}
use Rattle.hull.proofs.Hulls.{hull_cong}
use Rattle.hull.proofs.Reaches.{judged_reach}

-- entries whose segments are the same in two buffers touch the same columns
touched_same : (A B : List Float) (l : List ℕ) (x : ℕ) → ((j : ℕ) → j < length l → segment_at A (get_or l j 0) ≡ segment_at B (get_or l j 0)) → touched A l x ≡ touched B l x
touched_same A B [] x h = refl
touched_same A B (i ∷ l) x h =
    ap (λ (s : Segment). has_column s x || touched A l x) (h 0 (omega arith)) ∙ rw (touched_same A B l x (λ j k. h (suc j) (omega (arith, k))))

module _ {y : ℕ} {t u : Table} {s r : Sight} (k : AlikeFor y t s u r) where
  alike_judged_reach : (W : ℕ) → judge_reach_of t s y W ≡ judge_reach_of u r y W
  unfolding judge_reach_of
  alike_judged_reach W =
      ap (λ (v : Verdict). or_fault (desk_good s) Code.Desk (or_fault (leb W (2 ^ 23)) Code.Size v)) (alike_judged k true)
      ∙ ap (λ (b : Bool). or_fault b Code.Desk (or_fault (leb W (2 ^ 23)) Code.Size (judge_row u r y true))) (alike_desk k)

  -- where the row passes its checks, its shown entries name the same segments
  shown_named : RowFactsFor t s y → (j : ℕ) → j < length (shown_of t s y) → segment_at t.segments (get_or (shown_of t s y) j 0) ≡ segment_at u.segments (get_or (shown_of t s y) j 0)
  shown_named f j l =
      let q = shown_listed s (row_of t y) j l in
      ap (segment_at t.segments) (sym q.is_it) ∙ alike_named k.tables f.table q.entry q.in_list ∙ ap (segment_at u.segments) q.is_it

  pub reached_alike : (W : ℕ) → reach_of t s y W ≡ reach_of u r y W
  unfolding reach_of
  reached_alike W =
      go (judge_reach_of t s y W) refl
      ∙ ap (λ (v : Verdict). tells (reach_answer v (reach_over u.segments W (shown_of u r y)))) (alike_judged_reach W)
    where
      go : (v : Verdict) → judge_reach_of t s y W ≡ v → tells (reach_answer v (reach_over t.segments W (shown_of t s y))) ≡ tells (reach_answer v (reach_over u.segments W (shown_of u r y)))
      go (Fault c) e = refl
      go Fine e =
          let f = (judged_reach t s y W e).row in
          ap (λ (q : Range). tells (reach_answer Fine q))
          (hull_cong (touched t.segments (shown_of t s y)) (touched u.segments (shown_of t s y)) W (λ x l. touched_same t.segments u.segments (shown_of t s y) x (shown_named f))
          ∙ ap (reach_over u.segments W) (alike_shown k f))

-- the other desk's bits change nothing of a desk's reach
pub desks_apart : (t : Table) (s r : Sight) (y W : ℕ) → Agree s r → s.owners ≡ r.owners → reach_of t s y W ≡ reach_of t r y W
desks_apart t s r y W g e = reached_alike (agree_alike t s r y g e) W

-- where nothing is hidden, the reach is over every listed segment
pub whole_reach : (t : Table) (s : Sight) (y W : ℕ) → NothingHidden s → reach_of t s y W ≡ tells (reach_answer (judge_reach_of t s y W) (reach_over t.segments W (row_of t y)))
unfolding reach_of
whole_reach t s y W g = go (judge_reach_of t s y W) refl
  where
    go : (v : Verdict) → judge_reach_of t s y W ≡ v → tells (reach_answer v (reach_over t.segments W (shown_of t s y))) ≡ tells (reach_answer v (reach_over t.segments W (row_of t y)))
    go (Fault c) e = refl
    go Fine e = ap (λ (l : List ℕ). tells (reach_answer Fine (reach_over t.segments W l))) (shown_whole t s y g (judged_reach t s y W e).row)

-- Assumes nothing.
