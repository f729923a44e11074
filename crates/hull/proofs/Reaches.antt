-- Laws of `reach`: the entries from the front, the checks and the answer.
use mathlib.Core.Path.{◌≡◌, refl, sym, ap, subst, ◌∙◌}
use mathlib.Core.Bool.{Bool, true, false, cond}
use mathlib.Core.List.{List, ◌∷◌}
use Prim.Native.Nat.{ℕ, ◌+◌, ◌^◌, ◌<◌, ◌≤◌}
use native.Mathlib.Omega.{arith}
use lib.Dec.{leb}
use lib.ListN.{length, get_or}
use lib.Seq.{slice}
use lib.Ieee.{Float}
use borrow.Author.Tests.{leb-true, ltb-true}
use Rattle.std.specs.Prelude.{Ok, Err}
use Rattle.codes.specs.declared.Code.{Code}
use Rattle.segments.specs.Segment.{segment_at}
use Rattle.segments.specs.declared.Segment.{Segment}
use Rattle.segments.specs.declared.Range.{Range}
use Rattle.checks.specs.Verdict.{Verdict, Fine, Fault}
use Rattle.desks.specs.Desks.{Sight, hidden_in, shown, desk_good}
use Rattle.checks.specs.Tables.{Table, shown_of}
use Rattle.checks.specs.Refusals.{Lent}
use Rattle.checks.proofs.Checks.{RowFactsFor, passed_check, judged_row}
use Rattle.checks.proofs.Entries.{slice_next, slice_none}
use Rattle.joins.specs.Joins.{joined, columns_below}
use Rattle.joins.proofs.Joins.{same_range}
use Rattle.hull.specs.Reach.{none, touched, reach_over, judge_reach_of, reach_answer, tells, reach_of}
use Rattle.hull.specs.ReachAnswer.{ReachAnswer, Done, Refused}
use Rattle.hull.proofs.Hulls.{Least, Passing, least_hull, joined_over, joined_over_lem}

-- ---- the entries

-- a segment that is hidden leaves what was found, any other is joined
abbrev pub found_with : Sight → List Float → ℕ → Range → ℕ → Range
found_with s segs W r i = cond (hidden_in s i) r (joined r (columns_below W (segment_at segs i)))

pub found_hidden : (s : Sight) (segs : List Float) (W : ℕ) (r : Range) (i : ℕ) → hidden_in s i ≡ true → r ≡ found_with s segs W r i
found_hidden s segs W r i e = rw e

pub found_shown : (s : Sight) (segs : List Float) (W : ℕ) (r : Range) (i : ℕ) (q : Range) (z : Segment) → hidden_in s i ≡ false → z ≡ segment_at segs i → q ≡ joined r (columns_below W z) → q ≡ found_with s segs W r i
found_shown s segs W r i q z e u v = rw e (v ∙ ap (λ (w : Segment). joined r (columns_below W w)) u)

found_first : (s : Sight) (segs : List Float) (W : ℕ) (r : Range) (i : ℕ) (l : List ℕ) → joined_over segs W (found_with s segs W r i) (shown s l) ≡ joined_over segs W r (shown s (i ∷ l))
found_first s segs W r i l = go (hidden_in s i)
  where
    go : (b : Bool) → joined_over segs W (cond b r (joined r (columns_below W (segment_at segs i)))) (shown s l) ≡ joined_over segs W r (cond b (shown s l) (i ∷ shown s l))
    go true = refl
    go false = refl

pub reach_next : (s : Sight) (segs : List Float) (W j e : ℕ) (l : List ℕ) (r q all : Range) → j < e → e ≤ length l → joined_over segs W r (shown s (slice j e l)) ≡ all → q ≡ found_with s segs W r (get_or l j 0) → joined_over segs W q (shown s (slice (j + 1) e l)) ≡ all
reach_next s segs W j e l r q all h k p v =
    ap (λ (z : Range). joined_over segs W z (shown s (slice (j + 1) e l))) v
    ∙ found_first s segs W r (get_or l j 0) (slice (j + 1) e l)
    ∙ ap (λ (m : List ℕ). joined_over segs W r (shown s m)) (sym (slice_next j e l h k))
    ∙ p

pub reach_end : (s : Sight) (segs : List Float) (W b j e : ℕ) (l : List ℕ) (r : Range) → W ≤ 2 ^ 23 → j ≤ e → e ≤ j → joined_over segs W r (shown s (slice j e l)) ≡ joined_over segs W none (shown s (slice b e l)) → r ≡ reach_over segs W (shown s (slice b e l))
reach_end s segs W b j e l r w h k p = ap (λ (m : List ℕ). joined_over segs W r (shown s m)) (sym (slice_none j e l h k)) ∙ p ∙ joined_over_lem segs W w (shown s (slice b e l))

-- ---- the checks and the answer

-- every check of `reach` passed
pub record PassedReach (t : Table) (s : Sight) (y W : ℕ) : Type 0 where
  pub narrow : W ≤ 2 ^ 23
  pub lent : Lent t s
  pub in_image : y < t.height
  pub row : RowFactsFor t s y

module _ (t : Table) (s : Sight) (y W : ℕ) where
  pub judged_reach : judge_reach_of t s y W ≡ Fine → PassedReach t s y W
  unfolding judge_reach_of
  judged_reach h =
      let s1 = passed_check (desk_good s) Code.Desk _ h in
      let s2 = passed_check (leb W (2 ^ 23)) Code.Size _ s1.1 in
      let p = judged_row t s y true s2.1 in
      record { narrow = leb-true W (2 ^ 23) s2.0; lent = record { desk = ltb-true s.desk 2 s1.0; counts = p.counts; bytes = p.bytes }; in_image = p.in_image; row = p.row }

  pub reach_fault : {c : Code} → judge_reach_of t s y W ≡ Fault c → tells (Refused c 0) ≡ reach_of t s y W
  unfolding reach_of
  reach_fault e = sym (ap (λ (v : Verdict). tells (reach_answer v (reach_over t.segments W (shown_of t s y)))) e)

  pub reach_done : (r : Range) → judge_reach_of t s y W ≡ Fine → r ≡ reach_over t.segments W (shown_of t s y) → tells (Ok r) ≡ reach_of t s y W
  unfolding reach_of
  reach_done r e p =
      ap (λ (q : Range). tells (Ok q)) p ∙ sym (ap (λ (v : Verdict). tells (reach_answer v (reach_over t.segments W (shown_of t s y)))) e)

  first_in : ReachAnswer → ℕ
  first_in (Ok r) = r.first
  first_in (Err e) = 0

  past_in : ReachAnswer → ℕ
  past_in (Ok r) = r.past
  past_in (Err e) = 0

  -- an answer that is done: every check passed, and it is the least range of the columns that a listed segment has
  pub reached : {first past : ℕ} → (reach_of t s y W).answer ≡ Done first past → PassedReach t s y W × Least (Passing (touched t.segments (shown_of t s y)) W) (record { first = first; past = past })
  unfolding reach_of first_in past_in
  reached {first} {past} e = go (judge_reach_of t s y W) refl e
    where
      r : Range
      r = reach_over t.segments W (shown_of t s y)

      go : (v : Verdict) → judge_reach_of t s y W ≡ v → reach_answer v r ≡ Done first past → PassedReach t s y W × Least (Passing (touched t.segments (shown_of t s y)) W) (record { first = first; past = past })
      go (Fault c) j d = let z : ◌≡◌ {A = ℕ} 0 1 = cc in absurd (omega (arith, z))
      go Fine j d =
          let p : r.first ≡ first = ap first_in d in
          let q : r.past ≡ past = ap past_in d in
          (judged_reach j, subst (Least (Passing (touched t.segments (shown_of t s y)) W)) (same_range r (record { first = first; past = past }) p q) (least_hull (touched t.segments (shown_of t s y)) W))

-- Assumes nothing.
