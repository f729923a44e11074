-- A segment's columns cut at a width: one without columns there leaves what was found, any other is joined.
use mathlib.Core.Path.{◌≡◌, ap, ◌∙◌}
use Prim.Native.Nat.{ℕ, ◌≤◌, min}
use borrow.Author.Tests.{le-ltb}
use Rattle.segments.specs.Ranges.{column_first, column_past}
use Rattle.segments.specs.declared.Segment.{Segment}
use Rattle.segments.specs.declared.Range.{Range}
use Rattle.joins.specs.Joins.{joined, columns_below}

pub same_range : (r s : Range) → r.first ≡ s.first → r.past ≡ s.past → r ≡ s
same_range r s p q = rw (p, q)

skipped : {a : Range} (b : Range) → b.past ≤ b.first → a ≡ joined a b
unfolding joined
skipped b h = rw (le-ltb b.first b.past h)

module _ (found : Range) (s : Segment) (W a e p : ℕ) (f : a ≡ column_first s) (l : e ≡ column_past s) (q : p ≡ min W e) where
  cut : record { first = a; past = p } ≡ columns_below W s
  cut = same_range _ _ f (q ∙ ap (min W) l)

  -- one without columns below the width is skipped
  pub skip_segment : p ≤ a → found ≡ joined found (columns_below W s)
  skip_segment h = skipped (record { first = a; past = p }) h ∙ ap (joined found) cut

  pub join_segment : {r : Range} → r ≡ joined found (record { first = a; past = p }) → r ≡ joined found (columns_below W s)
  join_segment k = k ∙ ap (joined found) cut

-- Assumes nothing.
