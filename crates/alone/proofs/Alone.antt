-- What drawing one segment answers and leaves, by its checks. A segment is the first of its own eight floats, so the laws of drawing from a flat list speak of it.
use mathlib.Core.Path.{◌≡◌, refl}
use mathlib.Core.Bool.{Bool, true, false}
use mathlib.Core.List.{List}
use Prim.Native.Nat.{ℕ, ◌+◌, ◌^◌, ◌<◌, ◌≤◌}
use lib.ListN.{length}
use lib.Ieee.{Float}
use borrow.Author.Tests.{lt-ltb, le-ltb}
use Rattle.codes.specs.declared.Code.{Code}
use Rattle.segments.specs.Segment.{segment_at, eight_of}
use Rattle.segments.specs.Ranges.{has_column, columns_of}
use Rattle.segments.specs.declared.Segment.{Segment}
use Rattle.segments.specs.declared.Range.{Range}
use Rattle.shade.specs.Edit.{edit}
use Rattle.shade.specs.Shade.{shaded}
use Rattle.draw.specs.DrawAnswer.{Done, Refused}
use Rattle.draw.specs.Draw.{between, count, span_good, three, Channels, leaves}
use Rattle.columns.proofs.Columns.{ranged, count_columns, draw_columns}
use Rattle.alone.specs.Alone.{drawn_channel_alone, judge_record, draw_alone}

module _ (s : Segment) (x0 n : ℕ) (r : Range) (q : r ≡ columns_of s) (h : x0 + n ≤ 2 ^ 23) where
  pub count_alone : (k : ℕ) → k ≡ count (between r.first r.past) x0 n → k ≡ count (has_column s) x0 n
  unfolding segment_at
  count_alone k e = count_columns (eight_of s) 0 x0 n k s r refl q h e

  pub columns_alone : (c y : ℕ) (xs ys : List Float) → ys ≡ edit (ranged (λ x v. shaded s y x c v) r.first r.past x0 n) xs → ys ≡ drawn_channel_alone c s y x0 n xs
  unfolding segment_at
  columns_alone c y xs ys e = draw_columns c (eight_of s) 0 y x0 n s r xs ys refl q h e

module _ (known : Bool) (s : Segment) (y x0 n : ℕ) (a : Channels) where
  pub not_known : known ≡ false → leaves (Refused Code.Table 0) a ≡ draw_alone known s y x0 n a
  unfolding judge_record
  not_known e = rw e refl

  pub no_row : known ≡ true → 2 ^ 23 ≤ y → leaves (Refused Code.Row 0) a ≡ draw_alone known s y x0 n a
  unfolding judge_record
  no_row e l = rw (e, le-ltb y (2 ^ 23) l) refl

  pub no_span : known ≡ true → y < 2 ^ 23 → span_good x0 n (length a.r0) (length a.r1) (length a.r2) ≡ false → leaves (Refused Code.Span 0) a ≡ draw_alone known s y x0 n a
  unfolding judge_record
  no_span e l g = rw (e, lt-ltb y (2 ^ 23) l, g) refl

  pub drawn_alone : {k : ℕ} {z0 z1 z2 : List Float} → known ≡ true → y < 2 ^ 23 → span_good x0 n (length a.r0) (length a.r1) (length a.r2) ≡ true → k ≡ count (has_column s) x0 n
      → z0 ≡ drawn_channel_alone 0 s y x0 n a.r0 → z1 ≡ drawn_channel_alone 1 s y x0 n a.r1 → z2 ≡ drawn_channel_alone 2 s y x0 n a.r2 → leaves (Done k) (three z0 z1 z2) ≡ draw_alone known s y x0 n a
  unfolding judge_record
  drawn_alone e l g p q0 q1 q2 = rw (p, q0, q1, q2) (rw (e, lt-ltb y (2 ^ 23) l, g) refl)

-- Assumes nothing.
