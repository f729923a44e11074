-- Two tables that are right for the same segments are alike in every row of the image: so they draw and reach the same.
use mathlib.Core.Path.{◌≡◌, sym, ap, ◌∙◌}
use Prim.Native.Nat.{ℕ, ◌+◌, ◌≤◌, ◌<◌}
use native.Mathlib.Numerals.{add-one}
use native.Mathlib.Omega.{arith}
use lib.ListN.{length, get_or}
use Rattle.segments.specs.Segment.{segment_at}
use Rattle.rows.specs.Rows.{listed, start_of, in_row}
use Rattle.checks.specs.Tables.{Table, row_of}
use Rattle.checks.specs.Refusals.{CountsFit}
use Rattle.checks.specs.Alike.{AlikeIn}
use Rattle.makers_search.proofs.Sums.{listed_same, rows_same}
use Rattle.makers_laws.proofs.Tables.{Right, rows_alike, starts_are}

module _ {t u : Table} (segment_count_lem : t.segment_count ≡ u.segment_count) (height : t.height ≡ u.height)
    (segments : (i : ℕ) → i < t.segment_count → segment_at t.segments i ≡ segment_at u.segments i) (r : Right t) (q : Right u) (f : CountsFit t) (g : CountsFit u) where
  start_alike : (y : ℕ) → y ≤ t.height → get_or t.row_starts y 0 ≡ get_or u.row_starts y 0
  start_alike y h =
      starts_are r f.entries_fit y h
      ∙ ap length (rows_same (in_row t.segments) (in_row u.segments) t.segment_count t.height (rows_alike t.segments u.segments t.segment_count t.height segments) y h)
      ∙ ap (λ (s : ℕ). start_of (in_row u.segments) s y) segment_count_lem
      ∙ sym (starts_are q g.entries_fit y (omega (arith, height)))

  row_alike : (y : ℕ) → y < t.height → row_of t y ≡ row_of u y
  row_alike y h =
      rw add-one
      ((r.rows y h).lists
      ∙ listed_same (in_row t.segments) (in_row u.segments) t.segment_count t.height (rows_alike t.segments u.segments t.segment_count t.height segments) y t.segment_count h (omega arith)
      ∙ ap (λ (s : ℕ). listed (in_row u.segments) y s) segment_count_lem
      ∙ sym (q.rows y (omega (arith, height, h))).lists)

  pub right_alike : (y : ℕ) → y < t.height → AlikeIn y t u
  right_alike y h = record {
    fit = (λ e. g, λ e. f);
    segment_count_lem = segment_count_lem;
    entry_count_lem = sym r.closes ∙ start_alike t.height (omega arith) ∙ ap (λ (y : ℕ). get_or u.row_starts y 0) height ∙ q.closes;
    height = height;
    first = start_alike y (omega arith);
    past = start_alike (y + 1) (omega arith);
    entries = row_alike y h;
    segments = λ j l k. segments (get_or (row_of t y) j 0) k;
  }

-- Assumes nothing.
