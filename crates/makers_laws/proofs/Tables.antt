-- Tables that are right: where each row starts, that a listing's is one, and that it is one wherever it is kept.
use mathlib.Core.Path.{◌≡◌, refl, sym, ap, ◌∙◌}
use mathlib.Core.Logic.{⊎_elim}
use mathlib.Core.List.{List, [], ◌∷◌}
use Prim.Native.Nat.{ℕ, zero, suc, ◌+◌, ◌^◌, ◌≤◌, ◌<◌}
use native.Mathlib.Omega.{arith}
use lib.Ieee.{Float}
use lib.ListN.{length, get_or, take, drop, get_or-append}
use lib.Seq.{length-slice, get_or-take, get_or-append_seam, take-take, slice}
use Rattle.buffers.specs.Padded.{padded}
use Rattle.segments.specs.declared.Segment.{Segment}
use Rattle.segments.specs.Segment.{segment_at}
use Rattle.segments.specs.Ranges.{has_row}
use Rattle.rows.specs.Rows.{rows, start_of, up_to, in_row}
use Rattle.rows.proofs.Counts.{split, start_suc}
use Rattle.rows.proofs.Users.{length_up_to, checked}
use Rattle.checks.specs.Tables.{Table}
use Rattle.checks.specs.Alike.{Kept}
use Rattle.checks.proofs.Alike.{kept_segment}
use Rattle.makers.specs.Check.{RowRight}
use Rattle.makers.specs.Refusals.{TableRight}
use Rattle.makers_search.proofs.Sums.{listed_same}

-- the segments of two buffers that are the same have the same rows
pub rows_alike : (segs other : List Float) (S H : ℕ) → ((i : ℕ) → i < S → segment_at segs i ≡ segment_at other i) → (i y : ℕ) → i < S → y < H → in_row segs i y ≡ in_row other i y
rows_alike segs other S H same i y h k = ap (λ (s : Segment). has_row s y) (same i h)

module _ {segs : List Float} {S H : ℕ} {starts entries : List ℕ} {n : ℕ} (t : TableRight segs S H starts entries n) where
  -- the starts are the sums of what the rows list
  pub starts_are : n ≤ length entries → (y : ℕ) → y ≤ H → get_or starts y 0 ≡ start_of (in_row segs) S y
  unfolding rows
  starts_are m zero h = t.begins
  starts_are m (suc y) h =
      let r = t.rows y h in
      let w = length-slice (get_or starts y 0) (get_or starts (suc y) 0) entries (omega (arith, r.ends, m)) in
      omega (arith, starts_are m y (omega arith), start_suc (in_row segs) S y, ap length r.lists, w, r.rises)

  pub entries_are : n ≤ length entries → n ≡ start_of (in_row segs) S H
  entries_are m = sym t.closes ∙ starts_are m H (omega arith)

-- ---- a listing's table

get_d_up_to : (f : ℕ → ℕ) (n r : ℕ) → r < n → get_or (up_to f n) r 0 ≡ f r
unfolding up_to
get_d_up_to f zero r h = absurd (omega arith)
get_d_up_to f (suc n) r h =
    ⊎_elim (λ l. get_or-append (up_to f n) (f n ∷ []) 0 r (omega (arith, length_up_to f n)) ∙ get_d_up_to f n r l)
    (λ l. let e : r ≡ length (up_to f n) = omega (arith, length_up_to f n) in rw e (get_or-append_seam (up_to f n) (f n) [] 0 ∙ ap f (sym (length_up_to f n))))
    (split r n)

module _ (segs : List Float) (S H ns ne : ℕ) (wide : H < ns) (room : start_of (in_row segs) S H ≤ ne) (few : start_of (in_row segs) S H ≤ 2 ^ 30) where
  row_right : (y : ℕ) → y < H → RowRight (in_row segs) S (padded ns 0 (up_to (start_of (in_row segs) S) (suc H))) (padded ne 0 (rows (in_row segs) S H)) (start_of (in_row segs) S H) y
  row_right y h = let c = checked (in_row segs) S H ns ne y h wide room few in record { rises = c.rises; ends = c.ends; lists = c.row }

  start_at_lem : (r : ℕ) → r ≤ H → get_or (padded ns 0 (up_to (start_of (in_row segs) S) (suc H))) r 0 ≡ start_of (in_row segs) S r
  start_at_lem r k =
      get_or-append (up_to (start_of (in_row segs) S) (suc H)) _ 0 r (omega (arith, length_up_to (start_of (in_row segs) S) (suc H))) ∙ get_d_up_to (start_of (in_row segs) S) (suc H) r (omega arith)

  none_before : start_of (in_row segs) S 0 ≡ 0
  unfolding rows
  none_before = refl

  pub built_right : TableRight segs S H (padded ns 0 (up_to (start_of (in_row segs) S) (suc H))) (padded ne 0 (rows (in_row segs) S H)) (start_of (in_row segs) S H)
  built_right = record {
    begins = start_at_lem 0 (omega arith) ∙ none_before;
    rows = row_right;
    closes = start_at_lem H (omega arith);
  }

-- ---- a table as it is kept

abbrev pub Right : Table → Type 0
Right t = TableRight t.segments t.segment_count t.height t.row_starts t.entries t.entry_count

cell_same : (n : ℕ) (xs zs : List ℕ) → take n xs ≡ take n zs → (i : ℕ) → i < n → get_or xs i 0 ≡ get_or zs i 0
cell_same n xs zs q i h = sym (get_or-take n xs i 0 h) ∙ ap (λ (l : List ℕ). get_or l i 0) q ∙ get_or-take n zs i 0 h

part_same : (n : ℕ) (xs zs : List ℕ) → take n xs ≡ take n zs → (a b : ℕ) → b ≤ n → slice a b xs ≡ slice a b zs
part_same n xs zs q a b h = ap (drop a) (sym (take-take b n xs h) ∙ ap (take b) q ∙ take-take b n zs h)

module _ {t u : Table} (k : Kept t u) (r : Right t) where
  start_kept : (y : ℕ) → y ≤ t.height → get_or u.row_starts y 0 ≡ get_or t.row_starts y 0
  start_kept y h = sym (cell_same (t.height + 1) t.row_starts u.row_starts k.starts y (omega arith))

  row_kept : (y : ℕ) → y < t.height → RowRight (in_row u.segments) t.segment_count u.row_starts u.entries t.entry_count y
  row_kept y h =
      let g = r.rows y h in
      let a = start_kept y (omega arith) in
      let b = start_kept (suc y) h in
      record {
        rises = omega (arith, g.rises, a, b);
        ends = omega (arith, g.ends, b);
        lists = rw (a, b) (sym (part_same t.entry_count t.entries u.entries k.entries (get_or t.row_starts y 0) (get_or t.row_starts (suc y) 0) g.ends) ∙ g.lists
            ∙ listed_same (in_row t.segments) (in_row u.segments) t.segment_count t.height (rows_alike t.segments u.segments t.segment_count t.height (kept_segment k)) y t.segment_count h (omega arith));
      }

  kept : TableRight u.segments t.segment_count t.height u.row_starts u.entries t.entry_count
  kept = record { begins = start_kept 0 (omega arith) ∙ r.begins; rows = row_kept; closes = start_kept t.height (omega arith) ∙ r.closes }

  pub kept_right : Right u
  kept_right = rw (← k.segment_count_lem, ← k.height, ← k.entry_count_lem) kept

-- Assumes nothing.
