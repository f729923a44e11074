-- What the check answers, way out by way out.
use mathlib.Core.Path.{◌≡◌, sym, ap, ◌∙◌}
use mathlib.Core.Bool.{Bool, true, false}
use mathlib.Core.List.{List}
use Prim.Native.Nat.{ℕ, suc, ◌+◌, ◌^◌, ◌≤◌, ◌<◌}
use native.Mathlib.Numerals.{add-one}
use native.Mathlib.Omega.{arith}
use lib.Ieee.{Float}
use lib.ListN.{length, get_or}
use borrow.Author.Tests.{le-leb, lt-leb, leb-true, eq-eqb, ne_eqb}
use Rattle.codes.specs.declared.Code.{Code}
use Rattle.rows.specs.Rows.{in_row}
use Rattle.checks.specs.Tables.{Table}
use Rattle.makers.specs.CheckAnswer.{Done, Refused}
use Rattle.makers.specs.Check.{row_right, wrong_from, offered_counts_good, by_rows, check_of, check_in}
use Rattle.makers.specs.Refusals.{OfferedCountsFit}
use Rattle.makers.proofs.Rows.{and_left, and_right, first_is}

module _ (segs : List Float) (S : ℕ) (entries : List ℕ) (n : ℕ) where
  pub counts_facts : offered_counts_good segs S entries n ≡ true → OfferedCountsFit segs S entries n
  unfolding offered_counts_good
  counts_facts h =
      record {
        few_segments = leb-true _ _ (search (and_left, and_right, h));
        segments_fit = leb-true _ _ (search (and_left, and_right, h));
        few_entries = leb-true _ _ (search (and_left, and_right, h));
        entries_fit = leb-true _ _ (search (and_left, and_right, h));
      }

module _ (segs : List Float) (S H : ℕ) (starts entries : List ℕ) (n : ℕ) where
  pub at_size : 2 ^ 23 < H → Refused Code.Size 0 ≡ check_of segs S H starts entries n
  unfolding check_of
  at_size h = rw (lt-leb H (2 ^ 23) h)

  module _ (low : H ≤ 2 ^ 23) where
    pub at-shape : (length starts ≡ suc H → ⊥) → Refused Code.Shape 0 ≡ check_of segs S H starts entries n
    unfolding check_of
    at-shape h = rw (le-leb H (2 ^ 23) low, ne_eqb (length starts) (suc H) h)

    module _ (tall : length starts ≡ suc H) where
      pub at-counts : offered_counts_good segs S entries n ≡ false → Refused Code.Table 0 ≡ check_of segs S H starts entries n
      unfolding check_of
      at-counts h = rw (le-leb H (2 ^ 23) low, eq-eqb (length starts) (suc H) tall, h)

      module _ (good : offered_counts_good segs S entries n ≡ true) where
        pub at_first : (get_or starts 0 0 ≡ 0 → ⊥) → Refused Code.Table 0 ≡ check_of segs S H starts entries n
        unfolding check_of
        at_first h = rw (le-leb H (2 ^ 23) low, eq-eqb (length starts) (suc H) tall, good, ne_eqb (get_or starts 0 0) 0 h)

        module _ (begins : get_or starts 0 0 ≡ 0) {w : ℕ} (first : w ≡ wrong_from (row_right (in_row segs) S starts entries n) 0 H) where
          by_rows_lem : by_rows H (get_or starts H 0) n w ≡ check_of segs S H starts entries n
          unfolding check_of
          by_rows_lem = rw (le-leb H (2 ^ 23) low, eq-eqb (length starts) (suc H) tall, good, eq-eqb (get_or starts 0 0) 0 begins, ← first)

          pub at_row : w < H → Refused Code.Table w ≡ check_of segs S H starts entries n
          at_row h = rw (lt-leb H w h) at by_rows_lem

          pub at-end : w ≡ H → (get_or starts H 0 ≡ n → ⊥) → Refused Code.Table H ≡ check_of segs S H starts entries n
          at-end h k = ap (Refused Code.Table) (sym h) ∙ (rw (le-leb H w (omega arith), ne_eqb (get_or starts H 0) n k) at by_rows_lem)

          pub at_done : H ≤ w → get_or starts H 0 ≡ n → Done n ≡ check_of segs S H starts entries n
          at_done h k = rw (le-leb H w h, eq-eqb (get_or starts H 0) n k) at by_rows_lem

-- ---- the same of a table, by the tests as the code has them

module _ (t : Table) where
  abbrev counts_of : Bool
  counts_of = offered_counts_good t.segments t.segment_count t.entries t.entry_count

  tall_of : length t.row_starts ≡ t.height + 1 → length t.row_starts ≡ suc t.height
  tall_of e = e ∙ add-one t.height

  pub size_told : 2 ^ 23 < t.height → Refused Code.Size 0 ≡ check_in t
  size_told = at_size t.segments t.segment_count t.height t.row_starts t.entries t.entry_count

  module _ (low : t.height ≤ 2 ^ 23) where
    pub shape_told : (length t.row_starts ≡ t.height + 1 → ⊥) → Refused Code.Shape 0 ≡ check_in t
    shape_told h = at-shape t.segments t.segment_count t.height t.row_starts t.entries t.entry_count low (λ e. h (e ∙ sym (add-one t.height)))

    module _ (tall : length t.row_starts ≡ t.height + 1) where
      pub counts_told : counts_of ≡ false → Refused Code.Table 0 ≡ check_in t
      counts_told = at-counts t.segments t.segment_count t.height t.row_starts t.entries t.entry_count low (tall_of tall)

      module _ (good : counts_of ≡ true) where
        pub first_told : (get_or t.row_starts 0 0 ≡ 0 → ⊥) → Refused Code.Table 0 ≡ check_in t
        first_told = at_first t.segments t.segment_count t.height t.row_starts t.entries t.entry_count low (tall_of tall) good

        module _ (begins : get_or t.row_starts 0 0 ≡ 0) {w : ℕ} (first : w ≡ wrong_from (row_right (in_row t.segments) t.segment_count t.row_starts t.entries t.entry_count) 0 t.height) where
          pub row_told : w < t.height → Refused Code.Table w ≡ check_in t
          row_told = at_row t.segments t.segment_count t.height t.row_starts t.entries t.entry_count low (tall_of tall) good begins first

          -- no row past the last is wrong
          is_last : t.height ≤ w → w ≡ t.height
          is_last h = omega (arith, h, first, (first_is (row_right (in_row t.segments) t.segment_count t.row_starts t.entries t.entry_count) 0 t.height).within)

          pub end_told : t.height ≤ w → (get_or t.row_starts t.height 0 ≡ t.entry_count → ⊥) → Refused Code.Table t.height ≡ check_in t
          end_told h = at-end t.segments t.segment_count t.height t.row_starts t.entries t.entry_count low (tall_of tall) good begins first (is_last h)

          pub done_told : t.height ≤ w → get_or t.row_starts t.height 0 ≡ t.entry_count → Done t.entry_count ≡ check_in t
          done_told = at_done t.segments t.segment_count t.height t.row_starts t.entries t.entry_count low (tall_of tall) good begins first

-- Assumes nothing.
