-- What a making and a refresh that are done leave: a band's own cells, the others, and those behind the last band.
use mathlib.Core.Path.{◌≡◌, sym, ap, subst, ◌∙◌}
use mathlib.Core.Bool.{true}
use mathlib.Core.Logic.{⊎_elim}
use mathlib.Core.List.{List, []}
use Prim.Native.Nat.{ℕ, ◌+◌, ◌*◌, ◌≤◌, ◌<◌}
use native.Mathlib.Omega.{arith}
use lib.ListN.{length, get_or, replicate, length-replicate, get_or-replicate, get_or-eq_default}
use Rattle.shade.proofs.Edits.{lt_or_ge}
use Rattle.desks.specs.Desks.{Sight}
use Rattle.checks.specs.Tables.{Table, shown_of}
use Rattle.hull.specs.Reach.{reach_of}
use Rattle.hull.specs.ReachAnswer as Reaching
use Rattle.bands.specs.BandsAnswer.{Done}
use Rattle.bands.specs.Bands.{bands_in, row_of_band, rows_in, shown_in, rows_good_from, band_good, numbers_over, band_numbers, band_cells, put_band}
use Rattle.bands.specs.Calls.{BandsOutcome, fresh_cells, bands_of, band_of}
use Rattle.bands_laws.specs.Done.{BandsDone, BandDone}
use Rattle.bands_laws.specs.Summaries.{InBand, OtherCell, Bounds, SegmentNumbers, HullOf}
use Rattle.bands_laws.proofs.Cells.{put_length, put_other, put_own, puts_length, puts_behind, puts_own}
use Rattle.bands_laws.proofs.Rows.{good_or_bad, band_good_lem, shown_none}
use Rattle.bands_laws.proofs.Refusals.{bands_done, bands_done_exactly, band_done, band_done_exactly}
use Rattle.bands_laws.proofs.Numbers.{none_zero, numbers_shown, least_is, greatest_is, band_hull}

zeros : (room k : ℕ) → get_or (replicate {A = ℕ} room 0) k 0 ≡ 0
zeros room k =
    ⊎_elim (λ h. get_or-replicate room k 0 0 h) (λ h. get_or-eq_default (replicate {A = ℕ} room 0) 0 (omega (arith, h, length-replicate {A = ℕ} room 0))) (lt_or_ge k room)

-- ---- the cells that a band's numbers make

module _ (t : Table) (s : Sight) (W room : ℕ) where
  pub made_length : length (fresh_cells t s W room) ≡ room
  made_length = puts_length (replicate room 0) (band_numbers t s W) (bands_in t.height) ∙ length-replicate {A = ℕ} room 0

  pub made_own : 5 * bands_in t.height ≤ room → (b j : ℕ) → b < bands_in t.height → j < 5 → get_or (fresh_cells t s W room) (5 * b + j) 0 ≡ get_or (band_cells (band_numbers t s W b)) j 0
  made_own h b j k l = puts_own (replicate room 0) (band_numbers t s W) (bands_in t.height) b j k (omega (arith, h, length-replicate {A = ℕ} room 0)) l

  pub made_behind : (k : ℕ) → 5 * bands_in t.height ≤ k → get_or (fresh_cells t s W room) k 0 ≡ 0
  made_behind k h = puts_behind (replicate room 0) (band_numbers t s W) (bands_in t.height) k h ∙ zeros room k

-- the first three cells of a band, by its numbers
by_numbers : (t : Table) (s : Sight) (W b : ℕ) (cells : List ℕ) → ((j : ℕ) → j < 5 → get_or cells (5 * b + j) 0 ≡ get_or (band_cells (band_numbers t s W b)) j 0) → SegmentNumbers t s b cells
by_numbers t s W b cells own = record {
  entries = ap (λ (k : ℕ). get_or cells k 0) (plus_none (5 * b)) ∙ own 0 (omega arith) ∙ numbers_shown t s b W;
  least = λ h. subst (Bounds (λ i j. i ≤ j) t s b) (sym (own 1 (omega arith))) (least_is t s b W h);
  greatest = λ h. subst (Bounds (λ i j. j ≤ i) t s b) (sym (own 2 (omega arith))) (greatest_is t s b W h);
}
  where
    plus_none : (m : ℕ) → m ≡ m + 0
    plus_none m = omega arith

-- ---- a making that is done

module _ (t : Table) (s : Sight) (W room n : ℕ) (e : (bands_of t s W room).answer ≡ Done n) where
  pub made : BandsDone t s W room n
  made = (bands_done_exactly t s W room n).0 e

  pub made_good : rows_good_from t s 0 t.height ≡ true
  made_good = ⊎_elim (λ g. g) (λ o. absurd (made.rows o)) (good_or_bad t s 0 t.height)

  pub made_cells : (bands_of t s W room).cells ≡ fresh_cells t s W room
  made_cells = ap (λ (o : BandsOutcome). o.cells) (bands_done t s W room made)

  pub fresh_own : (b j : ℕ) → b < bands_in t.height → j < 5 → get_or (bands_of t s W room).cells (5 * b + j) 0 ≡ get_or (band_cells (band_numbers t s W b)) j 0
  fresh_own b j k l = ap (λ (c : List ℕ). get_or c (5 * b + j) 0) made_cells ∙ made_own t s W room made.fits.roomy b j k l

  pub fresh_segments : (b : ℕ) → b < bands_in t.height → SegmentNumbers t s b (bands_of t s W room).cells
  fresh_segments b k = by_numbers t s W b (bands_of t s W room).cells (λ j l. fresh_own b j k l)

  -- cells behind the last band are zero
  pub fresh_behind : (k : ℕ) → 5 * bands_in t.height ≤ k → get_or (bands_of t s W room).cells k 0 ≡ 0
  fresh_behind k h = ap (λ (c : List ℕ). get_or c k 0) made_cells ∙ made_behind t s W room k h

  pub fresh_length : length (bands_of t s W room).cells ≡ room
  fresh_length = ap length made_cells ∙ made_length t s W room

  -- a band of which nothing is shown has zeros
  pub no_entry_zeros : (b : ℕ) → b < bands_in t.height → shown_in t s b ≡ [] → (j : ℕ) → j < 5 → get_or (bands_of t s W room).cells (5 * b + j) 0 ≡ 0
  no_entry_zeros b k h j l = fresh_own b j k l ∙ ap (λ (m : List ℕ). get_or (band_cells (numbers_over t W m)) j 0) h ∙ none_zero t W j l

  -- and its columns are the hull of its rows' reaches
  pub fresh_hull : (b : ℕ) → b < bands_in t.height
      → HullOf (λ y a q. (reach_of t s y W).answer ≡ Reaching.Done a q) (λ y a q. (reach_of t s y W).answer ≡ Reaching.Done a q) t.height b (get_or (bands_of t s W room).cells (5 * b + 3) 0) (get_or (bands_of t s W room).cells (5 * b + 4) 0)
  fresh_hull b k =
      rw (fresh_own b 3 k (omega arith), fresh_own b 4 k (omega arith)) (band_hull t s W b made.fits.narrow made.fits.lent (band_good_lem t s b made_good))

-- ---- a refresh that is done

module _ (t : Table) (s : Sight) (W b : ℕ) (cells : List ℕ) (n : ℕ) (e : (band_of t s W b cells).answer ≡ Done n) where
  pub refreshed : BandDone t s W (length cells) b n
  refreshed = (band_done_exactly t s W b cells n).0 e

  pub refreshed_good : band_good t s b ≡ true
  refreshed_good = ⊎_elim (λ g. g) (λ o. absurd (refreshed.rows o)) (good_or_bad t s (row_of_band b) (rows_in t.height b))

  pub refreshed_cells : (band_of t s W b cells).cells ≡ put_band cells b (band_numbers t s W b)
  refreshed_cells = ap (λ (o : BandsOutcome). o.cells) (band_done t s W b cells refreshed)

  pub refreshed_own : (j : ℕ) → j < 5 → get_or (band_of t s W b cells).cells (5 * b + j) 0 ≡ get_or (band_cells (band_numbers t s W b)) j 0
  refreshed_own j l =
      ap (λ (c : List ℕ). get_or c (5 * b + j) 0) refreshed_cells ∙ put_own cells b (band_numbers t s W b) (omega (arith, refreshed.in_image, refreshed.fits.roomy)) j l

  pub refreshed_segments : SegmentNumbers t s b (band_of t s W b cells).cells
  refreshed_segments = by_numbers t s W b (band_of t s W b cells).cells refreshed_own

  -- the other bands keep their numbers, and so do the cells behind the last
  pub other_bands_stay : (k : ℕ) → OtherCell b k → get_or (band_of t s W b cells).cells k 0 ≡ get_or cells k 0
  other_bands_stay k h = ap (λ (c : List ℕ). get_or c k 0) refreshed_cells ∙ put_other cells b (band_numbers t s W b) k h

  pub refreshed_length : length (band_of t s W b cells).cells ≡ length cells
  refreshed_length = ap length refreshed_cells ∙ put_length cells b (band_numbers t s W b)

  -- a refreshed band equals one made afresh, in any room
  pub refreshed_is_fresh : (room m : ℕ) → (bands_of t s W room).answer ≡ Done m → (j : ℕ) → j < 5 → get_or (band_of t s W b cells).cells (5 * b + j) 0 ≡ get_or (bands_of t s W room).cells (5 * b + j) 0
  refreshed_is_fresh room m d j l = refreshed_own j l ∙ sym (fresh_own t s W room m d b j refreshed.in_image l)

  pub refreshed_zeros : shown_in t s b ≡ [] → (j : ℕ) → j < 5 → get_or (band_of t s W b cells).cells (5 * b + j) 0 ≡ 0
  refreshed_zeros h j l = refreshed_own j l ∙ ap (λ (m : List ℕ). get_or (band_cells (numbers_over t W m)) j 0) h ∙ none_zero t W j l

  pub refreshed_hull : HullOf (λ y a q. (reach_of t s y W).answer ≡ Reaching.Done a q) (λ y a q. (reach_of t s y W).answer ≡ Reaching.Done a q) t.height b (get_or (band_of t s W b cells).cells (5 * b + 3) 0) (get_or (band_of t s W b cells).cells (5 * b + 4) 0)
  refreshed_hull = rw (refreshed_own 3 (omega arith), refreshed_own 4 (omega arith)) (band_hull t s W b refreshed.fits.narrow refreshed.fits.lent refreshed_good)

-- nothing is shown of a band of whose rows nothing is shown
pub band_none : (t : Table) (s : Sight) (b : ℕ) → ((y : ℕ) → InBand t.height b y → shown_of t s y ≡ []) → shown_in t s b ≡ []
band_none t s b h = shown_none t s (row_of_band b) (rows_in t.height b) (λ r a k. h r (record { from = a; before = k }))

-- Assumes nothing.
