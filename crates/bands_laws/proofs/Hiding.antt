-- After a hide, once each band that lists a segment of the spline is refreshed, the whole summary is a fresh one.
use mathlib.Core.Path.{◌≡◌, refl, sym, ap, subst, ◌∙◌}
use mathlib.Core.Bool.{Bool, true, false, cond}
use mathlib.Core.Logic.{◌⊎◌, inl, inr, ⊎_elim}
use mathlib.Core.List.{List, [], ◌∷◌}
use Prim.Native.Nat.{ℕ, zero, suc, ◌+◌, ◌-◌, ◌*◌, ◌≤◌, ◌<◌}
use native.Mathlib.Omega.{arith}
use lib.Dec.{eqb}
use lib.ListN.{length, get_or}
use lib.Seq.{ext_get_or}
use borrow.Author.Tests.{eqb-true, eqb-false}
use Rattle.shade.proofs.Edits.{lt_or_ge}
use Rattle.desks.specs.Desks.{Sight, sight_of, owner_in, hidden_in, shown}
use Rattle.desks.specs.Hide.{hide_of}
use Rattle.desks.proofs.Hiding.{hide_length, hide_keeps}
use Rattle.checks.specs.Tables.{Table, row_of}
use Rattle.checks.specs.Refusals.{RowBadFor}
use Rattle.checks.specs.Refusals as codes
use Rattle.picture.specs.Picture.{Found}
use Rattle.bands.specs.BandsAnswer.{Done}
use Rattle.bands.specs.Bands.{bands_in, row_of_band, rows_in, numbers_over, band_numbers, band_cells}
use Rattle.bands.specs.Calls.{BandsOutcome, leaves, fresh_cells, bands_of, band_of}
use Rattle.bands_laws.specs.Done.{BandsDone, BandDone}
use Rattle.bands_laws.specs.Summaries.{InBand, OtherCell, ListsSpline, Refreshes}
use Rattle.bands_laws.specs.Summaries as runs
use Rattle.bands_laws.proofs.Cells.{cell_in}
use Rattle.bands_laws.proofs.Rows.{band_row, shown_same}
use Rattle.bands_laws.proofs.Refusals.{bands_done}
use Rattle.bands_laws.proofs.Fresh.{made, made_length, made_own, made_behind, fresh_own, fresh_behind, fresh_length, refreshed, refreshed_own, refreshed_length, other_bands_stay}

either : (b : Bool) → (b ≡ true) ⊎ (b ≡ false)
either true = inl refl
either false = inr refl

-- a band is in a list or not
found_or_not : (l : List ℕ) (b : ℕ) → Found l b ⊎ (Found l b → ⊥)
found_or_not [] b = inr (λ f. omega (arith, f.in_row_lem))
found_or_not (k ∷ l) b =
    ⊎_elim (λ q. inl (record { index = 0; in_row_lem = omega arith; is = eqb-true k b q }))
    (λ q. ⊎_elim (λ f. inl (record { index = suc f.index; in_row_lem = omega (arith, f.in_row_lem); is = f.is })) (λ n. inr (λ f. later q n f.index f.in_row_lem f.is)) (found_or_not l b))
    (either (eqb k b))
  where
    later : eqb k b ≡ false → (Found l b → ⊥) → (j : ℕ) → j < length (k ∷ l) → get_or (k ∷ l) j 0 ≡ b → ⊥
    later q n zero h e = eqb-false k b q e
    later q n (suc j) h e = n (record { index = j; in_row_lem = omega (arith, h); is = e })

-- ---- a run of refreshes

module _ (t : Table) (r : Sight) (W room : ℕ) (roomy : 5 * bands_in t.height ≤ room) where
  -- a cell as a fresh summary has it
  abbrev Right : List ℕ → ℕ → Type 0
  Right c k = get_or c k 0 ≡ get_or (fresh_cells t r W room) k 0

  module _ (b : ℕ) (c : List ℕ) (n : ℕ) (e : (band_of t r W b c).answer ≡ Done n) where
    step_makes : (j : ℕ) → j < 5 → Right (band_of t r W b c).cells (5 * b + j)
    step_makes j l = refreshed_own t r W b c n e j l ∙ sym (made_own t r W room roomy b j (refreshed t r W b c n e).in_image l)

    step_keeps : (k : ℕ) → Right c k → Right (band_of t r W b c).cells k
    step_keeps k h =
        ⊎_elim (λ u. other_bands_stay t r W b c n e k (inl u) ∙ h)
        (λ u. ⊎_elim
        (λ v.
        let q : 5 * b + (k - 5 * b) ≡ k = omega (arith, u) in
        subst (Right (band_of t r W b c).cells) q (step_makes (k - 5 * b) (omega (arith, u, v))))
        (λ v. other_bands_stay t r W b c n e k (inr v) ∙ h)
        (lt_or_ge k (5 * b + 5)))
        (lt_or_ge k (5 * b))

  run_length : {bs c z : List ℕ} → Refreshes t r W bs c z → length z ≡ length c
  run_length runs.none = refl
  run_length (runs.more {b} {bs} {c} {z} {o} {n} e d m) =
      run_length m ∙ ap (λ (q : BandsOutcome). length q.cells) e ∙ refreshed_length t r W b c n (sym (ap (λ (q : BandsOutcome). q.answer) e) ∙ d)

  run_keeps : {bs c z : List ℕ} → Refreshes t r W bs c z → (k : ℕ) → Right c k → Right z k
  run_keeps runs.none k h = h
  run_keeps (runs.more {b} {bs} {c} {z} {o} {n} e d m) k h =
      run_keeps m k (ap (λ (q : BandsOutcome). get_or q.cells k 0) e ∙ step_keeps b c n (sym (ap (λ (q : BandsOutcome). q.answer) e) ∙ d) k h)

  run_makes : {bs c z : List ℕ} → Refreshes t r W bs c z → (i : ℕ) → i < length bs → (j : ℕ) → j < 5 → Right z (5 * get_or bs i 0 + j)
  run_makes runs.none i h j l = absurd (omega (arith, h))
  run_makes (runs.more {b} {bs} {c} {z} {o} {n} e d m) zero h j l =
      run_keeps m (5 * b + j) (ap (λ (q : BandsOutcome). get_or q.cells (5 * b + j) 0) e ∙ step_makes b c n (sym (ap (λ (q : BandsOutcome). q.answer) e) ∙ d) j l)
  run_makes (runs.more {b} {bs} {c} {z} {o} {n} e d m) (suc i) h j l = run_makes m i (omega (arith, h)) j l

-- ---- other bits

-- a summary made for one sight, and refreshed for another in every band whose numbers are not the same for both, is a fresh one for the other
module _ (t : Table) (s r : Sight) (W room n m : ℕ) (e : (bands_of t s W room).answer ≡ Done n) (d : BandsDone t r W room m) {bs z : List ℕ} (run : Refreshes t r W bs (bands_of t s W room).cells z)
    (settled : (b : ℕ) → b < bands_in t.height → Found bs b ⊎ (band_numbers t s W b ≡ band_numbers t r W b)) where
  cell_right : (k : ℕ) → get_or z k 0 ≡ get_or (fresh_cells t r W room) k 0
  cell_right k =
      ⊎_elim (λ h. let c = cell_in (bands_in t.height) k h in subst (λ (q : ℕ). get_or z q 0 ≡ get_or (fresh_cells t r W room) q 0) (sym c.is_it) (in_bands c.band c.cell c.in_image c.one_of_five))
      (λ h. run_keeps t r W room d.fits.roomy run k (fresh_behind t s W room n e k h ∙ sym (made_behind t r W room k h)))
      (lt_or_ge k (5 * bands_in t.height))
    where
      in_bands : (b j : ℕ) → b < bands_in t.height → j < 5 → get_or z (5 * b + j) 0 ≡ get_or (fresh_cells t r W room) (5 * b + j) 0
      in_bands b j h l =
          ⊎_elim
          (λ f. subst (λ (a : ℕ). get_or z (5 * a + j) 0 ≡ get_or (fresh_cells t r W room) (5 * a + j) 0) f.is (run_makes t r W room d.fits.roomy run f.index f.in_row_lem j l))
          (λ q. run_keeps t r W room d.fits.roomy run (5 * b + j)
          (fresh_own t s W room n e b j h l ∙ ap (λ m. get_or (band_cells m) j 0) q ∙ sym (made_own t r W room d.fits.roomy b j h l)))
          (settled b h)

  pub refreshed_whole : leaves (Done m) z ≡ bands_of t r W room
  refreshed_whole =
      ap (leaves (Done m))
      (ext_get_or 0 z (fresh_cells t r W room) (run_length t r W room d.fits.roomy run ∙ fresh_length t s W room n e ∙ sym (made_length t r W room)) (λ i h. cell_right i))
      ∙ sym (bands_done t r W room d)

-- ---- refreshes that must be done

-- where making is done, so is refreshing each band in as many cells
pub refresh_done : (t : Table) (s : Sight) (W n b : ℕ) (cells : List ℕ) → BandsDone t s W (length cells) n → b < n → BandDone t s W (length cells) b n
refresh_done t s W n b cells d h = record {
  fits = d.fits;
  in_image = omega (arith, h, d.told);
  rows = λ o. d.rows (record { row = o.row; from = omega arith; before = omega (arith, band_row t.height b o.row (record { from = o.from; before = o.before })); bad = o.bad });
  told = d.told;
}

-- ---- after a hide

module _ (t : Table) (s : Sight) (k : ℕ) (hidden : Bool) where
  -- the sight with the bytes that the hide left
  abbrev after : Sight
  after = sight_of s.owners s.splines (hide_of s.bits s.desk k hidden).bits s.desk

  -- a row that lists no segment of the spline is shown as before
  shown_kept : (l : List ℕ) → ((j : ℕ) → j < length l → owner_in s (get_or l j 0) ≡ k → ⊥) → shown s l ≡ shown after l
  shown_kept [] h = refl
  shown_kept (i ∷ l) h =
      ap (λ (b : Bool). cond b (shown s l) (i ∷ shown s l)) (sym (hide_keeps s.bits s.desk k hidden (owner_in s i) s.desk (λ e q. h 0 (omega arith) e)))
      ∙ ap (λ (m : List ℕ). cond (hidden_in after i) m (i ∷ m)) (shown_kept l (λ j a. h (suc j) (omega (arith, a))))

  -- and so a band that lists none keeps its numbers
  numbers_kept : (W b : ℕ) → (ListsSpline t s b k → ⊥) → band_numbers t s W b ≡ band_numbers t after W b
  numbers_kept W b h =
      ap (numbers_over t W)
      (shown_same t t s after (row_of_band b) (rows_in t.height b)
      (λ y a e. shown_kept (row_of t y) (λ j l q. h (record { row = y; in_band = record { from = a; before = e }; segment = get_or (row_of t y) j 0; listed = record { index = j; in_row_lem = omega (arith, l); is = refl }; owned = q }))))

  bad_before : {y : ℕ} → RowBadFor t after y → RowBadFor t s y
  bad_before (codes.RowBadFor.in_table o) = codes.RowBadFor.in_table o
  bad_before (codes.RowBadFor.no_spline j h l) = codes.RowBadFor.no_spline j h l

  -- where making was done, it is done after
  pub done_after : (W room n : ℕ) → BandsDone t s W room n → BandsDone t after W room n
  done_after W room n d = record {
    fits = record {
      narrow = d.fits.narrow;
      lent = record {
        desk = d.fits.lent.desk;
        counts = record { table = d.fits.lent.counts.table; owners_fit = d.fits.lent.counts.owners_fit };
        bytes = omega (arith, d.fits.lent.bytes, hide_length s.bits s.desk k hidden);
      };
      roomy = d.fits.roomy;
    };
    rows = λ o. d.rows (record { row = o.row; from = o.from; before = o.before; bad = bad_before o.bad });
    told = d.told;
  }

  -- a fresh summary, a hide, and refreshes of every band that lists a segment of the spline, and of others as one likes, in any order: a fresh summary
  pub summary_after_hide : (W room n : ℕ) → (bands_of t s W room).answer ≡ Done n → (bs z : List ℕ) → Refreshes t after W bs (bands_of t s W room).cells z → ((b : ℕ) → ListsSpline t s b k → Found bs b)
      → leaves (Done n) z ≡ bands_of t after W room
  summary_after_hide W room n e bs z run each =
      refreshed_whole t s after W room n n e (done_after W room n (made t s W room n e)) run
      (λ b h. ⊎_elim (λ f. inl f) (λ f. inr (numbers_kept W b (λ l. f (each b l)))) (found_or_not bs b))

-- Assumes nothing.
