-- Two tables that are alike in every row, by sights that agree, have one summary and one refresh of each band. So the other desk's bits change nothing.
use mathlib.Core.Path.{◌≡◌, refl, sym, ap, ◌∙◌}
use mathlib.Core.Bool.{Bool, true, false, ◌&&◌, ◌||◌}
use mathlib.Core.List.{List, [], ◌∷◌}
use Prim.Native.Nat.{ℕ, zero, suc, ◌+◌, ◌*◌, ◌^◌, ◌<◌, ◌≤◌}
use native.Mathlib.Omega.{arith}
use lib.Dec.{leb, ltb}
use lib.ListN.{length, get_or, replicate}
use lib.Ieee.{Float}
use borrow.Author.Tests.{le-leb, leb-true}
use Rattle.codes.specs.declared.Code.{Code}
use Rattle.segments.specs.declared.Segment.{Segment}
use Rattle.segments.specs.Segment.{segment_at}
use Rattle.segments.specs.Ranges.{has_column}
use Rattle.desks.specs.Desks.{Sight, desk_good, bytes_good, all_owned}
use Rattle.desks.specs.Agree.{Agree}
use Rattle.desks.proofs.Shown.{shown_listed, agree_owned}
use Rattle.checks.specs.Tables.{Table, row_of}
use Rattle.checks.specs.Checks.{counts_good_for, row_good, row_good_for, or_fault}
use Rattle.checks.specs.Verdict.{Verdict, Fine, Fault}
use Rattle.checks.proofs.Checks.{counts_facts_for, row_facts, row_facts_for}
use Rattle.checks.proofs.Refusals.{counts_fit_for, below_each}
use Rattle.checks.proofs.Alike.{alike_row, alike_named, alike_shown, agree_alike}
use Rattle.hull.specs.Reach.{touched, reach_over}
use Rattle.hull.proofs.Hulls.{hull_cong}
use Rattle.band_sums.specs.declared.BandNumbers.{BandNumbers}
use Rattle.bands.specs.BandsAnswer.{Done}
use Rattle.bands.specs.Bands.{bands_in, row_of_band, rows_in, shown_from, shown_in, rows_good_from, band_good, numbers_over, band_numbers, put_band, put_bands}
use Rattle.bands.specs.Calls.{before_rows, judge_bands, judge_band, leaves, by_verdict, fresh_cells, bands_of, band_of}
use Rattle.bands_laws.specs.Summaries.{AlikeWhole}
use Rattle.bands_laws.proofs.Cells.{puts_same}
use Rattle.bands_laws.proofs.Rows.{rows_each, band_row, band_good_lem, shown_of_lem, shown_same}
use Rattle.bands_laws.proofs.Fresh.{made_good, refreshed_good}

both_or_none : (a b : Bool) → (a ≡ true → b ≡ true) → (b ≡ true → a ≡ true) → a ≡ b
both_or_none true b f g = sym (f refl)
both_or_none false true f g = g refl
both_or_none false false f g = refl

-- the checks before a row, by what they ask
same_before : (W room : ℕ) {a a' d d' b b' : Bool} {h h' : ℕ} {v v' : Verdict} → a ≡ a' → d ≡ d' → b ≡ b' → h ≡ h' → v ≡ v'
    → or_fault (leb W (2 ^ 23)) Code.Size (or_fault a Code.Table (or_fault d Code.Desk (or_fault b Code.Trace (or_fault (leb (5 * bands_in h) room) Code.Room v))))
    ≡ or_fault (leb W (2 ^ 23)) Code.Size (or_fault a' Code.Table (or_fault d' Code.Desk (or_fault b' Code.Trace (or_fault (leb (5 * bands_in h') room) Code.Room v'))))
same_before W room p q r s e = rw (p, q, r, s, e)

-- entries whose segments are the same in two buffers touch the same columns
touched_same : (A B : List Float) (l : List ℕ) (x : ℕ) → ((j : ℕ) → j < length l → segment_at A (get_or l j 0) ≡ segment_at B (get_or l j 0)) → touched A l x ≡ touched B l x
touched_same A B [] x h = refl
touched_same A B (i ∷ l) x h =
    ap (λ (s : Segment). has_column s x || touched A l x) (h 0 (omega arith)) ∙ rw (touched_same A B l x (λ j k. h (suc j) (omega (arith, k))))

module _ {t u : Table} {s r : Sight} (k : AlikeWhole t s u r) where
  counts_alike : counts_good_for t s ≡ counts_good_for u r
  counts_alike =
      both_or_none (counts_good_for t s) (counts_good_for u r) (λ e. counts_fit_for u r (k.fit.0 (counts_facts_for t s e))) (λ e. counts_fit_for t s (k.fit.1 (counts_facts_for u r e)))

  desk_alike : desk_good s ≡ desk_good r
  desk_alike = ap (λ (d : ℕ). ltb d 2) k.sights.desk

  bytes_alike : bytes_good s ≡ bytes_good r
  bytes_alike =
      both_or_none (bytes_good s) (bytes_good r) (λ e. le-leb r.splines (length r.bits) (k.sights.lent.0 (leb-true s.splines (length s.bits) e)))
      (λ e. le-leb s.splines (length s.bits) (k.sights.lent.1 (leb-true r.splines (length r.bits) e)))

  before_alike : (W room : ℕ) {v v' : Verdict} → v ≡ v' → before_rows t s W room v ≡ before_rows u r W room v'
  unfolding before_rows
  before_alike W room e = same_before W room counts_alike desk_alike bytes_alike k.height e

  -- ---- the rows

  row_alike : (y : ℕ) → y < t.height → row_good_for t s y ≡ row_good_for u r y
  unfolding row_good_for
  row_alike y h = go (row_good t y) refl ∙ ap (λ (b : Bool). b && all_owned r.owners r.splines (row_of u y)) (alike_row (k.rows y h).tables)
    where
      go : (b : Bool) → row_good t y ≡ b → (row_good t y && all_owned s.owners s.splines (row_of t y)) ≡ (row_good t y && all_owned r.owners r.splines (row_of u y))
      go false e = rw e
      go true e =
          ap (λ (b : Bool). row_good t y && b)
          (agree_owned k.sights (row_of t y) (λ j l. (k.rows y h).owners j l (below_each t.segment_count (row_of t y) (row_facts t y e).all_named j l))
          ∙ ap (all_owned r.owners r.splines) (k.rows y h).tables.entries)

  rows_alike : (y n : ℕ) → ((z : ℕ) → y ≤ z → z < y + n → z < t.height) → rows_good_from t s y n ≡ rows_good_from u r y n
  unfolding rows_good_from
  rows_alike y zero h = refl
  rows_alike y (suc n) h = rw (row_alike y (h y (omega arith) (omega arith)), rows_alike (suc y) n (λ z a b. h z (omega (arith, a)) (omega (arith, b))))

  all_alike : rows_good_from t s 0 t.height ≡ rows_good_from u r 0 u.height
  all_alike = rows_alike 0 t.height (λ z a b. omega (arith, b)) ∙ ap (rows_good_from u r 0) k.height

  band_alike : (b : ℕ) → band_good t s b ≡ band_good u r b
  band_alike b =
      rows_alike (row_of_band b) (rows_in t.height b) (λ z a e. band_row t.height b z (record { from = a; before = e })) ∙ ap (λ (h : ℕ). rows_good_from u r (row_of_band b) (rows_in h b)) k.height

  module _ (W b : ℕ) (good : band_good t s b ≡ true) where
    row_good_lem : (y : ℕ) → row_of_band b ≤ y → y < row_of_band b + rows_in t.height b → row_good_for t s y ≡ true
    row_good_lem y = rows_each t s (row_of_band b) (rows_in t.height b) good y

    below : (y : ℕ) → row_of_band b ≤ y → y < row_of_band b + rows_in t.height b → y < t.height
    below y a e = band_row t.height b y (record { from = a; before = e })

    shown_alike : shown_in t s b ≡ shown_in u r b
    shown_alike =
        shown_same t u s r (row_of_band b) (rows_in t.height b) (λ y a e. alike_shown (k.rows y (below y a e)) (row_facts_for t s y (row_good_lem y a e)))
        ∙ ap (λ (h : ℕ). shown_from u r (row_of_band b) (rows_in h b)) k.height

    -- its shown entries name the same segments
    named_alike : (j : ℕ) → j < length (shown_in t s b) → segment_at t.segments (get_or (shown_in t s b) j 0) ≡ segment_at u.segments (get_or (shown_in t s b) j 0)
    named_alike j l =
        let o = shown_of_lem t s (row_of_band b) (rows_in t.height b) (record { index = j; in_row_lem = l; is = refl }) in
        let q = shown_listed s (row_of t o.row) o.listed.index o.listed.in_row_lem in
        let e : get_or (row_of t o.row) q.entry 0 ≡ get_or (shown_in t s b) j 0 = q.is_it ∙ o.listed.is in
        let f = row_facts_for t s o.row (row_good_lem o.row o.from o.before) in
        ap (segment_at t.segments) (sym e) ∙ alike_named (k.rows o.row (below o.row o.from o.before)).tables f.table q.entry q.in_list ∙ ap (segment_at u.segments) e

    reach_alike : reach_over t.segments W (shown_in t s b) ≡ reach_over u.segments W (shown_in t s b)
    reach_alike = hull_cong (touched t.segments (shown_in t s b)) (touched u.segments (shown_in t s b)) W (λ x l. touched_same t.segments u.segments (shown_in t s b) x named_alike)

    over_alike : numbers_over t W (shown_in t s b) ≡ numbers_over u W (shown_in t s b)
    unfolding numbers_over
    over_alike = rw reach_alike

    numbers_alike : band_numbers t s W b ≡ band_numbers u r W b
    numbers_alike = over_alike ∙ ap (numbers_over u W) shown_alike

  -- ---- the calls

  judged_bands : (W room : ℕ) → judge_bands t s W room ≡ judge_bands u r W room
  unfolding judge_bands
  judged_bands W room = before_alike W room (ap (λ (b : Bool). or_fault b Code.Table Fine) all_alike)

  judged_band : (W room b : ℕ) → judge_band t s W room b ≡ judge_band u r W room b
  unfolding judge_band
  judged_band W room b =
      before_alike W room
      (ap (λ (h : ℕ). or_fault (ltb b (bands_in h)) Code.Band (or_fault (band_good t s b) Code.Table Fine)) k.height
      ∙ ap (λ (g : Bool). or_fault (ltb b (bands_in u.height)) Code.Band (or_fault g Code.Table Fine)) (band_alike b))

  fresh_alike : (W room : ℕ) → rows_good_from t s 0 t.height ≡ true → fresh_cells t s W room ≡ fresh_cells u r W room
  fresh_alike W room g =
      puts_same (replicate room 0) (band_numbers t s W) (band_numbers u r W) (bands_in t.height) (λ b l. numbers_alike W b (band_good_lem t s b g))
      ∙ ap (λ (h : ℕ). put_bands (replicate room 0) (band_numbers u r W) (bands_in h)) k.height

  -- making answers and leaves the same
  pub bands_alike : (W room : ℕ) → bands_of t s W room ≡ bands_of u r W room
  unfolding bands_of
  bands_alike W room =
      go (judge_bands t s W room) refl
      ∙ ap (λ (v : Verdict). by_verdict v (bands_in u.height) (fresh_cells u r W room) (replicate room 0)) (judged_bands W room)
    where
      go : (v : Verdict) → judge_bands t s W room ≡ v → by_verdict v (bands_in t.height) (fresh_cells t s W room) (replicate room 0) ≡ by_verdict v (bands_in u.height) (fresh_cells u r W room) (replicate room 0)
      go (Fault c) e = refl
      go Fine e =
          ap (λ (h : ℕ). leaves (Done (bands_in h)) (fresh_cells t s W room)) k.height
          ∙ ap (leaves (Done (bands_in u.height)))
          (fresh_alike W room (made_good t s W room (bands_in t.height) (ap (λ (v : Verdict). (by_verdict v (bands_in t.height) (fresh_cells t s W room) (replicate room 0)).answer) e)))

  -- and so does refreshing any band
  pub refreshed_alike : (W b : ℕ) (cells : List ℕ) → band_of t s W b cells ≡ band_of u r W b cells
  unfolding band_of
  refreshed_alike W b cells =
      go (judge_band t s W (length cells) b) refl
      ∙ ap (λ (v : Verdict). by_verdict v (bands_in u.height) (put_band cells b (band_numbers u r W b)) cells) (judged_band W (length cells) b)
    where
      go : (v : Verdict) → judge_band t s W (length cells) b ≡ v → by_verdict v (bands_in t.height) (put_band cells b (band_numbers t s W b)) cells ≡ by_verdict v (bands_in u.height) (put_band cells b (band_numbers u r W b)) cells
      go (Fault c) e = refl
      go Fine e =
          ap (λ (h : ℕ). leaves (Done (bands_in h)) (put_band cells b (band_numbers t s W b))) k.height
          ∙ ap (λ (m : BandNumbers). leaves (Done (bands_in u.height)) (put_band cells b m))
          (numbers_alike W b (refreshed_good t s W b cells (bands_in t.height) (ap (λ (v : Verdict). (by_verdict v (bands_in t.height) (put_band cells b (band_numbers t s W b)) cells).answer) e)))

-- ---- one table, two sights of it

agree_whole : (t : Table) (s r : Sight) → Agree s r → s.owners ≡ r.owners → AlikeWhole t s t r
agree_whole t s r a e = record {
  fit = (λ f. record { table = f.table; owners_fit = omega (arith, f.owners_fit, ap length e) }, λ f. record { table = f.table; owners_fit = omega (arith, f.owners_fit, ap length e) });
  height = refl;
  sights = a;
  rows = λ y h. agree_alike t s r y a e;
}

-- the other desk's bits change nothing of a desk's summary
pub bands_of_desks_apart : (t : Table) (s r : Sight) (W room : ℕ) → Agree s r → s.owners ≡ r.owners → bands_of t s W room ≡ bands_of t r W room
bands_of_desks_apart t s r W room a e = bands_alike (agree_whole t s r a e) W room

-- nor of its refreshes
pub band_of_desks_apart : (t : Table) (s r : Sight) (W b : ℕ) (cells : List ℕ) → Agree s r → s.owners ≡ r.owners → band_of t s W b cells ≡ band_of t r W b cells
band_of_desks_apart t s r W b cells a e = refreshed_alike (agree_whole t s r a e) W b cells

-- Assumes nothing.
