-- The five numbers of a band in words: none of none, the least and the greatest of the shown segment numbers, and the hull of the rows' reaches.
use mathlib.Core.Path.{◌≡◌, refl, sym, ap, ◌∙◌}
use mathlib.Core.Bool.{true}
use mathlib.Core.Logic.{◌⊎◌, inl, inr, ⊎_elim}
use mathlib.Core.List.{List, [], ◌∷◌, foldl}
use Prim.Native.Nat.{ℕ, zero, suc, ◌^◌, ◌≤◌, ◌<◌, min, max}
use native.Mathlib.Omega.{arith}
use lib.ListN.{length, get_or}
use lib.Ieee.{Float}
use borrow.Author.Tests.{lt-ltb, le-leb}
use Rattle.shade.proofs.Edits.{lt_or_ge}
use Rattle.segments.specs.Segment.{segment_at}
use Rattle.segments.specs.Ranges.{has_column}
use Rattle.segments.specs.declared.Range.{Range}
use Rattle.desks.specs.Desks.{Sight}
use Rattle.checks.specs.Tables.{Table, shown_of}
use Rattle.checks.specs.Refusals.{Lent}
use Rattle.checks.specs.Verdict.{Fine}
use Rattle.checks.proofs.Refusals.{counts_fit_for}
use Rattle.hull.specs.Reach.{none, touched, reach_over, judge_reach_of, ReachOutcome, reach_of}
use Rattle.hull.specs.ReachAnswer as Reaching
use Rattle.hull.proofs.Hulls.{Least, one_less, one_least, least_none, Passing, least_hull, touched_by, touched_if}
use Rattle.hull.proofs.Reaches.{reach_done, reached}
use Rattle.picture.specs.Picture.{Found}
use Rattle.bands.specs.Bands.{row_of_band, rows_in, shown_in, band_good, least_of, greatest_of, numbers_over, band_numbers, band_cells}
use Rattle.bands_laws.specs.Summaries.{InBand, ShownInBand, Bounds, RowReach, HullOf}
use Rattle.bands_laws.proofs.Rows.{rows_each, band_row, shown_of_lem, shown_in_lem}

-- ---- of nothing

none_reached : (segs : List Float) (W : ℕ) → reach_over segs W [] ≡ none
none_reached segs W = one_least (least_hull (touched segs []) W) (least_none (λ x i. let q = i.1 in let z : ◌≡◌ {A = ℕ} 0 1 = cc in omega (arith, z)))

pub none_zero : (t : Table) (W j : ℕ) → j < 5 → get_or (band_cells (numbers_over t W [])) j 0 ≡ 0
unfolding numbers_over
none_zero t W zero h = refl
none_zero t W (suc zero) h = refl
none_zero t W (suc (suc zero)) h = refl
none_zero t W (suc (suc (suc zero))) h = ap (λ (r : Range). r.first) (none_reached t.segments W)
none_zero t W (suc (suc (suc (suc zero)))) h = ap (λ (r : Range). r.past) (none_reached t.segments W)
none_zero t W (suc (suc (suc (suc (suc j))))) h = absurd (omega (arith, h))

-- ---- the least and the greatest

-- either of two numbers that bounds both, taken through a list
module _ (op : ℕ → ℕ → ℕ) (Below : ℕ → ℕ → Type 0) (left : (a b : ℕ) → Below (op a b) a) (right : (a b : ℕ) → Below (op a b) b)
    (onward : (a b c : ℕ) → Below a b → Below b c → Below a c) (same : (a : ℕ) → Below a a) (one : (a b : ℕ) → (op a b ≡ a) ⊎ (op a b ≡ b)) where
  fold_first : (i : ℕ) (l : List ℕ) → Below (foldl op i l) i
  fold_first i [] = same i
  fold_first i (k ∷ l) = onward (foldl op (op i k) l) (op i k) i (fold_first (op i k) l) (left i k)

  fold_each : (i : ℕ) (l : List ℕ) (j : ℕ) → j < length l → Below (foldl op i l) (get_or l j 0)
  fold_each i [] j h = absurd (omega (arith, h))
  fold_each i (k ∷ l) zero h = onward (foldl op (op i k) l) (op i k) k (fold_first (op i k) l) (right i k)
  fold_each i (k ∷ l) (suc j) h = fold_each (op i k) l j (omega (arith, h))

  fold_among : (i : ℕ) (l : List ℕ) → (foldl op i l ≡ i) ⊎ Found l (foldl op i l)
  fold_among i [] = inl refl
  fold_among i (k ∷ l) =
      ⊎_elim
      (λ e. ⊎_elim (λ f. inl (e ∙ f)) (λ f. inr (record { index = 0; in_row_lem = omega arith; is = sym (e ∙ f) })) (one i k))
      (λ a. inr (record { index = suc a.index; in_row_lem = omega (arith, a.in_row_lem); is = a.is }))
      (fold_among (op i k) l)

  fold_is : (i : ℕ) (l : List ℕ) → Found (i ∷ l) (foldl op i l)
  fold_is i l =
      ⊎_elim (λ e. record { index = 0; in_row_lem = omega arith; is = sym e }) (λ a. record { index = suc a.index; in_row_lem = omega (arith, a.in_row_lem); is = a.is }) (fold_among i l)

  fold_all : (i : ℕ) (l : List ℕ) (j : ℕ) → j < length (i ∷ l) → Below (foldl op i l) (get_or (i ∷ l) j 0)
  fold_all i l zero h = fold_first i l
  fold_all i l (suc j) h = fold_each i l j (omega (arith, h))

abbrev NotAbove : ℕ → ℕ → Type 0
NotAbove a b = a ≤ b

abbrev NotBelow : ℕ → ℕ → Type 0
NotBelow a b = b ≤ a

least_one : (a b : ℕ) → (min a b ≡ a) ⊎ (min a b ≡ b)
least_one a b = ⊎_elim (λ h. inl (omega (arith, h))) (λ h. inr (omega (arith, h))) (lt_or_ge a b)

greatest_one : (a b : ℕ) → (max a b ≡ a) ⊎ (max a b ≡ b)
greatest_one a b = ⊎_elim (λ h. inr (omega (arith, h))) (λ h. inl (omega (arith, h))) (lt_or_ge a b)

least_found : (l : List ℕ) → 0 < length l → Found l (least_of l)
least_found [] h = absurd (omega (arith, h))
least_found (i ∷ l) h = fold_is min NotAbove (λ a b. omega arith) (λ a b. omega arith) (λ a b c p q. omega (arith, p, q)) (λ a. omega arith) least_one i l

least_each : (l : List ℕ) (j : ℕ) → j < length l → least_of l ≤ get_or l j 0
least_each [] j h = absurd (omega (arith, h))
least_each (i ∷ l) j h = fold_all min NotAbove (λ a b. omega arith) (λ a b. omega arith) (λ a b c p q. omega (arith, p, q)) (λ a. omega arith) least_one i l j h

greatest_found : (l : List ℕ) → 0 < length l → Found l (greatest_of l)
greatest_found [] h = absurd (omega (arith, h))
greatest_found (i ∷ l) h = fold_is max NotBelow (λ a b. omega arith) (λ a b. omega arith) (λ a b c p q. omega (arith, p, q)) (λ a. omega arith) greatest_one i l

greatest_each : (l : List ℕ) (j : ℕ) → j < length l → get_or l j 0 ≤ greatest_of l
greatest_each [] j h = absurd (omega (arith, h))
greatest_each (i ∷ l) j h = fold_all max NotBelow (λ a b. omega arith) (λ a b. omega arith) (λ a b c p q. omega (arith, p, q)) (λ a. omega arith) greatest_one i l j h

-- ---- of a band

module _ (t : Table) (s : Sight) (b : ℕ) where
  band_shown : {i : ℕ} → Found (shown_in t s b) i → ShownInBand t s b i
  band_shown a = let o = shown_of_lem t s (row_of_band b) (rows_in t.height b) a in record { row = o.row; in_band = record { from = o.from; before = o.before }; listed = o.listed }

  shown_band : {i : ℕ} → ShownInBand t s b i → Found (shown_in t s b) i
  shown_band o = shown_in_lem t s (row_of_band b) (rows_in t.height b) (record { row = o.row; from = o.in_band.from; before = o.in_band.before; listed = o.listed })

  pub numbers_shown : (W : ℕ) → (band_numbers t s W b).entries ≡ length (shown_in t s b)
  unfolding numbers_over
  numbers_shown W = refl

  pub least_is : (W : ℕ) → 0 < length (shown_in t s b) → Bounds (λ i j. i ≤ j) t s b (band_numbers t s W b).least
  unfolding numbers_over
  least_is W h = record {
    is_shown = band_shown (least_found (shown_in t s b) h);
    bounds = λ j o. let a = shown_band o in omega (arith, least_each (shown_in t s b) a.index a.in_row_lem, a.is);
  }

  pub greatest_is : (W : ℕ) → 0 < length (shown_in t s b) → Bounds (λ i j. j ≤ i) t s b (band_numbers t s W b).greatest
  unfolding numbers_over
  greatest_is W h = record {
    is_shown = band_shown (greatest_found (shown_in t s b) h);
    bounds = λ j o. let a = shown_band o in omega (arith, greatest_each (shown_in t s b) a.index a.in_row_lem, a.is);
  }

-- ---- the columns

module _ (t : Table) (s : Sight) (W b : ℕ) (narrow : W ≤ 2 ^ 23) (lent : Lent t s) (good : band_good t s b ≡ true) where
  -- the reach of row y is done with these columns
  abbrev Answers : ℕ → ℕ → ℕ → Type 0
  Answers y a e = (reach_of t s y W).answer ≡ Reaching.Done a e

  -- a row of the band has an answer of reach
  row_judged : (y : ℕ) → InBand t.height b y → judge_reach_of t s y W ≡ Fine
  unfolding judge_reach_of
  row_judged y i =
      rw (
        lt-ltb s.desk 2 lent.desk,
        le-leb W (2 ^ 23) narrow,
        counts_fit_for t s lent.counts,
        le-leb s.splines (length s.bits) lent.bytes,
        lt-ltb y t.height (band_row t.height b y i),
        rows_each t s (row_of_band b) (rows_in t.height b) good y i.from i.before,
      )

  abbrev reach_in : ℕ → Range
  reach_in y = reach_over t.segments W (shown_of t s y)

  row_done : (y : ℕ) → InBand t.height b y → (reach_of t s y W).answer ≡ Reaching.Done (reach_in y).first (reach_in y).past
  row_done y i = sym (ap (λ (o : ReachOutcome). o.answer) (reach_done t s y W (reach_in y) (row_judged y i) refl))

  -- a column of the band is one of a row's, and the other way round
  abbrev InRow : ℕ → ℕ → Type 0
  InRow y = Passing (touched t.segments (shown_of t s y)) W

  record OfRow (x : ℕ) : Type 0 where
    row : ℕ
    in_band : InBand t.height b row
    column : InRow row x

  of_row : (x : ℕ) → Passing (touched t.segments (shown_in t s b)) W x → OfRow x
  of_row x i =
      let u = touched_by t.segments (shown_in t s b) x i.1 in
      let o = band_shown t s b (record { index = u.entry; in_row_lem = u.in_list; is = refl }) in
      record {
        row = o.row;
        in_band = o.in_band;
        column = (i.0, touched_if t.segments (shown_of t s o.row) x o.listed.index o.listed.in_row_lem (ap (λ (k : ℕ). has_column (segment_at t.segments k) x) o.listed.is ∙ u.has));
      }

  in_all : (x y : ℕ) → InBand t.height b y → InRow y x → Passing (touched t.segments (shown_in t s b)) W x
  in_all x y h i =
      let u = touched_by t.segments (shown_of t s y) x i.1 in
      let a = shown_band t s b (record { row = y; in_band = h; listed = record { index = u.entry; in_row_lem = u.in_list; is = refl } }) in
      (i.0, touched_if t.segments (shown_in t s b) x a.index a.in_row_lem (ap (λ (k : ℕ). has_column (segment_at t.segments k) x) a.is ∙ u.has))

  abbrev whole : Range
  whole = reach_over t.segments W (shown_in t s b)

  all : Least (Passing (touched t.segments (shown_in t s b)) W) whole
  all = least_hull (touched t.segments (shown_in t s b)) W

  inside : (y : ℕ) → InBand t.height b y → (a e : ℕ) → Answers y a e → a < e → (whole.first ≤ a) × (e ≤ whole.past)
  inside y i a e d h =
      let l = (reached t s y W d).1 in
      let m = one_less a e h in
      ((all.holds a (in_all a y i (l.begins h))).0, omega (arith, m.1, (all.holds m.0 (in_all m.0 y i (l.ends m.0 h m.1))).1))

  begins : whole.first < whole.past → RowReach Answers (λ a e. a ≡ whole.first) t.height b
  begins h =
      let o = of_row whole.first (all.begins h) in
      let d = row_done o.row o.in_band in
      let w = (reached t s o.row W d).1.holds whole.first o.column in
      let k : (reach_in o.row).first < (reach_in o.row).past = omega (arith, w.0, w.1) in
      record {
        row = o.row;
        in_band = o.in_band;
        a = (reach_in o.row).first;
        e = (reach_in o.row).past;
        answers = d;
        ordered = k;
        holds = omega (arith, w.0, (inside o.row o.in_band _ _ d k).0);
      }

  ends : whole.first < whole.past → RowReach Answers (λ a e. e ≡ whole.past) t.height b
  ends h =
      let m = one_less whole.first whole.past h in
      let o = of_row m.0 (all.ends m.0 h m.1) in
      let d = row_done o.row o.in_band in
      let w = (reached t s o.row W d).1.holds m.0 o.column in
      let k : (reach_in o.row).first < (reach_in o.row).past = omega (arith, w.0, w.1) in
      record {
        row = o.row;
        in_band = o.in_band;
        a = (reach_in o.row).first;
        e = (reach_in o.row).past;
        answers = d;
        ordered = k;
        holds = omega (arith, w.1, m.1, (inside o.row o.in_band _ _ d k).1);
      }

  pub band_hull : HullOf (λ y a e. (reach_of t s y W).answer ≡ Reaching.Done a e) (λ y a e. (reach_of t s y W).answer ≡ Reaching.Done a e) t.height b (band_numbers t s W b).first (band_numbers t s W b).past
  unfolding numbers_over
  band_hull = record {
    each = λ y i. ((reach_in y).first, (reach_in y).past, row_done y i);
    inside = λ y i a e d h. let w = inside y i a e d h in (w.0, omega (arith, w.1));
    begins = begins;
    ends = ends;
    empty = λ h. (ap (λ (r : Range). r.first) (all.empty h), ap (λ (r : Range). r.past) (all.empty h));
  }

-- Assumes nothing.
