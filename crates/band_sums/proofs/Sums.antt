-- Laws of sums: what is summed entry by entry, and row by row, is the numbers of all that is shown.
use mathlib.Core.Path.{◌≡◌, refl, sym, ap, subst, ◌∙◌}
use mathlib.Core.Bool.{Bool, true, false, cond, ◌&&◌}
use mathlib.Core.List.{List, [], ◌∷◌, ◌++◌, foldl}
use Prim.Native.Nat.{ℕ, suc, ◌+◌, ◌-◌, ◌*◌, ◌^◌, ◌<◌, ◌≤◌, min, max}
use native.Mathlib.Omega.{arith}
use lib.Dec.{ltb}
use lib.ListN.{length, get_or}
use lib.Seq.{slice, length-slice}
use lib.Ieee.{Float}
use borrow.Author.Tests.{lt-ltb}
use Rattle.segments.specs.Segment.{segment_at}
use Rattle.segments.specs.declared.Segment.{Segment}
use Rattle.segments.specs.declared.Range.{Range}
use Rattle.desks.specs.Desks.{Sight, hidden_in, shown, all_owned}
use Rattle.desks.proofs.Shown.{shown_most}
use Rattle.checks.specs.Tables.{Table, row_of, shown_of}
use Rattle.checks.specs.Checks.{all_below, row_good_for}
use Rattle.checks.specs.Refusals.{Lent}
use Rattle.checks.proofs.Checks.{row_facts_for}
use Rattle.checks.proofs.Entries.{slice_next, slice_none, not_below, not_owned, owned_on}
use Rattle.joins.specs.Joins.{joined, columns_below}
use Rattle.joins.proofs.Joins.{same_range}
use Rattle.hull.specs.Reach.{reach_over}
use Rattle.hull.proofs.Hulls.{joined_over, joined_over_lem}
use Rattle.band_sums.specs.declared.BandNumbers.{BandNumbers}
use Rattle.band_sums.specs.Summed.{Summed, Good, Bad}
use Rattle.band_sums.specs.Numbers.{bands_in, row_of_band, rows_in, rows_good_from, band_good, shown_from, least_of, greatest_of, numbers_over, band_numbers}
use Rattle.band_sums.specs.Steps.{nothing, least_with, with_one, summed, good_or, sum_over, sum_row, sum_rows}

-- ---- listed entries

pub same_numbers : (m n : BandNumbers) → m.entries ≡ n.entries → m.least ≡ n.least → m.greatest ≡ n.greatest → m.first ≡ n.first → m.past ≡ n.past → m ≡ n
same_numbers m n p q r u v = rw (p, q, r, u, v)

abbrev range_of : BandNumbers → Range
range_of m = record { first = m.first; past = m.past }

module _ (segs : List Float) (W : ℕ) where
  pub summed_entries : (m : BandNumbers) (l : List ℕ) → (summed segs W m l).entries ≡ m.entries + length l
  unfolding with_one
  summed_entries m [] = omega arith
  summed_entries m (i ∷ l) = omega (arith, summed_entries (with_one segs W m i) l)

  summed_least : (m : BandNumbers) (l : List ℕ) → 0 < m.entries → (summed segs W m l).least ≡ foldl min m.least l
  unfolding with_one
  summed_least m [] h = refl
  summed_least m (i ∷ l) h = summed_least (with_one segs W m i) l (omega arith) ∙ ap (λ (b : Bool). foldl min (cond b (min m.least i) i) l) (lt-ltb 0 m.entries h)

  summed_greatest : (m : BandNumbers) (l : List ℕ) → (summed segs W m l).greatest ≡ foldl max m.greatest l
  unfolding with_one
  summed_greatest m [] = refl
  summed_greatest m (i ∷ l) = summed_greatest (with_one segs W m i) l

  summed_range : (m : BandNumbers) (l : List ℕ) → range_of (summed segs W m l) ≡ joined_over segs W (range_of m) l
  unfolding with_one
  summed_range m [] = refl
  summed_range m (i ∷ l) = summed_range (with_one segs W m i) l

  pub summed_append : (m : BandNumbers) (a b : List ℕ) → summed segs W m (a ++ b) ≡ summed segs W (summed segs W m a) b
  summed_append m [] b = refl
  summed_append m (i ∷ a) b = summed_append (with_one segs W m i) a b

  least_all : (l : List ℕ) → (summed segs W nothing l).least ≡ least_of l
  unfolding with_one
  least_all [] = refl
  least_all (i ∷ l) = summed_least (with_one segs W nothing i) l (omega arith)

  greatest_all : (l : List ℕ) → (summed segs W nothing l).greatest ≡ greatest_of l
  unfolding with_one
  greatest_all [] = refl
  greatest_all (i ∷ l) = summed_greatest (with_one segs W nothing i) l ∙ ap (λ (k : ℕ). foldl max k l) (zero_max i)
    where
      zero_max : (k : ℕ) → max 0 k ≡ k
      zero_max k = omega arith

-- the sum of listed entries is their numbers
pub summed_all : (t : Table) (W : ℕ) → W ≤ 2 ^ 23 → (l : List ℕ) → summed t.segments W nothing l ≡ numbers_over t W l
unfolding numbers_over
summed_all t W w l =
    let r : range_of (summed t.segments W nothing l) ≡ reach_over t.segments W l = summed_range t.segments W nothing l ∙ joined_over_lem t.segments W w l in
    same_numbers
    (summed t.segments W nothing l)
    (record { entries = length l; least = least_of l; greatest = greatest_of l; first = (reach_over t.segments W l).first; past = (reach_over t.segments W l).past })
    (omega (arith, summed_entries t.segments W nothing l))
    (least_all t.segments W l)
    (greatest_all t.segments W l)
    (ap (λ (q : Range). q.first) r)
    (ap (λ (q : Range). q.past) r)

-- ---- an entry after another

-- the sum with one entry, from its parts
pub one_is : (segs : List Float) (W : ℕ) (m : BandNumbers) (i w : ℕ) {l g : ℕ} {q r : Range} {z : Segment} → z ≡ segment_at segs i → r ≡ joined q (columns_below w z) → l ≡ least_with m i → w ≡ W → q.first ≡ m.first → q.past ≡ m.past → g ≡ max m.greatest i → record { entries = m.entries + 1; least = l; greatest = g; first = r.first; past = r.past } ≡ with_one segs W m i
unfolding with_one
one_is segs W m i w {l} {g} {q} {r} {z} a b u k x y v =
    let j : r ≡ joined (range_of m) (columns_below W (segment_at segs i)) =
    b
    ∙ ap (λ (x : Segment). joined q (columns_below w x)) a
    ∙ ap (λ (n : ℕ). joined q (columns_below n (segment_at segs i))) k
    ∙ ap (λ (n : Range). joined n (columns_below W (segment_at segs i))) (same_range q (range_of m) x y)
    in
    rw (u, v, j)

-- a sum with entry i, unless it is hidden
abbrev pub sum_with : List Float → Sight → ℕ → BandNumbers → ℕ → BandNumbers
sum_with segs s W m i = cond (hidden_in s i) m (with_one segs W m i)

pub sum_hidden : (segs : List Float) (s : Sight) (W : ℕ) (m : BandNumbers) (i : ℕ) → hidden_in s i ≡ true → m ≡ sum_with segs s W m i
sum_hidden segs s W m i e = rw e

pub sum_shown : (segs : List Float) (s : Sight) (W : ℕ) (m : BandNumbers) (i : ℕ) {q : BandNumbers} → hidden_in s i ≡ false → q ≡ with_one segs W m i → q ≡ sum_with segs s W m i
sum_shown segs s W m i e k = rw e k

-- it counts one more at most
pub with_most : (segs : List Float) (s : Sight) (W : ℕ) (m : BandNumbers) (i : ℕ) {q : BandNumbers} → q ≡ sum_with segs s W m i → q.entries ≤ m.entries + 1
unfolding with_one
with_most segs s W m i {q} e = rw (ap (λ (n : BandNumbers). n.entries) e) (go (hidden_in s i))
  where
    go : (b : Bool) → (cond b m (with_one segs W m i)).entries ≤ m.entries + 1
    go true = omega arith
    go false = omega arith

module _ (segs : List Float) (count : ℕ) (s : Sight) (W e : ℕ) (l : List ℕ) (k : e ≤ length l) where
  first_summed : (m : BandNumbers) (i : ℕ) (r : List ℕ) → summed segs W m (shown s (i ∷ r)) ≡ summed segs W (sum_with segs s W m i) (shown s r)
  first_summed m i r = go (hidden_in s i)
    where
      go : (b : Bool) → summed segs W m (cond b (shown s r) (i ∷ shown s r)) ≡ summed segs W (cond b m (with_one segs W m i)) (shown s r)
      go true = refl
      go false = refl

  pub over_not_below : (m : BandNumbers) (j : ℕ) → j < e → ltb (get_or l j 0) count ≡ false → sum_over segs count s W m (slice j e l) ≡ Bad
  over_not_below m j h p = ap (λ (b : Bool). good_or b (summed segs W m (shown s (slice j e l)))) (not_below count s.owners s.splines j e l h k p)

  pub over_not_owned : (m : BandNumbers) (j : ℕ) → j < e → ltb (get_or s.owners (get_or l j 0) 0) s.splines ≡ false → sum_over segs count s W m (slice j e l) ≡ Bad
  over_not_owned m j h p = ap (λ (b : Bool). good_or b (summed segs W m (shown s (slice j e l)))) (not_owned count s.owners s.splines j e l h k p)

  pub over_next : (m q : BandNumbers) (j : ℕ) → j < e → ltb (get_or l j 0) count ≡ true → ltb (get_or s.owners (get_or l j 0) 0) s.splines ≡ true → q ≡ sum_with segs s W m (get_or l j 0) → sum_over segs count s W m (slice j e l) ≡ sum_over segs count s W q (slice (j + 1) e l)
  over_next m q j h p o v =
      ap (λ (b : Bool). good_or b (summed segs W m (shown s (slice j e l)))) (owned_on count s.owners s.splines j e l h k p o)
      ∙ ap (good_or (all_below count (slice (j + 1) e l) && all_owned s.owners s.splines (slice (j + 1) e l))) (ap (λ (r : List ℕ). summed segs W m (shown s r)) (slice_next j e l h k) ∙ first_summed m (get_or l j 0) (slice (j + 1) e l) ∙ ap (λ (n : BandNumbers). summed segs W n (shown s (slice (j + 1) e l))) (sym v))

  pub over_none : (m : BandNumbers) (j : ℕ) → j ≤ e → e ≤ j → sum_over segs count s W m (slice j e l) ≡ Good m
  over_none m j h g = ap (λ (r : List ℕ). sum_over segs count s W m r) (slice_none j e l h g)

-- ---- a row after another

abbrev is_good : Summed → Type 0
is_good (Good m) = Unit
is_good Bad = ⊥

abbrev numbers_in : BandNumbers → Summed → BandNumbers
numbers_in d (Good m) = m
numbers_in d Bad = d

pub was_good : (b : Bool) (m : BandNumbers) {q : BandNumbers} → good_or b m ≡ Good q → (b ≡ true) × (q ≡ m)
was_good true m {q} e = (refl, sym (ap (numbers_in m) e))
was_good false m e = absurd (subst is_good (sym e) tt)

pub was_bad : (b : Bool) (m : BandNumbers) → good_or b m ≡ Bad → b ≡ false
was_bad true m e = absurd (subst is_good e tt)
was_bad false m e = refl

module _ (t : Table) (s : Sight) (W : ℕ) where
  pub rows_none : (m : BandNumbers) (y : ℕ) → sum_rows t s W m y 0 ≡ Good m
  unfolding rows_good_from shown_from
  rows_none m y = refl

  pub rows_next : (m q : BandNumbers) (y n : ℕ) → sum_row t s W m y ≡ Good q → sum_rows t s W m y (suc n) ≡ sum_rows t s W q (suc y) n
  unfolding rows_good_from shown_from
  rows_next m q y n e =
      let g = was_good (row_good_for t s y) (summed t.segments W m (shown_of t s y)) e in
      rw g.0
      (ap
      (good_or (rows_good_from t s (suc y) n))
      (summed_append t.segments W m (shown_of t s y) (shown_from t s (suc y) n) ∙ ap (λ (k : BandNumbers). summed t.segments W k (shown_from t s (suc y) n)) (sym g.1)))

  pub rows_bad : (m : BandNumbers) (y n : ℕ) → sum_row t s W m y ≡ Bad → sum_rows t s W m y (suc n) ≡ Bad
  unfolding rows_good_from shown_from
  rows_bad m y n e = rw (was_bad (row_good_for t s y) (summed t.segments W m (shown_of t s y)) e)

  -- up to a row e
  pub rows_on : (m q : BandNumbers) (y e : ℕ) → y < e → sum_row t s W m y ≡ Good q → sum_rows t s W m y (e - y) ≡ sum_rows t s W q (y + 1) (e - (y + 1))
  rows_on m q y e h g =
      let a : e - y ≡ suc (e - (y + 1)) = omega arith in
      let b : suc y ≡ y + 1 = omega arith in
      ap (sum_rows t s W m y) a ∙ rows_next m q y (e - (y + 1)) g ∙ ap (λ (k : ℕ). sum_rows t s W q k (e - (y + 1))) b

  pub rows_off : (m : BandNumbers) (y e : ℕ) → y < e → sum_row t s W m y ≡ Bad → sum_rows t s W m y (e - y) ≡ Bad
  rows_off m y e h g = let a : e - y ≡ suc (e - (y + 1)) = omega arith in ap (sum_rows t s W m y) a ∙ rows_bad m y (e - (y + 1)) g

  pub rows_end : (m : BandNumbers) (y e : ℕ) → e ≤ y → sum_rows t s W m y (e - y) ≡ Good m
  rows_end m y e h = let a : e - y ≡ 0 = omega arith in ap (sum_rows t s W m y) a ∙ rows_none m y

  -- the entries summed are no more than the row's end: each row begins where the one before it ends
  pub row_most : (m q : BandNumbers) (y : ℕ) → Lent t s → m.entries ≤ get_or t.row_starts y 0 → sum_row t s W m y ≡ Good q → q.entries ≤ get_or t.row_starts (y + 1) 0
  row_most m q y f h e =
      let g = was_good (row_good_for t s y) (summed t.segments W m (shown_of t s y)) e in
      let r = row_facts_for t s y g.0 in
      let a = summed_entries t.segments W m (shown_of t s y) in
      let b = shown_most s (row_of t y) in
      let fit : get_or t.row_starts (y + 1) 0 ≤ length t.entries = omega (arith, r.table.in_count, f.counts.table.entries_fit) in
      let d = length-slice (get_or t.row_starts y 0) (get_or t.row_starts (y + 1) 0) t.entries fit in
      let p : q.entries ≡ (summed t.segments W m (shown_of t s y)).entries = ap (λ (k : BandNumbers). k.entries) g.1 in
      omega (arith, a, b, d, p, h, r.table.ascending)

  -- a sum whose numbers are all 0 is that of no entry
  pub rows_begin : (m : BandNumbers) (y n : ℕ) → m.entries ≡ 0 → m.least ≡ 0 → m.greatest ≡ 0 → m.first ≡ 0 → m.past ≡ 0 → sum_rows t s W nothing y n ≡ sum_rows t s W m y n
  rows_begin m y n p q r u v = sym (ap (λ (k : BandNumbers). sum_rows t s W k y n) (same_numbers m nothing p q r u v))

  -- from nothing: the numbers of all that is shown
  pub rows_all : W ≤ 2 ^ 23 → (y n : ℕ) → sum_rows t s W nothing y n ≡ good_or (rows_good_from t s y n) (numbers_over t W (shown_from t s y n))
  rows_all w y n = ap (good_or (rows_good_from t s y n)) (summed_all t W w (shown_from t s y n))

-- ---- the rows of a band

-- a band of the image begins in it
pub band_begins : (H b : ℕ) → b < bands_in H → 64 * b < H
unfolding bands_in
band_begins H b h = omega arith

module _ (t : Table) (s : Sight) (W : ℕ) where
  -- the sum of its rows, from its first up to the least of 64 more and the height
  pub band_sum : (b y e : ℕ) {r : Summed} → y ≡ 64 * b → e ≡ min (y + 64) t.height → r ≡ good_or (rows_good_from t s y (e - y)) (numbers_over t W (shown_from t s y (e - y))) → r ≡ good_or (band_good t s b) (band_numbers t s W b)
  unfolding row_of_band rows_in
  band_sum b y e {r} p q k =
      let n : e - y ≡ min 64 (t.height - 64 * b) = omega (arith, p, q) in
      k
      ∙ ap (λ (m : ℕ). good_or (rows_good_from t s y m) (numbers_over t W (shown_from t s y m))) n
      ∙ ap (λ (m : ℕ). good_or (rows_good_from t s m (min 64 (t.height - 64 * b))) (numbers_over t W (shown_from t s m (min 64 (t.height - 64 * b))))) p

-- Assumes nothing.
