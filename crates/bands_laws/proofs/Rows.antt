-- The rows of a band: each is good, or one is bad, and what is shown of them together is what is shown of each.
use mathlib.Core.Path.{◌≡◌, refl, sym, ap, subst, ◌∙◌}
use mathlib.Core.Bool.{Bool, true, false}
use mathlib.Core.Logic.{◌⊎◌, inl, inr, ⊎_elim}
use mathlib.Core.List.{List, [], ◌∷◌, ◌++◌}
use Prim.Native.Nat.{ℕ, zero, suc, ◌+◌, ◌≤◌, ◌<◌}
use native.Mathlib.Omega.{arith}
use lib.ListN.{length, get_or, length-append, get_or-append}
use lib.Seq.{get_or-append-add}
use Rattle.shade.proofs.Edits.{lt_or_ge}
use Rattle.desks.specs.Desks.{Sight}
use Rattle.checks.specs.Tables.{Table, shown_of}
use Rattle.checks.specs.Checks.{row_good_for}
use Rattle.checks.proofs.Entries.{and_left, and_right}
use Rattle.checks.proofs.Refusals.{is_false, row_bad_for, fine_or_bad_for}
use Rattle.picture.specs.Picture.{Found}
use Rattle.bands.specs.Bands.{bands_in, row_of_band, rows_in, shown_from, rows_good_from}
use Rattle.bands.specs.Refusals.{RowsBadFor}
use Rattle.bands_laws.specs.Summaries.{InBand, BandRows}

-- ---- good and bad rows

false_true : false ≡ true → ⊥
false_true p = subst is_false_one p tt
  where
    is_false_one : Bool → Type 0
    is_false_one true = ⊥
    is_false_one false = Unit

module _ (t : Table) (s : Sight) where
  pub rows_each : (y n : ℕ) → rows_good_from t s y n ≡ true → (r : ℕ) → y ≤ r → r < y + n → row_good_for t s r ≡ true
  unfolding rows_good_from
  rows_each y zero h r a b = absurd (omega (arith, a, b))
  rows_each y (suc n) h r a b =
      ⊎_elim
      (λ u. rows_each (suc y) n (and_right (row_good_for t s y) (rows_good_from t s (suc y) n) h) r (omega (arith, u)) (omega (arith, b)))
      (λ u.
      let e : y ≡ r = omega (arith, a, u) in
      ap (row_good_for t s) (sym e) ∙ and_left (row_good_for t s y) (rows_good_from t s (suc y) n) h)
      (lt_or_ge y r)

  pub rows_good : (y n : ℕ) → ((r : ℕ) → y ≤ r → r < y + n → row_good_for t s r ≡ true) → rows_good_from t s y n ≡ true
  unfolding rows_good_from
  rows_good y zero h = refl
  rows_good y (suc n) h = rw (h y (omega arith) (omega arith)) (rows_good (suc y) n (λ r a b. h r (omega (arith, a)) (omega (arith, b))))

  pub rows_bad : {y n : ℕ} → RowsBadFor t s y n → rows_good_from t s y n ≡ false
  rows_bad {y} {n} o =
      is_false (rows_good_from t s y n) (λ e. false_true (sym (row_bad_for t s o.row o.bad) ∙ rows_each y n e o.row o.from o.before))

  pub good_or_bad : (y n : ℕ) → (rows_good_from t s y n ≡ true) ⊎ RowsBadFor t s y n
  unfolding rows_good_from
  good_or_bad y zero = inl refl
  good_or_bad y (suc n) =
      ⊎_elim
      (λ e. ⊎_elim
      (λ f. inl (rw e f))
      (λ o. inr (record { row = o.row; from = omega (arith, o.from); before = omega (arith, o.before); bad = o.bad }))
      (good_or_bad (suc y) n))
      (λ o. inr (record { row = y; from = omega arith; before = omega arith; bad = o }))
      (fine_or_bad_for t s y)

-- the rows of a band are rows of the image
pub band_row : (H b y : ℕ) → InBand H b y → y < H
unfolding row_of_band rows_in
band_row H b y i = omega (arith, i.from, i.before)

-- each row is in one band, and each band but the last is full
pub band_rows : (H : ℕ) → BandRows H
unfolding bands_in row_of_band rows_in
band_rows H = record {
  covered = λ y h. (omega (arith, h), record { from = omega arith; before = omega (arith, h) });
  one = λ b y i. (omega (arith, i.from, i.before), omega (arith, i.from, i.before));
  full = λ b h. omega (arith, h);
  last = λ b h. (omega (arith, h), omega arith, omega (arith, h));
}

-- so where the whole image is good, each band is
pub band_good_lem : (t : Table) (s : Sight) (b : ℕ) → rows_good_from t s 0 t.height ≡ true → rows_good_from t s (row_of_band b) (rows_in t.height b) ≡ true
band_good_lem t s b e =
    rows_good t s (row_of_band b) (rows_in t.height b) (λ r h k. rows_each t s 0 t.height e r (omega arith) (omega (arith, band_row t.height b r (record { from = h; before = k }))))

-- ---- what is shown

module _ (l m : List ℕ) where
  pub found_left : {i : ℕ} → Found l i → Found (l ++ m) i
  found_left a = record { index = a.index; in_row_lem = omega (arith, a.in_row_lem, length-append l m); is = get_or-append l m 0 a.index a.in_row_lem ∙ a.is }

  pub found_right : {i : ℕ} → Found m i → Found (l ++ m) i
  found_right a = record { index = length l + a.index; in_row_lem = omega (arith, a.in_row_lem, length-append l m); is = get_or-append-add l m a.index 0 ∙ a.is }

pub found_either : (l m : List ℕ) {i : ℕ} → Found (l ++ m) i → Found l i ⊎ Found m i
found_either [] m a = inr a
found_either (k ∷ l) m {i} a = go a.index a.in_row_lem a.is (λ c. found_either l m c)
  where
    on : Found l i → Found (k ∷ l) i
    on c = record { index = suc c.index; in_row_lem = omega (arith, c.in_row_lem); is = c.is }

    go : (j : ℕ) → j < length (k ∷ (l ++ m)) → get_or (k ∷ (l ++ m)) j 0 ≡ i → (Found (l ++ m) i → Found l i ⊎ Found m i) → Found (k ∷ l) i ⊎ Found m i
    go zero h e ih = inl (record { index = 0; in_row_lem = omega arith; is = e })
    go (suc j) h e ih = ⊎_elim (λ c. inl (on c)) (λ c. inr c) (ih (record { index = j; in_row_lem = omega (arith, h); is = e }))

-- an entry that is shown of a run of rows is shown of one of them
pub record ShownOfRow (t : Table) (s : Sight) (y n i : ℕ) : Type 0 where
  pub row : ℕ
  pub from : y ≤ row
  pub before : row < y + n
  pub listed : Found (shown_of t s row) i

module _ (t : Table) (s : Sight) where
  pub shown_of_lem : (y n : ℕ) {i : ℕ} → Found (shown_from t s y n) i → ShownOfRow t s y n i
  unfolding shown_from
  shown_of_lem y zero a = absurd (omega (arith, a.in_row_lem))
  shown_of_lem y (suc n) a =
      ⊎_elim
      (λ c. record { row = y; from = omega arith; before = omega arith; listed = c })
      (λ c. let o = shown_of_lem (suc y) n c in record { row = o.row; from = omega (arith, o.from); before = omega (arith, o.before); listed = o.listed })
      (found_either (shown_of t s y) (shown_from t s (suc y) n) a)

  pub shown_in_lem : (y n : ℕ) {i : ℕ} → ShownOfRow t s y n i → Found (shown_from t s y n) i
  unfolding shown_from
  shown_in_lem y zero {i} o = absurd (omega (arith, o.from, o.before))
  shown_in_lem y (suc n) {i} o =
      ⊎_elim
      (λ u. found_right (shown_of t s y) (shown_from t s (suc y) n) (shown_in_lem (suc y) n (record { row = o.row; from = omega (arith, u); before = omega (arith, o.before); listed = o.listed })))
      (λ u.
      let e : o.row ≡ y = omega (arith, u, o.from) in
      found_left (shown_of t s y) (shown_from t s (suc y) n) (subst (λ (r : ℕ). Found (shown_of t s r) i) e o.listed))
      (lt_or_ge y o.row)

  -- nothing is shown of rows of which nothing is shown
  pub shown_none : (y n : ℕ) → ((r : ℕ) → y ≤ r → r < y + n → shown_of t s r ≡ []) → shown_from t s y n ≡ []
  unfolding shown_from
  shown_none y zero h = refl
  shown_none y (suc n) h = rw (h y (omega arith) (omega arith)) (shown_none (suc y) n (λ r a b. h r (omega (arith, a)) (omega (arith, b))))

-- two tables of whose rows the same is shown
pub shown_same : (t u : Table) (s r : Sight) (y n : ℕ) → ((z : ℕ) → y ≤ z → z < y + n → shown_of t s z ≡ shown_of u r z) → shown_from t s y n ≡ shown_from u r y n
unfolding shown_from
shown_same t u s r y zero h = refl
shown_same t u s r y (suc n) h = rw (h y (omega arith) (omega arith), shown_same t u s r (suc y) n (λ z a b. h z (omega (arith, a)) (omega (arith, b))))

-- Assumes nothing.
