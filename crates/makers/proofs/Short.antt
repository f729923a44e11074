-- Sums over rows that fit: they list no more than is due, what lacks never gets less from row to row, and so the first row that lists too few is found by halving.
use mathlib.Core.Path.{◌≡◌, ap}
use mathlib.Core.Logic.{⊎_elim}
use mathlib.Core.Bool.{Bool, true, false}
use mathlib.Core.List.{List}
use Prim.Native.Nat.{ℕ, zero, suc, ◌+◌, ◌≤◌, ◌<◌}
use native.Mathlib.Nat.{eq-or-lt_of_le}
use native.Mathlib.Omega.{arith}
use lib.ListN.{length, get_or}
use lib.Seq.{length-slice}
use Rattle.rows.specs.Rows.{rows, start_of, entries_between}
use Rattle.rows.specs.Steps.{cnt}
use Rattle.rows.proofs.Counts.{start_suc, split}
use Rattle.makers.specs.Check.{row_right, wrong_from}
use Rattle.makers.specs.Steps.{row_fits, Fitting}
use Rattle.makers.proofs.Rows.{first_is, first_one, is_false, false_not_true, right_facts, right_made, fit_facts, right_fits, no_longer, as_long}

module _ (has : ℕ → ℕ → Bool) (S : ℕ) (starts entries : List ℕ) (n : ℕ) where
  module _ (bad : ℕ) (f : Fitting has S starts entries n bad) where
    -- one row: how much it lists, at most what is due
    record Row (y : ℕ) : Type 0 where
      wide : get_or starts (suc y) 0 ≡ get_or starts y 0 + length (entries_between starts entries y)
      few : length (entries_between starts entries y) ≤ cnt has y S
      due : start_of has S (suc y) ≡ start_of has S y + cnt has y S
      full : cnt has y S ≤ length (entries_between starts entries y) → row_right has S starts entries n y ≡ true

    row : (y : ℕ) → y < bad → Row y
    row y h =
        let g = fit_facts has S starts entries n y (f.fits y h) in
        record {
          wide = omega (arith, g.rises, g.ends, f.stored, length-slice (get_or starts y 0) (get_or starts (suc y) 0) entries (omega (arith, g.ends, f.stored)));
          few = no_longer has y S (entries_between starts entries y) g.ascends;
          due = start_suc has S y;
          full = λ k. right_made has S starts entries n y (record { rises = g.rises; ends = g.ends; lists = as_long has y S (entries_between starts entries y) g.ascends k });
        }

    at_most : (y : ℕ) → y ≤ bad → get_or starts y 0 ≤ start_of has S y
    unfolding rows
    at_most zero h = omega (arith, f.begins)
    at_most (suc y) h = let r = row y h in omega (arith, at_most y (omega arith), r.wide, r.few, r.due)

    -- what lacks never gets less
    short_stays : (a b : ℕ) → a ≤ b → b ≤ bad → get_or starts a 0 < start_of has S a → get_or starts b 0 < start_of has S b
    short_stays a zero h k l = let e : a ≡ 0 = omega arith in rw e at l
    short_stays a (suc b) h k l =
        ⊎_elim (λ e. rw e at l)
        (λ m. let r = row b k in omega (arith, short_stays a b (omega arith) (omega arith) l, r.wide, r.few, r.due))
        (eq-or-lt_of_le h)

    full_right : (y : ℕ) → y < bad → start_of has S (suc y) ≤ get_or starts (suc y) 0 → row_right has S starts entries n y ≡ true
    full_right y h k = let r = row y h in r.full (omega (arith, at_most y (omega arith), r.wide, r.due))

    short_wrong : (y : ℕ) → y < bad → start_of has S y ≤ get_or starts y 0 → get_or starts (suc y) 0 < start_of has S (suc y) → row_right has S starts entries n y ≡ false
    short_wrong y h k l =
        is_false (row_right has S starts entries n y)
        (λ e. let r = row y h in omega (arith, r.wide, r.due, ap length (right_facts has S starts entries n y e).lists))

    before_full : (m : ℕ) → m ≤ bad → start_of has S m ≤ get_or starts m 0 → (z : ℕ) → z < m → row_right has S starts entries n z ≡ true
    before_full m h k z l =
        ⊎_elim (λ s. absurd (omega (arith, short_stays (suc z) m l h s))) (λ g. full_right z (omega arith) g) (split (get_or starts (suc z) 0) (start_of has S (suc z)))

    -- nothing lacks: every row that fits is right
    pub none_short : start_of has S bad ≤ get_or starts bad 0 → bad ≡ wrong_from (row_right has S starts entries n) 0 bad
    none_short k =
        first_one (row_right has S starts entries n) 0 bad bad _
        (record { from = omega arith; within = omega arith; before = λ z a b. before_full bad (omega arith) k z b; wrong = λ h. absurd (omega arith) })
        (first_is (row_right has S starts entries n) 0 bad)

    -- nothing lacks before row y, and something after it: it is the first that is wrong
    pub first_short : (y : ℕ) → y < bad → start_of has S y ≤ get_or starts y 0 → get_or starts (suc y) 0 < start_of has S (suc y)
        → y ≡ wrong_from (row_right has S starts entries n) 0 bad
    first_short y h k l =
        first_one (row_right has S starts entries n) 0 bad y _
        (record { from = omega arith; within = omega arith; before = λ z a b. before_full y (omega arith) k z b; wrong = λ m. short_wrong y h k l })
        (first_is (row_right has S starts entries n) 0 bad)

  -- the rows before the first that does not fit do
  pub fitting : (H : ℕ) → get_or starts 0 0 ≡ 0 → n ≤ length entries → Fitting has S starts entries n (wrong_from (row_fits has S starts entries n) 0 H)
  fitting H b s = record { begins = b; stored = s; fits = λ y h. (first_is (row_fits has S starts entries n) 0 H).before y (omega arith) h }

  -- the first wrong row of those before the first that does not fit, or that, is the first wrong row of all
  pub through : (H bad w : ℕ) → bad ≡ wrong_from (row_fits has S starts entries n) 0 H → w ≡ wrong_from (row_right has S starts entries n) 0 bad
      → w ≡ wrong_from (row_right has S starts entries n) 0 H
  through H bad w p q =
      let f = rw (← p) at (first_is (row_fits has S starts entries n) 0 H) in
      let g = rw (← q) at (first_is (row_right has S starts entries n) 0 bad) in
      first_one (row_right has S starts entries n) 0 H w _
      (record {
        from = omega arith;
        within = omega (arith, f.within, g.within);
        before = λ z a b. g.before z a b;
        wrong = λ h. ⊎_elim (λ (l : w < bad). g.wrong (omega arith)) (λ (l : bad ≤ w). is_false (row_right has S starts entries n w) (λ e. unfit w bad (omega (arith, g.within, l)) (f.wrong (omega (arith, h, g.within, l))) (right_fits has S starts entries n w e))) (split w bad);
      })
      (first_is (row_right has S starts entries n) 0 H)
    where
      unfit : (w bad : ℕ) → w ≡ bad → row_fits has S starts entries n bad ≡ false → row_fits has S starts entries n w ≡ true → ⊥
      unfit w bad e a b = false_not_true (row_fits has S starts entries n bad) a (rw e at b)

-- Assumes nothing.
