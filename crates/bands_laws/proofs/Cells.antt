-- Where the numbers of a band stand: its own five cells are they, and every other cell stays.
use mathlib.Core.Path.{◌≡◌, refl, sym, ap, subst, ◌∙◌}
use mathlib.Core.Logic.{◌⊎◌, inl, inr, ⊎_elim}
use mathlib.Core.List.{List, [], ◌∷◌}
use Prim.Native.Nat.{ℕ, zero, suc, ◌+◌, ◌-◌, ◌*◌, ◌≤◌, ◌<◌}
use native.Mathlib.Omega.{arith}
use lib.ListN.{length, get_or, set, length-set}
use lib.Seq.{sets, length-sets, get_or-set_same, get_or-set_other}
use Rattle.shade.proofs.Edits.{lt_or_ge}
use Rattle.band_sums.specs.declared.BandNumbers.{BandNumbers}
use Rattle.bands.specs.Bands.{band_cells, put_band, put_bands}
use Rattle.bands_laws.specs.Summaries.{OtherCell}

-- ---- a run of stores

sets_other : (vs l : List ℕ) (i k : ℕ) → (k < i) ⊎ (i + length vs ≤ k) → get_or (sets l i vs) k 0 ≡ get_or l k 0
sets_other [] l i k h = refl
sets_other (a ∷ vs) l i k h =
    sets_other vs (set l i a) (suc i) k (⊎_elim (λ u. inl (omega (arith, u))) (λ u. inr (omega (arith, u))) h)
    ∙ get_or-set_other l i k a 0 (⊎_elim (λ u e. omega (arith, u, e)) (λ u e. omega (arith, u, e)) h)

sets_own : (vs l : List ℕ) (i j : ℕ) → j < length vs → i + length vs ≤ length l → get_or (sets l i vs) (i + j) 0 ≡ get_or vs j 0
sets_own [] l i j h k = absurd (omega (arith, h))
sets_own (a ∷ vs) l i zero h k =
    sets_other vs (set l i a) (suc i) (i + 0) (inl (omega arith))
    ∙ ap (λ (m : ℕ). get_or (set l i a) m 0) (plus_none i)
    ∙ get_or-set_same l i a 0 (omega (arith, k))
  where
    plus_none : (m : ℕ) → m + 0 ≡ m
    plus_none m = omega arith
sets_own (a ∷ vs) l i (suc j) h k =
    ap (λ (m : ℕ). get_or (sets (set l i a) (suc i) vs) m 0) (on i j)
    ∙ sets_own vs (set l i a) (suc i) j (omega (arith, h)) (omega (arith, k, length-set l i a))
  where
    on : (m n : ℕ) → m + suc n ≡ suc m + n
    on m n = omega arith

-- ---- a band

module _ (cells : List ℕ) (b : ℕ) (m : BandNumbers) where
  pub put_length : length (put_band cells b m) ≡ length cells
  unfolding put_band
  put_length = length-sets cells (5 * b) (band_cells m)

  pub put_other : (k : ℕ) → OtherCell b k → get_or (put_band cells b m) k 0 ≡ get_or cells k 0
  unfolding put_band
  put_other k h = sets_other (band_cells m) cells (5 * b) k (⊎_elim (λ u. inl u) (λ u. inr (omega (arith, u))) h)

  pub put_own : 5 * b + 5 ≤ length cells → (j : ℕ) → j < 5 → get_or (put_band cells b m) (5 * b + j) 0 ≡ get_or (band_cells m) j 0
  unfolding put_band
  put_own h j l = sets_own (band_cells m) cells (5 * b) j l h

-- ---- the first n bands

module _ (cells : List ℕ) (of : ℕ → BandNumbers) where
  pub puts_length : (n : ℕ) → length (put_bands cells of n) ≡ length cells
  unfolding put_bands
  puts_length zero = refl
  puts_length (suc n) = put_length (put_bands cells of n) n (of n) ∙ puts_length n

  -- cells behind the last band
  pub puts_behind : (n k : ℕ) → 5 * n ≤ k → get_or (put_bands cells of n) k 0 ≡ get_or cells k 0
  unfolding put_bands
  puts_behind zero k h = refl
  puts_behind (suc n) k h = put_other (put_bands cells of n) n (of n) k (inr (omega (arith, h))) ∙ puts_behind n k (omega (arith, h))

  pub puts_own : (n b j : ℕ) → b < n → 5 * n ≤ length cells → j < 5 → get_or (put_bands cells of n) (5 * b + j) 0 ≡ get_or (band_cells (of b)) j 0
  unfolding put_bands
  puts_own zero b j h k l = absurd (omega (arith, h))
  puts_own (suc n) b j h k l =
      ⊎_elim
      (λ u. put_other (put_bands cells of n) n (of n) (5 * b + j) (inl (omega (arith, u, l))) ∙ puts_own n b j u (omega (arith, k)) l)
      (λ u.
      let e : b ≡ n = omega (arith, u, h) in
      subst (λ (c : ℕ). get_or (put_bands cells of (suc n)) (5 * c + j) 0 ≡ get_or (band_cells (of c)) j 0) (sym e) (put_own (put_bands cells of n) n (of n) (omega (arith, k, puts_length n)) j l))
      (lt_or_ge b n)

-- the numbers of the first n bands alone are asked
pub puts_same : (cells : List ℕ) (of by : ℕ → BandNumbers) (n : ℕ) → ((b : ℕ) → b < n → of b ≡ by b) → put_bands cells of n ≡ put_bands cells by n
unfolding put_bands
puts_same cells of by zero h = refl
puts_same cells of by (suc n) h = rw (puts_same cells of by n (λ b l. h b (omega (arith, l))), h n (omega arith))

-- ---- which cell

-- a cell before 5 * n is one of a band's five
pub record CellIn (n k : ℕ) : Type 0 where
  pub band : ℕ
  pub cell : ℕ
  pub in_image : band < n
  pub one_of_five : cell < 5
  pub is_it : k ≡ 5 * band + cell

pub cell_in : (n k : ℕ) → k < 5 * n → CellIn n k
cell_in zero k h = absurd (omega (arith, h))
cell_in (suc n) k h =
    ⊎_elim
    (λ u. let c = cell_in n k u in record { band = c.band; cell = c.cell; in_image = omega (arith, c.in_image); one_of_five = c.one_of_five; is_it = c.is_it })
    (λ u. record { band = n; cell = k - 5 * n; in_image = omega arith; one_of_five = omega (arith, u, h); is_it = omega (arith, u) })
    (lt_or_ge k (5 * n))

-- Assumes nothing.
