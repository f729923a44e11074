-- A saturating sum that a loop adds up: none yet, one more, all. Every such loop of the crate cites these.
use mathlib.Core.Path.{◌≡◌, refl, ◌∙◌}
use Prim.Native.Nat.{ℕ, ◌+◌, ◌≤◌, ◌<◌}
use native.Mathlib.Numerals.{add-one}
use native.Mathlib.Omega.{arith}
use Rattle.numbers.specs.Saturating.{sat_add}
use Rattle.estimate.specs.Estimate.{sat_sum}

-- of the n terms i are in s
pub record Summed (g : ℕ → ℕ) (n s i : ℕ) : Type 0 where
  pub some : i ≤ n
  pub is : s ≡ sat_sum g i

module _ (g : ℕ → ℕ) where
  pub summed_none : (n : ℕ) → Summed g n 0 0
  unfolding sat_sum
  summed_none n = record { some = omega arith; is = refl }

  pub summed_more : {n s : ℕ} (i : ℕ) → Summed g n s i → i < n → {t v : ℕ} → v ≡ g i → t ≡ sat_add s v → Summed g n t (i + 1)
  unfolding sat_sum
  summed_more i q h e r = record { some = omega arith; is = r ∙ rw (q.is, e, add-one i) }

  pub summed_all : {n s : ℕ} (i : ℕ) → Summed g n s i → n ≤ i → s ≡ sat_sum g n
  summed_all {n} i q h = let e : i ≡ n = omega (arith, q.some) in rw e at q.is

-- Assumes nothing.
