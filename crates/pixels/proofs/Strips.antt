-- Pixels that are stored one after the other, and a tone by the test that cuts it.
use mathlib.Core.Path.{◌≡◌, refl, sym, ap, subst, ◌∙◌}
use mathlib.Core.List.{List, [], ◌++◌, append_assoc}
use Prim.Native.Nat.{ℕ, suc, ◌+◌, ◌-◌, ◌≤◌, ◌<◌}
use native.Mathlib.Omega.{arith}
use lib.ListN.{length}
use lib.Seq.{sets}
use lib.Ieee.{Float}
use Rattle.buffers.specs.Onto.{onto}
use Rattle.buffers.proofs.Fronts.{sets_more}
use Rattle.buffers.proofs.Filling.{Filled, filled_none, filled_more, filled_all}
use Rattle.pixels.specs.Pixels.{tones_of, bytes_of, float_of, floats_of, each}

-- ---- lengths
pub three : (x y b : Float) → length (tones_of x y b) ≡ 3
unfolding tones_of
three x y b = refl

pub four : (v : Float) → length (float_of v) ≡ 4
unfolding bytes_of
four v = refl

eight : (x y : Float) → length (float_of x ++ float_of y) ≡ 8
unfolding bytes_of
eight x y = refl

pub twelve : (x y b : Float) → length (floats_of x y b) ≡ 12
unfolding bytes_of
twelve x y b = refl

-- ---- three floats, stored one after the other
pub stored_floats : (o : List ℕ) {o1 o2 o3 : List ℕ} (k : ℕ) (x y b : Float) → o1 ≡ sets o k (float_of x) → o2 ≡ sets o1 (k + 4) (float_of y) → o3 ≡ sets o2 (k + 8) (float_of b)
    → o3 ≡ sets o k (floats_of x y b)
stored_floats o {o1} {o2} {o3} k x y b p q r =
    r
    ∙ ap (λ (t : List ℕ). sets t (k + 8) (float_of b)) (q ∙ ap (λ (t : List ℕ). sets t (k + 4) (float_of y)) p)
    ∙ ap (λ (t : List ℕ). sets t (k + 8) (float_of b)) (sets_more (float_of x) (float_of y) o k (k + 4) (ap (λ (t : ℕ). k + t) (four x)))
    ∙ sets_more (float_of x ++ float_of y) (float_of b) o k (k + 8) (ap (λ (t : ℕ). k + t) (eight x y))
    ∙ ap (sets o k) (append_assoc (float_of x) (float_of y) (float_of b))

-- ---- pixel after pixel
module _ (g : ℕ → List ℕ) where
  each_next : (n i : ℕ) → i < n → each g (n - i) i ≡ g i ++ each g (n - (i + 1)) (i + 1)
  unfolding each
  each_next n i h =
      let e : n - i ≡ suc (n - (i + 1)) = omega arith in
      let s : suc i ≡ i + 1 = omega arith in
      ap (λ (l : ℕ). each g l i) e ∙ ap (λ (k : ℕ). g i ++ each g (n - (i + 1)) k) s

  each_none : (n i : ℕ) → n ≤ i → each g (n - i) i ≡ []
  unfolding each
  each_none n i h =
      let e : n - i ≡ 0 = omega arith in
      ap (λ (l : ℕ). each g l i) e

  pub strip_begin : (n : ℕ) (o : List ℕ) → Filled (each g n 0) o o (each g (n - 0) 0) 0
  strip_begin n o =
      let e : n ≡ n - 0 = omega arith in
      filled_none (each g (n - 0) 0) (ap (λ (l : ℕ). each g l 0) e)

  -- the pixel i is stored from cell k on
  pub strip_more : {o₀ o o' : List ℕ} {n i k : ℕ} → Filled (each g n 0) o₀ o (each g (n - i) i) k → o' ≡ sets o k (g i) → i < n
      → (size m : ℕ) → length (g i) ≡ size → k + size ≡ m → m ≤ length o₀ → Filled (each g n 0) o₀ o' (each g (n - (i + 1)) (i + 1)) m
  strip_more {o₀} {o} {o'} {n} {i} {k} v e h size m l t b =
      subst (λ (z : List ℕ). Filled (each g n 0) o₀ z (each g (n - (i + 1)) (i + 1)) m) (sym e)
      (filled_more (g i) (each g (n - (i + 1)) (i + 1)) (subst (λ (z : List ℕ). Filled (each g n 0) o₀ o z k) (each_next n i h) v) (omega (arith, l)) m (omega (arith, l)))

  pub strip_end : {o₀ o : List ℕ} {n i k : ℕ} → Filled (each g n 0) o₀ o (each g (n - i) i) k → n ≤ i → o ≡ onto (each g n 0) o₀
  strip_end {o₀} {o} {n} {i} {k} v h = filled_all (subst (λ (z : List ℕ). Filled (each g n 0) o₀ o z k) (each_none n i h) v)

-- Assumes nothing.
