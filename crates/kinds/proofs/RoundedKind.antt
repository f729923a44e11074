-- What a number above 0 and below 2 ^ 23 rounds to is exact, at each width.
use Rattle.std.proofs.Common.{◌≡◌, ℕ, ◌*◌, ◌/◌, ◌≤◌, Bool, true, false, cond, T, ltb, ℤ, pos, sym, ap, ◌∙◌, subst, true≢false, mul-one, mul-div_cancel, arith}
use lib.Signed.{lt_z}
use lib.Arith.{le→nltb}
use lib.Ieee.Bits.{is_false}
use lib.Ieee.{Float, nan, inf, fin, binary32, up, down, lt, fits}
use lib.Ieee.Fits.{down_pos}
use lib.Ieee.Exact.{HasValue}
use Rattle.wholes.specs.Small.{Small, Made}
use Rattle.wholes.specs.Whole.{half, round_of}
use Rattle.kinds.specs.Kind.{within, kind_by}
use Rattle.wholes.proofs.Quotients.{round_value}

inside : {K : Type 0} (a b : Bool) (x y z : K) → a ≡ false → b ≡ false → z ≡ cond a x (cond b y z)
inside a b x y z p q = rw (p, q)

module _ {K : Type 0} (exact : ℤ → K) (notNumber below above : K) (least : ℤ) (most : ℕ) where
  -- a whole number of the range is exact
  exact_at : (y : Float) (n : ℕ) → HasValue y false n 1 → lt_z (pos n) least ≡ false → n ≤ most → exact (pos n) ≡ kind_by exact notNumber below above least (pos most) y
  unfolding kind_by
  exact_at nan n v l h = absurd v
  exact_at (inf s) n v l h = absurd v
  exact_at (fin true m e) n v l h = absurd (true≢false v.0)
  exact_at (fin false m e) n v l h =
      let q : m * up e / down e ≡ n = ap (λ (z : ℕ). z / down e) (sym (mul-one (m * up e)) ∙ v.1) ∙ mul-div_cancel n (down_pos e) in
      inside (ltb most n) (lt_z (pos n) least) above below (exact (pos n)) (is_false (ltb most n) (le→nltb most n h)) l
      ∙ ap (λ (z : ℕ). within exact below above least (pos most) (pos z)) (sym q)

  pub small_exact : (x : Float) (r : ℕ) → T (fits binary32 x) → Small x → Made half x r → lt_z (pos r) least ≡ false → 8388608 ≤ most → exact (pos r) ≡ kind_by exact notNumber below above least (pos most) (round_of binary32 x)
  unfolding lt
  small_exact nan r F s d l h = absurd s.over
  small_exact (inf true) r F s d l h = absurd s.over
  small_exact (inf false) r F s d l h = absurd s.under
  small_exact (fin true m e) r F s d l h = absurd s.over
  small_exact (fin false m e) r F s d l h =
      exact_at (round_of binary32 (fin false m e)) r (subst (λ (z : ℕ). HasValue (round_of binary32 (fin false m e)) false z 1) (sym d.is) (round_value binary32 false m e F)) l (wide r most d.most h)
    where
      wide : (r p : ℕ) → r ≤ 8388608 → 8388608 ≤ p → r ≤ p
      wide r p a b = omega arith

-- Assumes nothing.
