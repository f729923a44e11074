-- Pairs that passed a check are small.
use mathlib.Core.Path.{◌≡◌, refl, sym}
use mathlib.Core.Bool.{Bool, true, false, cond, true≢false}
use Prim.Native.Nat.{◌+◌, ◌<◌, ◌≤◌}
use native.Mathlib.Omega.{arith}
use lib.IntN.{ℤ, pos, negsuc, nat_abs}
use lib.Signed.{mag}
use lib.Dec.{ltb, leb}
use borrow.Author.Tests.{ltb-true, leb-true}
use Rattle.codes.proofs.Decides.{both}
use Rattle.control_points.specs.ControlPoints.{in_range, below_delta_limit, valid_point_pos, valid_double_delta}
use Rattle.control_points.specs.Asked.{Fine}
use Rattle.control_points.specs.declared.Pair.{Pair}

-- ---- the two limits

pub in_range_mag : (v : ℤ) → in_range v ≡ true → mag v < 8388608
in_range_mag (pos n) h = ltb-true n 8388608 h
in_range_mag (negsuc n) h = go (leb n 8388607) h (leb-true n 8388607)
  where
    go : (t : Bool) → cond t true false ≡ true → (t ≡ true → n ≤ 8388607) → n < 8388608
    go true h g = let k : n ≤ 8388607 = g refl in omega arith
    go false h g = absurd (true≢false (sym h))

limit_mag : (v : ℤ) → below_delta_limit v ≡ true → mag v < 1073741824
limit_mag (pos n) h = ltb-true n 1073741824 h
limit_mag (negsuc n) h = go (ltb n 1073741823) h (ltb-true n 1073741823)
  where
    go : (t : Bool) → cond t true false ≡ true → (t ≡ true → n < 1073741823) → n < 1073741824
    go true h g = let k : n < 1073741823 = g refl in omega arith
    go false h g = absurd (true≢false (sym h))

pub point_range : (p : Pair) → valid_point_pos p ≡ true → (in_range p.x ≡ true) × (in_range p.y ≡ true)
unfolding valid_point_pos
point_range p h = both (in_range p.x) (in_range p.y) h

pub point_fine : (p : Pair) → valid_point_pos p ≡ true → Fine p
point_fine p h =
    let b = point_range p h in
    record { x = omega (arith, in_range_mag p.x b.0); y = omega (arith, in_range_mag p.y b.1) }

pub double_delta_fine : (p : Pair) → valid_double_delta p ≡ true → Fine p
unfolding valid_double_delta
double_delta_fine p h =
    let b = both (below_delta_limit p.x) (below_delta_limit p.y) h in
    record { x = limit_mag p.x b.0; y = limit_mag p.y b.1 }

pub abs_mag : (z : ℤ) → nat_abs z ≤ mag z + 1
abs_mag (pos n) = omega arith
abs_mag (negsuc n) = omega arith

-- Assumes nothing.
