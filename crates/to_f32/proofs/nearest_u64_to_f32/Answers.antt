-- Past 2 ^ 24 the leading 24 digits, rounded, times their power of two.
use mathlib.Core.Path.{◌≡◌, sym, subst}
use Prim.Native.Nat.{ℕ, ◌-◌, ◌^◌, ◌≤◌, ◌<◌}
use native.Mathlib.Omega.{arith}
use lib.Count.{count_leading_zeros}
use lib.Ieee.{binary32}
use lib.Ieee.Nearest.{closest}
use Rattle.numbers.proofs.Near.{sized, whole_64, few}
use Rattle.numbers.proofs.Units.{castable}
use Rattle.to_f32.proofs.nearest_u64_to_f32.Goals as goal

kept-le : (n q : ℕ) → 16777216 < n → n < 2 ^ 64 → q ≡ closest n (2 ^ (40 - count_leading_zeros 64 n)) → q ≤ 16777216
kept-le n q large fits is = subst (λ (z : ℕ). z ≤ 16777216) (sym is) (few n (count_leading_zeros 64 n) (sized n large fits))

pub int_to_float-result : goal.int_to_float-result
int_to_float-result c = castable binary32 c.args.n c.if-n-le16777216.true

pub overflow_sub-k : goal.overflow_sub-k
overflow_sub-k c = omega (arith, (sized c.args.n c.if-n-le16777216.false c.ranges.n.fits).some)

pub shifted-q-requires : goal.shifted-q-requires
shifted-q-requires c =
    let zeros = (sized c.args.n c.if-n-le16777216.false c.ranges.n.fits).some in
    record { fact_1 = omega (arith, zeros); fact_2 = omega (arith, zeros) }

pub int_to_float-result-else-n-le16777216 : goal.int_to_float-result-else-n-le16777216
int_to_float-result-else-n-le16777216 c =
    castable binary32 _ (kept-le c.args.n c.shifted-q.result c.if-n-le16777216.false c.ranges.n.fits c.shifted-q.ensures)

pub returns-else-n-le16777216 : goal.returns-else-n-le16777216
returns-else-n-le16777216 c =
    rw c.shifted-q.ensures (whole_64 _ _ (sized c.args.n c.if-n-le16777216.false c.ranges.n.fits) c.scale.result c.scale.ensures.value)
