-- The three branches are the three orders of the remainder and its complement.
-- the divisor as the machine has it
use mathlib.Core.Path.{◌≡◌, sym, ap, ◌∙◌, subst}
use Prim.Native.Nat.{ℕ, ◌+◌, ◌/◌, ◌*◌, ◌%◌, ◌^◌, ◌≤◌, ◌<◌}
use native.Mathlib.Nat.{lt_of_lt_of_le, one-mul, mod-lt, le_of_lt}
use native.Mathlib.Omega.{arith}
use lib.Pow.{pow_pos, pow_mono, shl_exact, shr_lt}
use lib.Dec.{lit<}
use mir.Syntax.{w64}
use mir.Val.{Fits}
use lib.Ieee.Nearest.{closest}
use Rattle.numbers.proofs.Shift.{below_half, above_half, at_half}
use Rattle.to_f32.proofs.shifted.Goals as goal

abbrev d : ℕ → ℕ
d k = 1 * 2 ^ k % 2 ^ 64

d-is : (k : ℕ) → k < 64 → d k ≡ 2 ^ k
d-is k h = shl_exact 1 k 64 (lit< tt) (go k h) ∙ one-mul (2 ^ k)
  where
    go : (k : ℕ) → k < 64 → 1 + k ≤ 64
    go k h = omega arith

d-pos : (k : ℕ) → k < 64 → 0 < d k
d-pos k h = subst (λ (z : ℕ). 0 < z) (sym (d-is k h)) (pow_pos k)

room : (n k : ℕ) → n < 2 ^ 64 → 0 < k → k < 64 → n / d k < 2 ^ 63
room n k h p l = subst (λ (z : ℕ). n / z < 2 ^ 63) (sym (d-is k l)) (shr_lt 63 k (lt_of_lt_of_le h (pow_mono (go k p))))
  where
    go : (k : ℕ) → 0 < k → 64 ≤ 63 + k
    go k h = omega arith

pub nonzero_div-q : goal.nonzero_div-q
nonzero_div-q c = d-pos c.args.k c.requires.fact_2

pub nonzero_rem-r : goal.nonzero_rem-r
nonzero_rem-r c = d-pos c.args.k c.requires.fact_2

pub overflow_sub-s : goal.overflow_sub-s
overflow_sub-s c = le_of_lt (mod-lt c.args.n (d-pos c.args.k c.requires.fact_2))

pub overflow_add-result : goal.overflow_add-result
overflow_add-result c =
    go (c.args.n / d c.args.k) (room c.args.n c.args.k c.ranges.n.fits c.requires.fact_1 c.requires.fact_2)
  where
    go : (q : ℕ) → q < 9223372036854775808 → Fits w64 (q + 1)
    go q h = omega arith

pub overflow_add-result-else-s-r : goal.overflow_add-result-else-s-r
overflow_add-result-else-s-r c =
    go (c.args.n / d c.args.k) (room c.args.n c.args.k c.ranges.n.fits c.requires.fact_1 c.requires.fact_2)
  where
    go : (q : ℕ) → q < 9223372036854775808 → Fits w64 (q + q % 2)
    go q h = omega arith

pub returns-then-r-s : goal.returns-then-r-s
returns-then-r-s c =
    below_half c.args.n (d c.args.k) c.if-r-s.true ∙ ap (closest c.args.n) (d-is c.args.k c.requires.fact_2)

pub returns-then-s-r : goal.returns-then-s-r
returns-then-s-r c =
    above_half c.args.n (d c.args.k) c.if-s-r.true ∙ ap (closest c.args.n) (d-is c.args.k c.requires.fact_2)

pub returns-else-s-r : goal.returns-else-s-r
returns-else-s-r c =
    at_half c.args.n (d c.args.k) (mod-lt c.args.n (d-pos c.args.k c.requires.fact_2)) c.if-r-s.false c.if-s-r.false ∙ ap (closest c.args.n) (d-is c.args.k c.requires.fact_2)
