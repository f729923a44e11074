-- `kept_root` meets its contract: the whole part of the root after k pairs of digits are dropped, and n against the square of the middle, which fits 64 bits.
use mathlib.Core.Path.{refl}
use Prim.Native.Nat.{ℕ, ◌*◌, ◌≤◌, ◌<◌}
use native.Mathlib.Nat.{mul-le-mul}
use native.Mathlib.Omega.{arith}
use mir.Syntax.{w64}
use mir.Val.{Fits}
use Rattle.roots.proofs.RootOfWhole.{cut_lt, q_lt, made_lt, stays, goes_up, stays_even, from_odd}
use Rattle.roots.proofs.lengths.kept_root.Goals as goal

square-fits : (r : ℕ) → r < 4294967296 → Fits w64 (r * r)
square-fits r h = go (r * r) (mul-le-mul (most r h) (most r h))
  where
    most : (a : ℕ) → a < 4294967296 → a ≤ 4294967295
    most a h = omega arith

    go : (p : ℕ) → p ≤ 18446744065119617025 → Fits w64 p
    go p h = omega arith

pub whole_root-q-requires : goal.whole_root-q-requires
whole_root-q-requires c = cut_lt c.args.n c.args.k c.requires.fact_3

pub overflow_mul-middle : goal.overflow_mul-middle
overflow_mul-middle c =
    let r = c.requires in
    omega (arith, q_lt _ _ _ c.whole_root-q.ensures r.fact_1 r.fact_2 r.fact_3)

pub overflow_add-middle : goal.overflow_add-middle
overflow_add-middle c =
    let r = c.requires in
    omega (arith, q_lt _ _ _ c.whole_root-q.ensures r.fact_1 r.fact_2 r.fact_3)

pub overflow_mul-s : goal.overflow_mul-s
overflow_mul-s c =
    let r = c.requires in
    square-fits _ (made_lt _ _ _ c.whole_root-q.ensures r.fact_1 r.fact_2 r.fact_3 _ refl)

pub overflow_add-result : goal.overflow_add-result
overflow_add-result c =
    let r = c.requires in
    omega (arith, q_lt _ _ _ c.whole_root-q.ensures r.fact_1 r.fact_2 r.fact_3)

pub overflow_add-result-else-q-eq0 : goal.overflow_add-result-else-q-eq0
overflow_add-result-else-q-eq0 c =
    let r = c.requires in
    omega (arith, q_lt _ _ _ c.whole_root-q.ensures r.fact_1 r.fact_2 r.fact_3)

pub returns-then-n-s : goal.returns-then-n-s
returns-then-n-s c =
    let r = c.requires in
    stays _ _ _ c.whole_root-q.ensures r.fact_1 r.fact_2 r.fact_3 _ refl c.if-n-s.true

pub returns-then-s-n : goal.returns-then-s-n
returns-then-s-n c =
    let r = c.requires in
    goes_up _ _ _ c.whole_root-q.ensures r.fact_1 r.fact_2 r.fact_3 _ refl c.if-s-n.true

pub returns-then-q-eq0 : goal.returns-then-q-eq0
returns-then-q-eq0 c =
    let r = c.requires in
    stays_even _ _ _ c.whole_root-q.ensures r.fact_1 r.fact_2 r.fact_3 _ refl c.if-n-s.false c.if-s-n.false c.if-q-eq0.true

pub returns-else-q-eq0 : goal.returns-else-q-eq0
returns-else-q-eq0 c =
    let r = c.requires in
    from_odd _ _ _ c.whole_root-q.ensures r.fact_1 r.fact_2 r.fact_3 _ refl c.if-n-s.false c.if-s-n.false c.if-q-eq0.false
