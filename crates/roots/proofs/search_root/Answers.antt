use mathlib.Core.Path.{◌≡◌, subst}
use Prim.Native.Nat.{ℕ, ◌+◌, ◌-◌, ◌*◌, ◌/◌, ◌≤◌, ◌<◌}
use native.Mathlib.Omega.{arith}
use mir.Syntax.{w64}
use mir.Val.{Fits}
use Rattle.roots.proofs.Roots.{product_fits}
use Rattle.roots.proofs.search_root.Goals as goal

pub overflow_mul-mid : goal.overflow_mul-mid
overflow_mul-mid c =
    let l = c.loop-hi in
    go ((l.lo + (l.hi - l.lo) / 2) * (l.lo + (l.hi - l.lo) / 2)) (product_fits (l.lo + (l.hi - l.lo) / 2) (omega arith))
  where
    go : (p : ℕ) → p ≤ 281474976710656 → Fits w64 p
    go p h = omega arith

pub loop-hi-preserved-then-mid-n : goal.loop-hi-preserved-then-mid-n
loop-hi-preserved-then-mid-n c =
    let i = c.loop-hi.invariant in
    (c.if-mid-n.true, i.1, omega arith, i.3)

pub loop-hi-preserved : goal.loop-hi-preserved
loop-hi-preserved c =
    let i = c.loop-hi.invariant in
    (i.0, c.if-mid-n.false, omega arith, omega arith)

pub returns : goal.returns
returns c =
    let l = c.loop-hi in
    let e : l.hi ≡ l.lo + 1 = omega arith in
    record { low = l.invariant.0; high = subst (λ (z : ℕ). c.args.n < z * z) e l.invariant.1 }
