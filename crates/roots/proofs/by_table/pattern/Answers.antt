-- `pattern` meets its contract: a number that passes both tests is the nearest root, and its pattern is the sum that the code makes.
use mathlib.Core.Path.{ap, ◌∙◌}
use mathlib.Core.Logic.{inl, inr}
use Prim.Native.Nat.{ℕ, ◌*◌, ◌≤◌}
use native.Mathlib.Nat.{mul-le-mul}
use native.Mathlib.Omega.{arith}
use Rattle.roots.proofs.RootBy.{whole_is, passed}
use Rattle.roots.proofs.by_table.pattern.Goals as goal

pub overflow_add-q : goal.overflow_add-q
overflow_add-q c =
    let square : c.nearer-r.result * c.nearer-r.result ≤ 1125899906842624 = mul-le-mul c.nearer-r.ensures c.nearer-r.ensures in
    record { fits = omega arith }

pub returns-then-q-n : goal.returns-then-q-n
returns-then-q-n c =
    let b = c.args.bits in
    let m = c.if-t-lt8388608.m in
    let whole = whole_is b m (elim c.if-t-lt8388608.branch [
      | goal.then-t-lt8388608 w ↦ inl (w.if-t-lt8388608.true, w.m-is)
      | goal.else-t-lt8388608 w ↦ inr (w.if-t-lt8388608.false, w.m-is)
    ]) in
    inr (
      c.if-bits-lt2139095040.true,
      passed b _ _ c.nearer-r.result _ _ (ap (λ (z : ℕ). z * 8388608) c.from-n.ensures ∙ whole)
          c.mul-q.ensures c.from.ensures c.from-then-n-q.ensures c.if-n-q.true c.if-q-n.true,
    )
