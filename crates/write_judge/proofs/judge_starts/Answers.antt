use Rattle.std.proofs.Common.{◌≡◌, ◌+◌, ◌*◌, eqb, sym, refl, ◌∙◌, arith, ne_eqb}
use Rattle.write_judge.proofs.Checks.{starts_unfit, starts_pass, starts_end}
use Rattle.write_judge.proofs.judge_starts.Goals as goal

pub loop-k-init : goal.loop-k-init
loop-k-init c = refl

pub returns-then-unfit_pair : goal.returns-then-unfit_pair
returns-then-unfit_pair c =
    let a = c.args in
    let v = c.loop-k in
    sym (v.invariant ∙ starts_unfit (eqb v.k 0) a.starts.now (2 * v.k + 1) (2 * v.k) (omega arith) (sym c.unfit_pair.ensures ∙ c.if-unfit_pair.true))

pub loop-k-preserved : goal.loop-k-preserved
loop-k-preserved c =
    let a = c.args in
    let v = c.loop-k in
    let p : 2 * v.k + 1 + 2 ≡ 2 * (v.k + 1) + 1 = omega arith in
    let s : 2 * v.k + 2 ≡ 2 * (v.k + 1) = omega arith in
    let q = starts_pass (eqb v.k 0) a.starts.now (2 * v.k + 1) (2 * v.k) (omega arith) (sym c.unfit_pair.ensures ∙ c.if-unfit_pair.false) in
    v.invariant ∙ rw (ne_eqb (v.k + 1) 0 (λ z. omega arith)) (rw (p, s) at q)

pub returns : goal.returns
returns c =
    let a = c.args in
    let v = c.loop-k in
    sym (v.invariant ∙ starts_end (eqb v.k 0) a.starts.now (2 * v.k + 1) (2 * v.k) (omega arith))
