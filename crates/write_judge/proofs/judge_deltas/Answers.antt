use Rattle.std.proofs.Common.{◌≡◌, ◌+◌, ◌*◌, sym, ◌∙◌, arith}
use Rattle.write_judge.proofs.Checks.{deltas_wild, deltas_pass, deltas_end}
use Rattle.write_judge.proofs.judge_deltas.Goals as goal

pub loop-k-init : goal.loop-k-init
loop-k-init c = let z : c.args.place + 0 ≡ c.args.place = omega arith in rw z

pub returns-then-wild_pair : goal.returns-then-wild_pair
returns-then-wild_pair c =
    let a = c.args in
    let v = c.loop-k in
    sym (v.invariant ∙ deltas_wild a.deltas.now (a.place + 2 * v.k) (2 * v.k) (omega arith) (sym c.wild_pair.ensures ∙ c.if-wild_pair.true))

pub loop-k-preserved : goal.loop-k-preserved
loop-k-preserved c =
    let a = c.args in
    let v = c.loop-k in
    let p : a.place + 2 * v.k + 2 ≡ a.place + 2 * (v.k + 1) = omega arith in
    let q : 2 * v.k + 2 ≡ 2 * (v.k + 1) = omega arith in
    v.invariant ∙ rw (p, q) at (deltas_pass a.deltas.now (a.place + 2 * v.k) (2 * v.k) (omega arith) (sym c.wild_pair.ensures ∙ c.if-wild_pair.false))

pub returns : goal.returns
returns c =
    let a = c.args in
    let v = c.loop-k in
    sym (v.invariant ∙ deltas_end a.deltas.now (a.place + 2 * v.k) (2 * v.k) (omega arith))
