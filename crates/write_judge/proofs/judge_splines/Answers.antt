use Rattle.std.proofs.Common.{◌≡◌, ◌-◌, ◌*◌, get_or, drop, sym, refl, ◌∙◌, arith}
use Rattle.shape.proofs.Shape.{sum_turn}
use Rattle.codes.proofs.Refusals.{passed_on}
use Rattle.write_judge.proofs.Checks.{length_part, spline_over, spline_wild, spline_pass, splines_end}
use Rattle.write_judge.proofs.judge_splines.Goals as goal

pub loop-i-init : goal.loop-i-init
loop-i-init c =
    let z : c.args.limit - c.args.limit ≡ 0 = omega arith in
    (omega arith, omega arith, omega arith, rw z)

pub returns-then-left-n : goal.returns-then-left-n
returns-then-left-n c =
    let a = c.args in
    let v = c.loop-i in
    sym (v.invariant.3 ∙ spline_over a.counts.now a.deltas.now a.limit v.left v.place v.from v.i (omega arith) v.invariant.0 c.if-left-n.true)

pub slice_bounds-judge_deltas-end : goal.slice_bounds-judge_deltas-end
slice_bounds-judge_deltas-end c =
    omega (arith, sum_turn c.args.counts.now c.loop-i.i (omega arith))

pub judge_deltas-requires : goal.judge_deltas-requires
judge_deltas-requires c =
    let a = c.args in
    let v = c.loop-i in
    let n = get_or a.counts.now v.i 0 in
    let e = sum_turn a.counts.now v.i (omega arith) in
    let l = length_part a.deltas.now v.from (2 * n) (omega arith) in
    omega (arith, l)

pub returns-in_err-judge_deltas : goal.returns-in_err-judge_deltas
returns-in_err-judge_deltas c =
    let a = c.args in
    let v = c.loop-i in
    let r = c.in_err-judge_deltas.field-0.0 in
    passed_on _ _ _ c.from_residual.ensures.1
    (v.invariant.3 ∙ spline_wild a.counts.now a.deltas.now a.limit v.left v.place v.from v.i (omega arith) v.invariant.0
    c.if-left-n.false _ refl r.0 r.1 (sym c.judge_deltas.ensures ∙ c.in_err-judge_deltas.was))

pub loop-i-preserved : goal.loop-i-preserved
loop-i-preserved c =
    let a = c.args in
    let v = c.loop-i in
    let e = sum_turn a.counts.now v.i (omega arith) in (
      omega arith,
      omega arith,
      omega arith,
      v.invariant.3 ∙ spline_pass a.counts.now a.deltas.now a.limit v.left v.place v.from v.i (omega arith) v.invariant.0
          c.if-left-n.false _ refl (sym c.judge_deltas.ensures ∙ c.in_ok-judge_deltas.was),
    )

pub returns : goal.returns
returns c =
    let a = c.args in
    let v = c.loop-i in
    sym (v.invariant.3 ∙ splines_end a.limit (a.limit - v.left) v.place a.counts.now (drop v.from a.deltas.now) v.i (omega arith))
