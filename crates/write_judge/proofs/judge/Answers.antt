-- `write_judge::judge` meets its contract: each test and each call is the next of the checks.
use Rattle.std.proofs.Common.{length, not, sym, ap, ◌∙◌, arith}
use Rattle.codes.proofs.Refusals.{passed_on}
use Rattle.write_judge.specs.Judge.{misshapen}
use Rattle.write_judge.proofs.Checks.{agreed, none_counted, many_counted, well_counted, content_shape, content_count, content_start, content_rest}
use Rattle.write_judge.proofs.judge.Goals as goal
use Rattle.write_judge.proofs.judge.Goals.{then-splines-eq0-via-then-splines-eq0, then-splines-eq0-via-else-splines-eq0+then-limit-splines}

pub returns-then-not-is_shaped : goal.returns-then-not-is_shaped
unfolding misshapen
returns-then-not-is_shaped c =
    let d = c.args.description.now in
    sym (content_shape d.counts.now d.starts.now d.deltas.now d.coefficients.now c.args.limit (ap not (sym c.is_shaped.ensures ∙ c.if-not-is_shaped.true)))

pub returns-then-splines-eq0 : goal.returns-then-splines-eq0
unfolding misshapen
returns-then-splines-eq0 c =
    let d = c.args.description.now in
    let s = ap not (sym c.is_shaped.ensures ∙ c.if-not-is_shaped.false) in
    let f = content_count d.counts.now d.starts.now d.deltas.now d.coefficients.now c.args.limit s in
    elim c.then-splines-eq0.branch [
      | then-splines-eq0-via-then-splines-eq0 w ↦ sym (f (none_counted c.args.limit (length d.counts.now) w.if-splines-eq0.true))
      | then-splines-eq0-via-else-splines-eq0+then-limit-splines w ↦ sym (f (many_counted c.args.limit (length d.counts.now) w.if-splines-eq0.false w.if-limit-splines.true))
    ]

pub judge_starts-requires : goal.judge_starts-requires
unfolding misshapen
judge_starts-requires c =
    let d = c.args.description.now in
    omega (arith, (agreed d.counts.now d.starts.now d.deltas.now d.coefficients.now (ap not (sym c.is_shaped.ensures ∙ c.if-not-is_shaped.false))).0)

pub judge_splines-requires : goal.judge_splines-requires
unfolding misshapen
judge_splines-requires c =
    let d = c.args.description.now in
    let h = agreed d.counts.now d.starts.now d.deltas.now d.coefficients.now (ap not (sym c.is_shaped.ensures ∙ c.if-not-is_shaped.false)) in
    (omega (arith, c.if-limit-splines.false, c.ranges.limit), h.1)

pub returns-in_err-judge_starts : goal.returns-in_err-judge_starts
unfolding misshapen
returns-in_err-judge_starts c =
    let d = c.args.description.now in
    let r = c.in_err-judge_starts.field-0.0 in
    passed_on _ _ _ c.from_residual.ensures.1
    (content_start d.counts.now d.starts.now d.deltas.now d.coefficients.now c.args.limit (ap not (sym c.is_shaped.ensures ∙ c.if-not-is_shaped.false))
    (well_counted c.args.limit (length d.counts.now) c.if-splines-eq0.false c.if-limit-splines.false) r.0 r.1
    (sym c.judge_starts.ensures ∙ c.in_err-judge_starts.was))

pub returns : goal.returns
unfolding misshapen
returns c =
    let d = c.args.description.now in
    c.judge_splines.ensures
    ∙ sym (content_rest d.counts.now d.starts.now d.deltas.now d.coefficients.now c.args.limit (ap not (sym c.is_shaped.ensures ∙ c.if-not-is_shaped.false))
    (well_counted c.args.limit (length d.counts.now) c.if-splines-eq0.false c.if-limit-splines.false)
    (sym c.judge_starts.ensures ∙ c.in_ok-judge_starts.was))
