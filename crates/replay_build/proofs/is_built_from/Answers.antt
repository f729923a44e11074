-- The description is that of the words.
use Rattle.stored.specs.Stored.{float_in, signed_in}
use Rattle.replay_build.proofs.Building.{taken, words_agree}
use borrow.Author.Rules.{rules}
use Rattle.replay_build.proofs.is_built_from.Goals as goal

pub slice_bounds-description-end : goal.slice_bounds-description-end
slice_bounds-description-end c =
    let A = c.args in
    let t = taken (float_in A.starts.now) 16 _ _ c.floats.ensures c.if-starts-gt16.false in
    search (rules, t)

pub slice_bounds-description-end-2 : goal.slice_bounds-description-end-2
slice_bounds-description-end-2 c =
    let A = c.args in
    let t = taken (signed_in A.deltas.now) 2048 _ _ c.signeds.ensures c.if-deltas-gt2048.false in
    search (rules, t)

pub slice_bounds-description-end-3 : goal.slice_bounds-description-end-3
slice_bounds-description-end-3 c =
    let A = c.args in
    let t = taken (signed_in A.coefficients.now) 1024 _ _ c.signeds-2.ensures c.if-coefficients-gt1024.false in
    search (rules, t)

pub returns : goal.returns
returns c =
    let A = c.args in
    λ e. words_agree A.input.now A.output.now A.counts.now A.starts.now A.deltas.now A.coefficients.now c.floats.ensures c.signeds.ensures c.signeds-2.ensures (c.is_built.ensures e)
