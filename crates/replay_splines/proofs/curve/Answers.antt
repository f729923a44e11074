-- One double delta fewer than control points.
use Prim.Native.Nat.{◌/◌}
use native.Mathlib.Omega.{arith}
use lib.ListN.{length}
use Rattle.replay_splines.proofs.Agreeing.{first_deltas, one_fewer}
use borrow.Author.Rules.{rules}
use Rattle.replay_splines.proofs.curve.Goals as goal

pub slice_bounds-is_curve-end : goal.slice_bounds-is_curve-end
slice_bounds-is_curve-end c =
    let t = first_deltas (length c.args.input.now / 2) _ c.double_deltas.ensures (omega (arith, c.if-n-gt32.false)) in
    search (rules, t)

pub is_curve-requires : goal.is_curve-requires
is_curve-requires c = one_fewer (length c.args.input.now / 2) _ c.double_deltas.ensures (omega (arith, c.if-n-lt1.false)) (omega (arith, c.if-n-gt32.false))

pub returns : goal.returns
returns c = c.is_curve.ensures
