use native.Mathlib.Omega.{arith}
use Rattle.control_points.proofs.Walks.{walk_moves, walk_more}
use Rattle.polyline_spline.proofs.Puts.{rest_begin, rest_more, rest_full, rest_ends}
use Rattle.polyline_spline.proofs.put_rest.Goals as goal

pub loop-k-init : goal.loop-k-init
loop-k-init c = rest_begin _ _ _ _ c.requires.0 c.requires.1

pub returns-then-text-at : goal.returns-then-text-at
returns-then-text-at c = rest_full _ _ _ _ _ _ _ _ c.loop-k.invariant c.if-text-at.true _

pub of-requires : goal.of-requires
of-requires c = omega arith

pub moved-place-requires : goal.moved-place-requires
moved-place-requires c = let v = c.loop-k in rw c.of.ensures (walk_moves v.place _ v.k (omega arith) v.invariant.pass)

pub put_later-at-requires : goal.put_later-at-requires
put_later-at-requires c = let v = c.loop-k in (omega (arith, c.if-text-at.false), rw (c.moved-place.ensures, c.of.ensures) (walk_more v.place _ v.k (omega arith) v.invariant.pass).point)

pub loop-k-preserved : goal.loop-k-preserved
loop-k-preserved c = rest_more _ _ _ _ _ _ _ _ c.loop-k.invariant (omega arith) c.if-text-at.false _ (rw c.of.ensures at c.moved-place.ensures) _ _ c.put_later-at.ensures

pub returns-then-text-at-2 : goal.returns-then-text-at-2
returns-then-text-at-2 c = rest_full _ _ _ _ _ _ _ _ c.loop-k.invariant c.if-text-at-2.true _

pub returns : goal.returns
returns c = rest_ends _ _ _ _ _ _ _ _ c.loop-k.invariant (omega arith) c.if-text-at-2.false
