use mathlib.Core.Path.{refl}
use borrow.Author.Rules.{rules}
use native.Mathlib.Omega.{arith}
use Rattle.polyline_scan.proofs.Turns.{spare, going_begin, going_on, going_stops, going_last, byte_inside}
use Rattle.polyline_scan.proofs.scan.Goals as goal

pub loop-i-init : goal.loop-i-init
loop-i-init c = going_begin _ _ _ c.figure_at.ensures

pub turn-requires : goal.turn-requires
turn-requires c = let g = c.loop-i.invariant in (g.fits, spare _ _ _ g.few (omega arith))

pub returns-in_err-run : goal.returns-in_err-run
returns-in_err-run c = going_stops _ _ _ _ _ _ c.loop-i.invariant (omega arith) _ (byte_inside c.args.text.now c.loop-i.i (omega arith) refl) _ c.turn.ensures _ c.in_err-run.was _ (search rules)

pub loop-i-preserved : goal.loop-i-preserved
loop-i-preserved c = going_on _ _ _ _ _ _ c.loop-i.invariant (omega arith) _ (byte_inside c.args.text.now c.loop-i.i (omega arith) refl) _ c.turn.ensures _ c.in_ok-run.was

pub turn-requires-2 : goal.turn-requires-2
turn-requires-2 c = let g = c.loop-i.invariant in (g.fits, spare _ _ _ g.few (omega arith))

pub returns : goal.returns
returns c = let v = c.loop-i in going_last c.args.text.now _ _ _ v.run v.i v.invariant (omega arith) _ c.turn-2.ensures
