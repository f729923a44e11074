-- Below 2 ^ 23 the magnitude is made whole with a half up, and the float of that number is the definition's; any other value is whole already.
use native.Mathlib.Nat.{le_trans}
use lib.Dec.{lit≤}
use lib.Ieee.{binary32, of_bits, neg}
use Rattle.wholes.specs.Whole.{away}
use Rattle.numbers.proofs.Zero.{yes, no}
use Rattle.numbers.proofs.Units.{castable}
use Rattle.wholes.proofs.Wholes.{small_by, small_turned, small_above, plain, turned, high_plus, high_minus, rest, round_id, round_nil}
use Rattle.wholes.proofs.round.Goals as goal

pub half_of-requires : goal.half_of-requires
half_of-requires c = small_by c.if-x.true c.if-x-2.true

pub int_to_float-result : goal.int_to_float-result
int_to_float-result c = castable binary32 c.half_of.result (le_trans c.half_of.ensures.most (lit≤ tt))

pub half_of-requires-then-a : goal.half_of-requires-then-a
half_of-requires-then-a c = small_turned c.args.x c.if-x-3.true c.if-a.true

pub int_to_float-result-then-a : goal.int_to_float-result-then-a
int_to_float-result-then-a c = castable binary32 c.half_of-then-a.result (le_trans c.half_of-then-a.ensures.most (lit≤ tt))

pub returns-then-x-2 : goal.returns-then-x-2
returns-then-x-2 c =
    let x = c.args.x in
    plain binary32 away x c.half_of.result (small_above x (small_by c.if-x.true c.if-x-2.true)) c.half_of.ensures.is

pub returns-else-x-2 : goal.returns-else-x-2
unfolding of_bits
returns-else-x-2 c = high_plus away round_id round_nil c.args.x (yes c.well_formed.0.1) (yes c.if-x.true) (no c.if-x-2.false)

pub returns-then-a : goal.returns-then-a
returns-then-a c =
    let x = c.args.x in
    turned binary32 away x c.half_of-then-a.result (small_above (neg x) (small_turned c.args.x c.if-x-3.true c.if-a.true)) c.half_of-then-a.ensures.is

pub returns-else-a : goal.returns-else-a
unfolding of_bits
returns-else-a c = high_minus away round_id round_nil c.args.x (yes c.well_formed.0.1) (yes c.if-x-3.true) (no c.if-a.false)

pub returns-else-x-3 : goal.returns-else-x-3
unfolding of_bits
returns-else-x-3 c = rest away round_id round_nil c.args.x (yes c.well_formed.0.1) (no c.if-x.false) (no c.if-x-3.false)
