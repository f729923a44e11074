-- Below 2 ^ 23 the magnitude is made whole by the rule of its sign, and the float of that number is the definition's; any other value is whole already.
use mathlib.Core.Path.{refl, ap, ◌∙◌}
use mathlib.Core.Bool.{true, false}
use lib.Ieee.{binary32, of_bits, neg}
use lib.Ieee.Positive.{num, den}
use Rattle.wholes.specs.Whole.{downward}
use Rattle.numbers.proofs.Zero.{yes, no}
use Rattle.wholes.proofs.Wholes.{small_by, small_turned, small_above, plain, turned, high_plus, high_minus, rest, floor_id, floor_nil}
use Rattle.wholes.proofs.floor.Goals as goal

pub down_from-requires : goal.down_from-requires
down_from-requires c = small_by c.if-x.true c.if-x-2.true

pub up_from-requires : goal.up_from-requires
up_from-requires c = small_turned c.args.x c.if-x-3.true c.if-a.true

pub returns-then-x-2 : goal.returns-then-x-2
returns-then-x-2 c =
    let x = c.args.x in
    c.down_from.ensures ∙ plain binary32 downward x (downward false (num x) (den x)) (small_above x (small_by c.if-x.true c.if-x-2.true)) refl

pub returns-else-x-2 : goal.returns-else-x-2
unfolding of_bits
returns-else-x-2 c = high_plus downward floor_id floor_nil c.args.x (yes c.well_formed.0.1) (yes c.if-x.true) (no c.if-x-2.false)

pub returns-then-a : goal.returns-then-a
returns-then-a c =
    let x = c.args.x in
    ap neg c.up_from.ensures ∙ turned binary32 downward x (downward true (num (neg x)) (den (neg x))) (small_above (neg x) (small_turned c.args.x c.if-x-3.true c.if-a.true)) refl

pub returns-else-a : goal.returns-else-a
unfolding of_bits
returns-else-a c = high_minus downward floor_id floor_nil c.args.x (yes c.well_formed.0.1) (yes c.if-x-3.true) (no c.if-a.false)

pub returns-else-x-3 : goal.returns-else-x-3
unfolding of_bits
returns-else-x-3 c = rest downward floor_id floor_nil c.args.x (yes c.well_formed.0.1) (no c.if-x.false) (no c.if-x-3.false)
