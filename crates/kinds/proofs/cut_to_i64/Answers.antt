-- By the three tests: within the range the cut, whose kind is exact; at either end and at a NaN the definition's case.
use Rattle.std.proofs.Common.{ap, ◌∙◌, arith, to_z-of_z, w64}
use lib.Ieee.{of_bits, neg, to_signed}
use lib.Ieee.Casts.{to_signed_in}
use Rattle.kinds.specs.declared.Kind.TheVariants.{Exact, NotNumber, Below, Above}
use Rattle.numbers.proofs.Zero.{yes, no}
use Rattle.kinds.proofs.ByKind.{above_signed, below_signed, none_signed, exact_signed}
use Rattle.kinds.proofs.cut_to_i64.Goals as goal

pub truncating_f32_to_i64-requires : goal.truncating_f32_to_i64-requires
unfolding of_bits neg
truncating_f32_to_i64-requires c = record { lower_bound = yes c.if-x.true; upper_bound = yes c.if-x-2.true }

pub returns-then-x-2 : goal.returns-then-x-2
unfolding of_bits neg
returns-then-x-2 c =
    let x = c.args.x in
    ap Exact (rw c.truncating_f32_to_i64.ensures (to_z-of_z {w = w64} {z = to_signed 63 x} (record { sfits = to_signed_in 63 x })))
    ∙ exact_signed Exact NotNumber Below Above 63 x (yes c.if-x.true) (yes c.if-x-2.true)

pub returns-else-x-2 : goal.returns-else-x-2
unfolding of_bits neg
returns-else-x-2 c = above_signed Exact NotNumber Below Above 63 c.args.x (yes c.if-x.true) (no c.if-x-2.false)

pub returns-then-x-3 : goal.returns-then-x-3
unfolding of_bits neg
returns-then-x-3 c = below_signed Exact NotNumber Below Above 63 c.args.x (omega arith) (yes c.well_formed.0.1) (no c.if-x.false) (yes c.if-x-3.true)

pub returns-else-x-3 : goal.returns-else-x-3
unfolding of_bits neg
returns-else-x-3 c = none_signed Exact NotNumber Below Above 63 c.args.x (no c.if-x.false) (no c.if-x-3.false)
