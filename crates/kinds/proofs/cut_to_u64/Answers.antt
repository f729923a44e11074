-- By the three tests: within the range the cut, whose kind is exact; at either end and at a NaN the definition's case.
use Rattle.std.proofs.Common.{ap, ◌∙◌}
use lib.Ieee.{of_bits, neg}
use Rattle.kinds.specs.declared.Kind.TheVariants.{Exact, NotNumber, Below, Above}
use Rattle.numbers.proofs.Zero.{yes, no}
use Rattle.kinds.proofs.ByKind.{above_unsigned, below_unsigned, none_unsigned, exact_unsigned}
use Rattle.kinds.proofs.cut_to_u64.Goals as goal

pub truncating_f32_to_u64-requires : goal.truncating_f32_to_u64-requires
unfolding of_bits neg
truncating_f32_to_u64-requires c = record { lower_bound = yes c.if-x.true; upper_bound = yes c.if-x-2.true }

pub returns-then-x-2 : goal.returns-then-x-2
unfolding of_bits neg
returns-then-x-2 c =
    ap Exact c.truncating_f32_to_u64.ensures
    ∙ exact_unsigned Exact NotNumber Below Above 64 c.args.x (yes c.if-x.true) (yes c.if-x-2.true)

pub returns-else-x-2 : goal.returns-else-x-2
unfolding of_bits neg
returns-else-x-2 c = above_unsigned Exact NotNumber Below Above 64 c.args.x (yes c.if-x.true) (no c.if-x-2.false)

pub returns-then-x-3 : goal.returns-then-x-3
unfolding of_bits neg
returns-then-x-3 c = below_unsigned Exact NotNumber Below Above 64 c.args.x (no c.if-x.false) (yes c.if-x-3.true)

pub returns-else-x-3 : goal.returns-else-x-3
unfolding of_bits neg
returns-else-x-3 c = none_unsigned Exact NotNumber Below Above 64 c.args.x (no c.if-x.false) (no c.if-x-3.false)
