-- A number above 0 and below 2 ^ 23 is exact; else it is the kind of what `round` gives.
use Rattle.std.proofs.Common.{pos, nat_abs, ap, ◌∙◌, lit≤}
use lib.Dec.{leb-suc-zero}
use Rattle.kinds.specs.declared.Kind.TheVariants.{Exact, NotNumber, Below, Above}
use Rattle.wholes.proofs.Wholes.{small_by}
use Rattle.kinds.specs.Kind.{cut_u64}
use Rattle.numbers.proofs.Zero.{yes}
use Rattle.kinds.proofs.RoundedKind.{small_exact}
use Rattle.kinds.proofs.rounded_to_u64.Goals as goal

pub half_of-requires : goal.half_of-requires
half_of-requires c = small_by c.if-x.true c.if-x-2.true

pub returns-then-x-2 : goal.returns-then-x-2
returns-then-x-2 c =
    small_exact (λ z. Exact (nat_abs z)) NotNumber Below Above (pos 0) 18446744073709551615 c.args.x c.half_of.result (yes c.well_formed.0.1) (small_by c.if-x.true c.if-x-2.true) c.half_of.ensures (leb-suc-zero c.half_of.result) (lit≤ tt)

pub returns : goal.returns
returns c = c.cut_to_u64.ensures ∙ ap (λ x. cut_u64 x) c.round.ensures
