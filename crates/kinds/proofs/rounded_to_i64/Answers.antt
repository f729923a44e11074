-- A number above 0 and below 2 ^ 23 is exact; else it is the kind of what `round` gives.
use Rattle.std.proofs.Common.{◌^◌, pos, neg_ℤ, refl, ap, ◌∙◌, arith, lit≤, w64}
use mir.Facts.{to_z_pos}
use Rattle.kinds.specs.declared.Kind.TheVariants.{Exact, NotNumber, Below, Above}
use Rattle.wholes.proofs.Wholes.{small_by}
use Rattle.kinds.specs.Kind.{cut_i64}
use Rattle.numbers.proofs.Zero.{yes}
use Rattle.kinds.proofs.RoundedKind.{small_exact}
use Rattle.kinds.proofs.rounded_to_i64.Goals as goal

pub half_of-requires : goal.half_of-requires
half_of-requires c = small_by c.if-x.true c.if-x-2.true

pub overflow_cast-result : goal.overflow_cast-result
overflow_cast-result c = record { sfits = omega (arith, c.half_of.ensures.most) }

pub returns-then-x-2 : goal.returns-then-x-2
returns-then-x-2 c =
    ap Exact (to_z_pos w64 {n = c.half_of.result} (omega (arith, c.half_of.ensures.most)))
    ∙ small_exact Exact NotNumber Below Above (neg_ℤ (pos (2 ^ 63))) 9223372036854775807 c.args.x c.half_of.result (yes c.well_formed.0.1) (small_by c.if-x.true c.if-x-2.true) c.half_of.ensures refl (lit≤ tt)

pub returns : goal.returns
returns c = c.cut_to_i64.ensures ∙ ap (λ x. cut_i64 x) c.round.ensures
