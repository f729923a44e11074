-- `profile::check_rules`: how many splines there are, the adjustment, and then the splines decide, in this order.
use Rattle.std.proofs.Common.{sym, ap, ◌∙◌, Bool, arith, rules, w32, SFits, to_z-of_z}
use Rattle.profile_rules.specs.declared.Rule.TheVariants.{Splines, Adjustment}
use Rattle.profile.specs.Profile.{kept}
use Rattle.profile.proofs.Rules.{splines_decide}
use Rattle.profile.proofs.check_rules.Goals as goal

pub returns : goal.returns
returns c =
    let a = c.args in
    let value_fits : SFits w32 a.adjustment = search rules in
    let least_fits : SFits w32 a.limits.least = search rules in
    let greatest_fits : SFits w32 a.limits.greatest = search rules in
    let within_is = rw (to_z-of_z {w = w32} {z = a.adjustment} value_fits, to_z-of_z {w = w32} {z = a.limits.least} least_fits, to_z-of_z {w = w32} {z = a.limits.greatest} greatest_fits) at c.within-adjusted.ensures in
    let adjusted = ap (λ (b : Bool). kept b Adjustment 0) (sym within_is) ∙ sym c.kept-2.ensures ∙ c.in_ok-kept-2.was in
    let many = ap (λ (b : Bool). kept b Splines 0) (sym c.counted.ensures) ∙ sym c.kept.ensures ∙ c.in_ok-kept.was in
    c.check_splines.ensures ∙ splines_decide _ _ _ _ many adjusted
