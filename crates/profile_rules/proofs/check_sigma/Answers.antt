-- `profile_rules::check_sigma`: where the sigma coefficients after the first are 0, the first decides.
use Rattle.std.proofs.Common.{sym, ap, ◌∙◌, Bool, ◌+◌, ◌-◌, ◌*◌, get_or, pos, arith, rules, w32, SFits, to_z-of_z}
use Rattle.profile_rules.specs.declared.Rule.TheVariants.{FirstSigma}
use Rattle.profile_rules.specs.Rules.{kept}
use Rattle.profile_rules.proofs.Rules.{first_decides}
use Rattle.profile_rules.proofs.check_sigma.Goals as goal

pub returns : goal.returns
returns c =
    let k = c.args.k in
    let most_fits : SFits w32 c.args.limits.sigma = search rules in
    let first_fits : SFits w32 (get_or c.args.c.now (128 * k + 96) (pos 0)) = search rules in
    c.kept-2.ensures
    ∙ ap (λ (b : Bool). kept b FirstSigma k) (rw (to_z-of_z {w = w32} {z = c.args.limits.sigma} most_fits, to_z-of_z {w = w32} {z = get_or c.args.c.now (128 * k + 96) (pos 0)} first_fits) at c.within.ensures)
    ∙ first_decides c.args.limits c.args.c.now k (128 * k + 128 - (128 * k + 97)) c.requires (omega arith) _ c.zeros.ensures (sym c.kept.ensures ∙ c.in_ok-kept.was)
