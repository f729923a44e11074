-- `profile::profile`: where every rule is kept, the description meets the profile.
use Rattle.std.proofs.Common.{sym, ◌∙◌, rules, w32, SFits, to_z-of_z}
use Rattle.profile.proofs.Rules.{known_at, meets}
use Rattle.profile.proofs.profile.Goals as goal

pub returns : goal.returns
returns c =
    let adjustment_fits : SFits w32 c.args.adjustment = search rules in
    let shaped = sym c.is_shaped.ensures ∙ c.if-not-is_shaped.false in
    let known = sym c.limits_of.ensures ∙ known_at _ _ _ (sym c.ok_or.ensures.value ∙ c.in_ok-limits.was) in
    let found = rw (to_z-of_z {w = w32} {z = c.args.adjustment} adjustment_fits) at c.check_rules.ensures in
    meets _ _ _ _ shaped known (sym found ∙ c.in_ok-check_rules.was)
