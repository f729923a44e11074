-- The saturating conversion is the kind held to the range.
use mathlib.Core.Path.{sym, ◌∙◌}
use Rattle.kinds.proofs.ByKind.{saturated_u64_lem}
use Rattle.estimate.proofs.whole.Goals as goal

pub returns : goal.returns
returns c = c.saturating_f32_to_u64.ensures ∙ sym (saturated_u64_lem c.args.x)
