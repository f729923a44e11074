-- The kind held to the range is Rust's `as`.
use Rattle.std.proofs.Common.{ap, ◌∙◌}
use Rattle.kinds.specs.Kind.{saturated_u64}
use Rattle.kinds.proofs.ByKind.{saturated_u64_lem}
use Rattle.kinds.proofs.saturating_f32_to_u64.Goals as goal

pub returns : goal.returns
returns c = c.held.ensures ∙ ap saturated_u64 c.cut_to_u64.ensures ∙ saturated_u64_lem c.args.x
