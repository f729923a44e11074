-- The kind of what `round` gives.
use Rattle.std.proofs.Common.{ap, ◌∙◌}
use Rattle.kinds.specs.Kind.{cut_i32}
use Rattle.kinds.proofs.rounded_to_i32.Goals as goal

pub returns : goal.returns
returns c = c.cut_to_i32.ensures ∙ ap (λ x. cut_i32 x) c.round.ensures
