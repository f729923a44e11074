-- Lengths that agree are what `judge` asks for.
use Rattle.std.proofs.Common.{sym, ◌∙◌}
use Rattle.verdict.proofs.Checks.{agreed}
use Rattle.layers.proofs.judged_of.Goals as goal

pub judge-requires : goal.judge-requires
judge-requires c = agreed _ (sym c.is_shaped.ensures ∙ c.if-not-is_shaped.false)
