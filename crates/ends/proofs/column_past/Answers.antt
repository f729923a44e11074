-- `column_past`: what is no number or below is the definition's case.
use mathlib.Core.Path.{ap, sym, ◌∙◌}
use mathlib.Core.Logic.{inl, inr}
use Rattle.ends.specs.Ends.{column_past_by, column_past_of}
use Rattle.ends.proofs.column_past.Goals as goal

pub returns-in-NotNumber : goal.returns-in-NotNumber
unfolding column_past_of
returns-in-NotNumber c = elim c.in-NotNumber.is [ inl e ↦ ap column_past_by (sym e ∙ c.rounded_to_u64.ensures) | inr e ↦ ap column_past_by (sym e ∙ c.rounded_to_u64.ensures) ]
