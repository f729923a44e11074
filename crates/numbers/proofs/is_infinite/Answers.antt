-- std's test is the definition's, case by case.
use Rattle.std.proofs.Common.{◌≡◌, refl, ◌∙◌}
use Rattle.std.specs.Float.{Float, nan, inf, fin, float_is_infinite}
use Rattle.numbers.specs.Magnitude.{is_infinite}
use Rattle.numbers.proofs.is_infinite.Goals as goal

same : (x : Float) → float_is_infinite x ≡ is_infinite x
unfolding float_is_infinite is_infinite
same nan = refl
same (inf s) = refl
same (fin s m e) = refl

pub returns : goal.returns
returns c = c.is_infinite.ensures.value ∙ same c.args.x
