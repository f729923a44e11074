-- std's magnitude is the definition's, case by case.
use Rattle.std.proofs.Common.{◌≡◌, refl, false, ◌∙◌}
use Rattle.std.specs.Float.{Float, nan, inf, fin, float_with_sign}
use Rattle.numbers.specs.Magnitude.{abs_of}
use Rattle.numbers.proofs.abs.Goals as goal

same : (x : Float) → float_with_sign false x ≡ abs_of x
unfolding float_with_sign abs_of
same nan = refl
same (inf s) = refl
same (fin s m e) = refl

pub returns : goal.returns
returns c = c.abs.ensures.value ∙ same c.args.x
