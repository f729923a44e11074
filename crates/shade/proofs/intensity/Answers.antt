-- The definition's steps are the code's; the two calls give what they promise but for the sign of a zero, which the square does not show.
use Rattle.shade.specs.Shade.{intensity_at}
use Rattle.shade.proofs.Erfs.{difference_alike, square_alike, erff_fits}
use Rattle.shade.proofs.intensity.Goals as goal

pub returns : goal.returns
unfolding intensity_at
returns c = square_alike _ _ _ (difference_alike _ _ _ _ (erff_fits _) (erff_fits _) c.erf.ensures c.erf-2.ensures)
