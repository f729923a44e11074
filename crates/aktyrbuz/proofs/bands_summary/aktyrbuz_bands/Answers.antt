-- `aktyrbuz_bands` meets its contract: what `make` leaves, and its answer told in five numbers.
use Rattle.aktyrbuz.proofs.BandsNumbers.{bands_exported}
use Rattle.aktyrbuz.proofs.bands_summary.aktyrbuz_bands.Goals as goal

pub returns : goal.returns
returns c = bands_exported _ _ _ _ c.make.ensures c.tell.ensures.number c.tell.ensures.five
