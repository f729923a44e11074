-- `ninth` meets its contract: fewer than 36 bytes have no ninth number.
use Rattle.trace2_read.proofs.Seconds.{no_ninth}
use Rattle.trace2_read.proofs.ninth.Goals as goal

pub returns-else-bytes-ge36 : goal.returns-else-bytes-ge36
returns-else-bytes-ge36 c = no_ninth c.args.bytes.now c.if-bytes-ge36.false
