-- What the first n rows hold is what they are due.
use mathlib.Core.Path.{ap}
use lib.Dec.{ltb}
use lib.ListN.{get_or}
use Rattle.makers_search.proofs.Sums.{due_is}
use Rattle.makers_search.proofs.short_before.Goals as goal

pub returns : goal.returns
returns c =
    let A = c.args in
    rw (c.from.ensures, c.total.ensures) (ap (ltb (get_or A.table.now.row_starts.now A.n 0)) (due_is A.table.now.segments.now A.table.now.segment_count A.n c.requires.n_bound.0))
