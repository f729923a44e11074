-- `curve::Turn::first`: the calls promise what the definition says.
use Rattle.curve.specs.Turns.{first_turn}
use Rattle.curve.proofs.Turn.first.Goals as goal

pub returns : goal.returns
unfolding first_turn
returns c = rw (c.root_length-d.ensures, c.reflected-p.ensures, c.of-r.ensures, c.of-q.ensures)
