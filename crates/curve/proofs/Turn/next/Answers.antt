-- `curve::Turn::next`: the calls promise what the definition says.
use Rattle.curve.specs.Turns.{next_turn}
use Rattle.curve.proofs.Turn.next.Goals as goal

pub returns : goal.returns
unfolding next_turn
returns c = rw (c.root_length.ensures, c.of.ensures)
