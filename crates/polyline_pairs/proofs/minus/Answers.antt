-- `polyline_pairs::minus` meets its contract: one law on differences of numbers that fit, at x and at y.
use Rattle.polyline.specs.Read.{minus_of}
use Rattle.polyline_pairs.proofs.Numbers.{minus_is}
use Rattle.polyline_pairs.proofs.minus.Goals as goal

pub returns : goal.returns
unfolding minus_of
returns c = rw (minus_is c.args.p.x c.args.q.x c.requires.0.x c.requires.1.x, minus_is c.args.p.y c.args.q.y c.requires.0.y c.requires.1.y)
