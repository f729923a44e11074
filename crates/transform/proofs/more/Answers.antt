-- `more`: one law over the row, four times.
use native.Mathlib.Omega.{arith}
use Rattle.transform.proofs.more.Goals as goal

pub fed-requires : goal.fed-requires
fed-requires c = (omega (arith, c.requires.0, c.requires.1), c.cosines-eight.ensures, c.requires.2)

pub fed-requires-2 : goal.fed-requires-2
fed-requires-2 c = let p = c.requires in (omega (arith, p.0, p.1), c.cosines-eight.ensures, p.3)

pub fed-requires-3 : goal.fed-requires-3
fed-requires-3 c = let p = c.requires in (omega (arith, p.0, p.1), c.cosines-eight.ensures, p.4)

pub fed-requires-4 : goal.fed-requires-4
fed-requires-4 c = let p = c.requires in (omega (arith, p.0, p.1), c.cosines-eight.ensures, p.5)

pub returns : goal.returns
returns c = (c.fed.ensures, c.fed-2.ensures, c.fed-3.ensures, c.fed-4.ensures)
