-- `max_distance` meets its contract: its calls' results put in, and the literal is the logarithm of 0.1, by computation.
use mathlib.Core.Path.{◌≡◌, refl}
use lib.Ieee.{of_bits, to_bits, of_int, add, sub, mul, div, lt, neg}
use Rattle.numbers.specs.Arith.{f}
use Rattle.to_f32.specs.Narrow.{narrow}
use Rattle.approximations.specs.Ln.{ln_of, ln_above, ln_at}
use Rattle.segments.specs.Segment.{max_distance}
use Rattle.segments.proofs.max_distance.Goals as goal

-- the code's literal
ln-tenth : ln_of (f 0x3dcccccd) ≡ neg (f 0x40135d8e)
unfolding ln_of ln_above ln_at narrow of_bits to_bits of_int add sub mul div lt neg
ln-tenth = refl

pub returns : goal.returns
unfolding max_distance
returns c = rw (c.root.ensures, c.ln.ensures, c.distance_exp.ensures, ln-tenth)
