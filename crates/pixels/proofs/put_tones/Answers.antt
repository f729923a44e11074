-- `pixels::put_tones`: each byte is its tone.
use Rattle.pixels.specs.Pixels.{tones_of}
use Rattle.pixels.proofs.put_tones.Goals as goal

pub returns : goal.returns
unfolding tones_of
returns c = rw (c.tone-red.ensures, c.tone-green.ensures, c.tone-blue.ensures) at c.put.ensures
