-- `pixels::put_float`: the four bytes of the pattern.
use mathlib.Core.Path.{ap, ◌∙◌}
use Rattle.std.proofs.lemmas.List.Edits.{sets}
use Rattle.pixels.specs.Pixels.{bytes_of}
use Rattle.pixels.proofs.put_float.Goals as goal

pub returns : goal.returns
unfolding bytes_of
returns c = let A = c.args in c.put.ensures ∙ ap (sets A.out.now A.at) (c.to_le_bytes.ensures ∙ ap (λ w. bytes_of w) c.f32_to_bits_with_nan.ensures)
