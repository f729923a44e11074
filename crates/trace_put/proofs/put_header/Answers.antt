-- `put_header` meets its contract: eight numbers, put in a row.
use mathlib.Core.Path.{◌≡◌, ap, ◌∙◌}
use mir.Syntax.{w32}
use mir.Facts.{to_z-of_z}
use Rattle.little.specs.Little.{unsigned_of}
use Rattle.trace_put.proofs.put_header.Goals as goal

pub returns : goal.returns
returns c =
    let u = c.unsigned in
    let a = c.args in
    let z = to_z-of_z {w = w32} {z = a.adjustment} c.ranges.adjustment in
    let v : u.result ≡ unsigned_of a.adjustment = u.ensures ∙ ap unsigned_of z in
    c.put_numbers.ensures ∙ rw v
