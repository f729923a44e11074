-- `load` meets its contract: three numbers of the header, and the parts.
use mathlib.Core.Path.{ap, ◌∙◌}
use mir.Syntax.{w32}
use mir.Facts.{to_z-of_z}
use Rattle.reader.specs.Read.{rooms_of}
use Rattle.little.specs.Little.{signed_in}
use Rattle.trace_load.proofs.Loads.{all_loaded}
use Rattle.trace_load.proofs.load.Goals as goal

pub load_parts-requires : goal.load_parts-requires
load_parts-requires c =
    rw (c.number_at-s.ensures, c.number_at-p.ensures) c.requires.1

pub returns : goal.returns
returns c =
    let a = c.args in
    let z = to_z-of_z {w = w32} {z = c.signed-adjustment.result} (record { sfits = c.signed-adjustment.type_inv }) in
    let n = c.number_at.ensures in
    all_loaded a.h a.bytes.now (rooms_of a.counts.now a.starts.now a.deltas.now a.coefficients.now) _ _ _ _ _ _ _ _ _ _ _
    c.requires.1 c.number_at-s.ensures c.number_at-p.ensures (z ∙ c.signed-adjustment.ensures ∙ ap signed_in n) c.load_parts.ensures
