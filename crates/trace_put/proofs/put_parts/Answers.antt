-- `put_parts` meets its contract: each part stands behind the one before it.
use Rattle.trace_put.proofs.Puts.{parts_put}
use Rattle.trace_put.proofs.put_parts.Goals as goal

pub returns : goal.returns
returns c =
    let d = c.args.description.now in
    parts_put c.args.h d.counts.now d.starts.now d.deltas.now d.coefficients.now c.args.bytes.now _ _ _ _ c.requires.pairs
    c.put_numbers.ensures c.put_starts.ensures c.put_signed.ensures c.put_signed-2.ensures
