-- `reader::read` meets its contract: the buffers are zero before the list is read.
use Rattle.reader.proofs.Whole.{read_done}
use Rattle.reader.proofs.read.Goals as goal

pub returns-in-Ok : goal.returns-in-Ok
returns-in-Ok c =
    let a = c.args in
    let m = c.limit-most in
    let w = c.wipe in
    let g = c.read_list in
    let r = c.in-Ok.read in
    read_done a.configured a.pixels m.result m.ensures a.list.now
    a.counts.now w.new.counts a.starts.now w.new.starts a.deltas.now w.new.deltas a.coefficients.now w.new.coefficients w.ensures
    r.splines r.points r.adjustment g.new.counts g.new.starts g.new.deltas g.new.coefficients c.in-Ok.ensures
