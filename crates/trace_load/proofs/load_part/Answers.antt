use native.Mathlib.Omega.{arith}
use Rattle.trace_load.proofs.Loads.{turn_loaded, end_loaded}
use Rattle.trace_load.proofs.load_part.Goals as goal

pub stands-requires : goal.stands-requires
stands-requires g c = rw c.number_at.ensures (c.requires.callable c.loop-i.i (omega arith))

pub loop-i-preserved : goal.loop-i-preserved
loop-i-preserved g c = λ meant agrees.
    let a = c.args in
    let v = c.loop-i in
    turn_loaded meant a.part.now a.out.now v.out v.i _ _ c.requires.long (omega arith) c.number_at.ensures (agrees _ _ c.stands.ensures) (v.invariant meant agrees)

pub returns : goal.returns
returns g c = λ meant agrees.
    let a = c.args in
    let v = c.loop-i in
    end_loaded meant a.part.now a.out.now v.out v.i c.requires.long (omega arith) (omega arith) (v.invariant meant agrees)
