use mathlib.Core.Path.{◌≡◌, sym, ◌∙◌}
use Prim.Native.Nat.{◌+◌}
use native.Mathlib.Omega.{arith}
use Rattle.trace_parts.proofs.Parts.{number_fault, number_pass, number_end}
use Rattle.trace_parts.proofs.judge_numbers.Goals as goal

pub loop-i-init : goal.loop-i-init
loop-i-init g c = λ test agrees. let z : c.args.from + 0 ≡ c.args.from = omega arith in rw z

pub returns-then-refuses : goal.returns-then-refuses
returns-then-refuses g c = λ test agrees.
    let a = c.args in
    let v = c.loop-i in
    sym (v.invariant test agrees ∙ number_fault test a.code a.part.now a.from v.i _ _ (omega arith) c.number_at.ensures (agrees _ _ c.refuses.ensures) c.if-refuses.true)

pub loop-i-preserved : goal.loop-i-preserved
loop-i-preserved g c = λ test agrees.
    let a = c.args in
    let v = c.loop-i in
    v.invariant test agrees ∙ number_pass test a.code a.part.now a.from v.i _ _ (omega arith) c.number_at.ensures (agrees _ _ c.refuses.ensures) c.if-refuses.false

pub returns : goal.returns
returns g c = λ test agrees.
    let a = c.args in
    let v = c.loop-i in
    sym (v.invariant test agrees ∙ number_end test a.code a.part.now a.from v.i (omega arith))
