-- `finding::stands` meets its contract.
use mathlib.Core.Path.{refl}
use native.Mathlib.Omega.{arith}
use Rattle.finding.proofs.Passed.{too_short}
use Rattle.finding.proofs.Sameness.{part_differs, part_more, part_ends}
use Rattle.finding.proofs.stands.Goals as goal

pub returns-then-bytes-at : goal.returns-then-bytes-at
returns-then-bytes-at c = let A = c.args in too_short A.bytes.now A.at A.word.now (omega (arith, c.if-bytes-at.true))

pub loop-k-init : goal.loop-k-init
loop-k-init c = record { rest = refl }

pub returns-then-bytes-at-2 : goal.returns-then-bytes-at-2
returns-then-bytes-at-2 c = part_differs c.args.bytes.now c.args.at c.args.word.now c.loop-k.k c.loop-k.invariant (omega (arith, c.if-bytes-at.false)) c.loop-k-test.true c.if-bytes-at-2.true

pub loop-k-preserved : goal.loop-k-preserved
loop-k-preserved c = part_more c.args.bytes.now c.args.at c.args.word.now c.loop-k.k c.loop-k.invariant (omega (arith, c.if-bytes-at.false)) c.loop-k-test.true c.if-bytes-at-2.false

pub returns : goal.returns
returns c = part_ends c.args.bytes.now c.args.at c.args.word.now c.loop-k.k c.loop-k.invariant (omega (arith, c.if-bytes-at.false)) (omega (arith, c.loop-k-test.false))
