use native.Mathlib.Omega.{arith}
use Rattle.pixels.specs.Pixels.{at, tones_of}
use Rattle.pixels.proofs.Strips.{strip_begin, strip_more, strip_end, three}
use borrow.Author.Rules.{rules}
use Rattle.pixels.proofs.tones.Goals as goal

pub loop-i-init : goal.loop-i-init
loop-i-init c = (search rules, strip_begin (at tones_of c.args.x.now c.args.y.now c.args.b.now) c.args.n c.args.out.now)

pub loop-i-preserved : goal.loop-i-preserved
loop-i-preserved c = (search rules, strip_more (at tones_of c.args.x.now c.args.y.now c.args.b.now) c.loop-i.invariant.1 c.put_tones.ensures (omega arith) 3 _ (three _ _ _) (omega arith) (omega arith))

pub returns : goal.returns
returns c = strip_end (at tones_of c.args.x.now c.args.y.now c.args.b.now) c.loop-i.invariant.1 (omega arith)
