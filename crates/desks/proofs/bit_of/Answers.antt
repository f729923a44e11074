-- Each desk's bit by its remainder.
use mathlib.Core.Path.{sym}
use native.Mathlib.Omega.{arith}
use Rattle.desks.proofs.Bits.{bit_first, bit_second}
use Rattle.desks.proofs.bit_of.Goals as goal

pub returns-then-desk-eq0 : goal.returns-then-desk-eq0
returns-then-desk-eq0 c = sym (bit_first c.args.desk c.args.byte (omega arith))

pub returns : goal.returns
returns c = sym (bit_second c.args.desk c.args.byte (omega arith))
