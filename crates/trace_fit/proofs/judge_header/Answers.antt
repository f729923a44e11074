-- `judge_header` meets its contract: each number that may be too large, one after the other.
use native.Mathlib.Omega.{arith}
use Rattle.trace_fit.proofs.Fits.{many_splines, many_points, far_starts, far_deltas, far_coefficients, header_fine}
use Rattle.trace_fit.proofs.judge_header.Goals as goal

pub returns-then-s-ge4294967296 : goal.returns-then-s-ge4294967296
returns-then-s-ge4294967296 c = let a = c.args in many_splines a.h a.s a.p c.if-s-ge4294967296.true

pub returns-then-p-ge4294967296 : goal.returns-then-p-ge4294967296
returns-then-p-ge4294967296 c = let a = c.args in many_points a.h a.s a.p c.if-s-ge4294967296.false c.if-p-ge4294967296.true

pub returns-then-h-s-ge4294967296 : goal.returns-then-h-s-ge4294967296
returns-then-h-s-ge4294967296 c = let a = c.args in far_starts a.h a.s a.p c.if-s-ge4294967296.false c.if-p-ge4294967296.false (omega arith) c.if-h-s-ge4294967296.true

pub returns-then-h-s-ge4294967296-2 : goal.returns-then-h-s-ge4294967296-2
returns-then-h-s-ge4294967296-2 c = let a = c.args in far_deltas a.h a.s a.p c.if-s-ge4294967296.false c.if-p-ge4294967296.false (omega arith) c.if-h-s-ge4294967296.false c.if-h-s-ge4294967296-2.true

pub returns-then-h-s-ge4294967296-3 : goal.returns-then-h-s-ge4294967296-3
returns-then-h-s-ge4294967296-3 c = let a = c.args in far_coefficients a.h a.s a.p c.if-s-ge4294967296.false c.if-p-ge4294967296.false (omega arith) c.if-h-s-ge4294967296.false c.if-h-s-ge4294967296-2.false c.if-h-s-ge4294967296-3.true

pub returns : goal.returns
returns c = let a = c.args in header_fine a.h a.s a.p c.if-s-ge4294967296.false c.if-p-ge4294967296.false (omega arith) c.if-h-s-ge4294967296.false c.if-h-s-ge4294967296-2.false c.if-h-s-ge4294967296-3.false
