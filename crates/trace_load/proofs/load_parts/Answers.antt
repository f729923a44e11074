-- `load_parts` meets its contract: each part is a slice of the bytes, loaded into the front of its buffer.
use mathlib.Core.Path.{◌≡◌}
use mathlib.Core.Bool.{false}
use Prim.Native.Nat.{ℕ, ◌+◌, ◌-◌, ◌*◌}
use native.Mathlib.Omega.{arith}
use lib.ListN.{length, take, drop, get_or}
use lib.Seq.{length-take-le}
use Rattle.std.proofs.Common.{rules}
use Rattle.little.specs.Little.{numbers_in, signed_in}
use Rattle.trace.specs.Trace.{part}
use Rattle.trace.specs.Read.{misplaced}
use Rattle.trace.proofs.Checks.{numbers_part}
use Rattle.trace_load.specs.Steps.{start_in}
use Rattle.trace_load.proofs.Loads.{front_loaded, map_same, placed_at}
use Rattle.trace_load.proofs.load_parts.Goals as goal

pub load_part-requires-2-clause-callable : goal.load_part-requires-2-clause-callable
load_part-requires-2-clause-callable c = λ i h.
    let a = c.args in
    let g = c.requires in
    let slice = take (4 * (a.h + 3 * a.s) - 4 * (a.h + a.s)) (drop (4 * (a.h + a.s)) a.bytes.now) in
    let starts = numbers_part (a.h + a.s) (2 * a.s) (4 * (a.h + 3 * a.s) - 4 * (a.h + a.s)) a.bytes.now (omega arith) in
    let k = length-take-le (2 * a.s) a.starts.now g.starts in
    let p : misplaced (get_or (numbers_in slice) i 0) ≡ false = placed_at a.bytes.now slice (a.h + a.s) (2 * a.s) i (omega (arith, g.whole)) (omega (arith, h, k)) starts g.placed in
    search (rules, p)

pub returns : goal.returns
returns c =
    let a = c.args in
    let b = a.bytes.now in
    let g = c.requires in
    let counts = numbers_part a.h a.s (4 * (a.h + a.s) - 4 * a.h) b (omega arith) in
    let starts = numbers_part (a.h + a.s) (2 * a.s) (4 * (a.h + 3 * a.s) - 4 * (a.h + a.s)) b (omega arith) in
    let deltas = numbers_part (a.h + 3 * a.s) (2 * a.p) (4 * (a.h + (3 * a.s + 2 * a.p)) - 4 * (a.h + 3 * a.s)) b (omega arith) in
    let rest = numbers_part (a.h + (3 * a.s + 2 * a.p)) (128 * a.s) (length b - 4 * (a.h + (3 * a.s + 2 * a.p))) b (omega (arith, g.whole)) in
    record {
      counts = rw (map_same (part a.h a.s (numbers_in b))) at (front_loaded (λ (u : ℕ). u) b _ a.h a.s a.counts.now _ (omega (arith, g.whole)) counts (c.load_part.ensures (λ (u : ℕ). u) (λ u r p. search rules)));
      starts = front_loaded start_in b _ (a.h + a.s) (2 * a.s) a.starts.now _ (omega (arith, g.whole)) starts (c.load_part-2.ensures start_in (λ u r p. search rules));
      deltas = front_loaded signed_in b _ (a.h + 3 * a.s) (2 * a.p) a.deltas.now _ (omega (arith, g.whole)) deltas (c.load_part-3.ensures signed_in (λ u r p. search rules));
      coefficients = front_loaded signed_in b _ (a.h + (3 * a.s + 2 * a.p)) (128 * a.s) a.coefficients.now _ (omega (arith, g.whole)) rest (c.load_part-4.ensures signed_in (λ u r p. search rules));
    }
