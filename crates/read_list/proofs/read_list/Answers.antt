-- `read_list::read_list` meets its contract: the checks at the count, then the starts, and then what follows them.
use mathlib.Core.Path.{refl}
use Prim.Native.Nat.{◌+◌, ◌-◌, ◌*◌}
use native.Mathlib.Omega.{arith}
use lib.ListN.{length, get_or, take, drop}
use Rattle.std.specs.Prelude.{Err}
use Rattle.codes.specs.declared.Code.{Code}
use Rattle.codes.proofs.Refusals.{passed_on}
use Rattle.list.proofs.Buffers.{part_tail}
use Rattle.read_list.specs.Rest.{rooms_of}
use Rattle.read_list.proofs.Whole.{list_stop, read_short, read_splines, read_room, no_counts, no_starts, no_coefficients, read_starts_stop, read_long, read_after}
use Rattle.read_list.proofs.read_list.Goals as goal
use Rattle.read_list.proofs.read_list.Goals.{then-counts-n-via-then-counts-n, then-counts-n-via-else-counts-n+then-starts-n, then-counts-n-via-else-counts-n+else-starts-n+then-coefficients-n}

pub returns-in_default : goal.returns-in_default
returns-in_default c =
    let a = c.args in
    list_stop _ Code.Short 0 _ _ _ _ _ _ _ _ (read_short a.limit (rooms_of a.counts.now a.starts.now a.deltas.now a.coefficients.now) a.list.now c.in_default.len_below)

pub returns-then-limit-v : goal.returns-then-limit-v
returns-then-limit-v c =
    let a = c.args in
    list_stop _ Code.Splines 0 _ _ _ _ _ _ _ _ (read_splines a.limit (rooms_of a.counts.now a.starts.now a.deltas.now a.coefficients.now) a.list.now c.in-len1-up.len_at_least c.if-limit-v.true)

pub returns-then-counts-n : goal.returns-then-counts-n
returns-then-counts-n c =
    let a = c.args in
    let v = get_or a.list.now 0 0 in
    let rooms = rooms_of a.counts.now a.starts.now a.deltas.now a.coefficients.now in
    list_stop _ Code.Room 0 _ _ _ _ _ _ _ _ (read_room a.limit rooms a.list.now c.in-len1-up.len_at_least c.if-limit-v.false
    (elim c.then-counts-n.branch [
      | then-counts-n-via-then-counts-n w ↦ no_counts a.limit rooms v w.if-counts-n.true
      | then-counts-n-via-else-counts-n+then-starts-n w ↦ no_starts a.limit rooms v w.if-counts-n.false w.if-starts-n.true
      | then-counts-n-via-else-counts-n+else-starts-n+then-coefficients-n w ↦ no_coefficients a.limit rooms v w.if-counts-n.false w.if-starts-n.false w.if-coefficients-n.true
    ]))

pub slice_bounds-read_rest-count : goal.slice_bounds-read_rest-count
slice_bounds-read_rest-count c =
    let a = c.args in
    let v = get_or a.list.now 0 0 in
    let rooms = rooms_of a.counts.now a.starts.now a.deltas.now a.coefficients.now in
    let rest = take (length a.list.now - 1) (drop 1 a.list.now) in
    read_long a.limit rooms a.list.now rest v c.in-len1-up.len_at_least refl c.if-limit-v.false c.if-counts-n.false c.if-starts-n.false c.if-coefficients-n.false (part_tail 1 a.list.now) a.starts.now c.read_starts.new.out c.in_ok-read_starts.ensures

pub slice_bounds-read_rest-start : goal.slice_bounds-read_rest-start
slice_bounds-read_rest-start c =
    let a = c.args in
    let v = get_or a.list.now 0 0 in
    let rooms = rooms_of a.counts.now a.starts.now a.deltas.now a.coefficients.now in
    let rest = take (length a.list.now - 1) (drop 1 a.list.now) in
    omega (arith, read_long a.limit rooms a.list.now rest v c.in-len1-up.len_at_least refl c.if-limit-v.false c.if-counts-n.false c.if-starts-n.false c.if-coefficients-n.false (part_tail 1 a.list.now) a.starts.now c.read_starts.new.out c.in_ok-read_starts.ensures)

pub returns-in_err-read_starts : goal.returns-in_err-read_starts
returns-in_err-read_starts c =
    let a = c.args in
    let v = get_or a.list.now 0 0 in
    let rooms = rooms_of a.counts.now a.starts.now a.deltas.now a.coefficients.now in
    let rest = take (length a.list.now - 1) (drop 1 a.list.now) in
    let e = c.in_err-read_starts.field-0.0 in
    rw (passed_on c.from_residual.result e (Err e) c.from_residual.ensures.1 refl)
    (list_stop _ e.0 e.1 _ _ _ _ _ _ _ _ (read_starts_stop a.limit rooms a.list.now rest v c.in-len1-up.len_at_least refl c.if-limit-v.false c.if-counts-n.false c.if-starts-n.false c.if-coefficients-n.false (part_tail 1 a.list.now) a.starts.now c.read_starts.new.out e.0 e.1 c.in_err-read_starts.ensures))

pub returns : goal.returns
returns c =
    let a = c.args in
    let v = get_or a.list.now 0 0 in
    let rooms = rooms_of a.counts.now a.starts.now a.deltas.now a.coefficients.now in
    let rest = take (length a.list.now - 1) (drop 1 a.list.now) in
    let t = c.read_rest in
    read_after a.limit rooms a.list.now rest v c.in-len1-up.len_at_least refl c.if-limit-v.false c.if-counts-n.false c.if-starts-n.false c.if-coefficients-n.false (part_tail 1 a.list.now) a.starts.now c.read_starts.new.out c.in_ok-read_starts.ensures (take (length rest - 2 * (v + 1)) (drop (2 * (v + 1)) rest)) (part_tail (2 * (v + 1)) rest) t.result a.counts.now t.new.counts a.deltas.now t.new.deltas a.coefficients.now t.new.coefficients t.ensures
