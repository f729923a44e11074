use mathlib.Core.Path.{◌≡◌, refl}
use Prim.Native.Nat.{◌+◌, ◌-◌, ◌*◌}
use native.Mathlib.Omega.{arith}
use Rattle.buffers.proofs.Filling.{filled_none}
use Rattle.control_points.proofs.Walks.{walk_more}
use Rattle.curve.proofs.Turning.{first_under, next_under, path_begin, filled_turn, filled_last}
use Rattle.curve.proofs.put_path.Goals as goal

pub first_turn-t-requires : goal.first_turn-t-requires
first_turn-t-requires c = (c.requires.0, omega arith)

pub loop-k-init : goal.loop-k-init
loop-k-init c =
    (refl, rw c.first_turn-t.ensures (first_under _ _ c.requires.0 (omega arith)), filled_none _ refl)

pub next_stand-requires : goal.next_stand-requires
next_stand-requires c = (c.loop-k.invariant.1.walk, omega arith)

pub next-next-requires : goal.next-next-requires
next-next-requires c =
    let l = c.loop-k in
    let a = c.args in
    rw c.next_stand.ensures (walk_more l.t.stand a.deltas.now (l.k + 1) (omega arith) l.invariant.1.walk).point

pub loop-k-preserved : goal.loop-k-preserved
loop-k-preserved c =
    let l = c.loop-k in
    let k = l.k + 1 in
    let m : 32 * k ≡ 32 * l.k + 32 = omega arith in (
      omega (arith, c.put_window.auto.out),
      rw (c.next-next.ensures, c.next_stand.ensures) (next_under l.t _ k l.invariant.1 (omega arith)),
      rw (c.put_window.ensures, c.window.ensures, c.next-next.ensures, c.next_stand.ensures, m)
          (filled_turn l.t _ k l.invariant.1 l.out l.invariant.2 (omega arith) (omega arith)),
    )

pub returns : goal.returns
returns c =
    let l = c.loop-k in
    let a = c.args in
    let last : a.m - 1 ≡ l.k = omega arith in
    let end : 32 * a.m ≡ 32 * l.k + 32 = omega arith in
    rw (
      path_begin a.start a.deltas.now (omega arith),
      ← c.first_turn-t.ensures,
      c.put.ensures,
      c.put_window-2.ensures,
      c.last.ensures,
      last,
      end,
    )
    (filled_last l.t _ (l.k + 1) l.invariant.1 l.out l.invariant.2 (omega arith) (omega arith))
