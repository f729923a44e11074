-- `fill`: the part that was filled comes back as a run of stores.
use mathlib.Core.Path.{◌≡◌, ap, ◌∙◌}
use Prim.Native.Nat.{ℕ, ◌-◌}
use native.Mathlib.Omega.{arith}
use lib.ListN.{length, take, drop, replicate, length-replicate, length-drop}
use lib.Seq.{length-take-le}
use Rattle.buffers.proofs.Fronts.{put_mid-sets}
use Rattle.owners.proofs.fill.Goals as goal

pub returns : goal.returns
returns c =
    let a = c.args in
    let n : length (take (a.to - a.from) (drop a.from a.owners.now)) ≡ a.to - a.from = length-take-le _ _ (omega (arith, length-drop a.from a.owners.now)) in
    let e = c.fill.ensures.after (λ y h. h) ∙ ap (λ (m : ℕ). replicate m a.k) n in
    put_mid-sets (replicate (a.to - a.from) a.k) a.owners.now a.from a.to e (omega (arith, length-replicate (a.to - a.from) a.k)) c.requires.1
