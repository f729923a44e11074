-- Two equal answers of reading have one count of splines and of points, and one adjustment.
use mathlib.Core.Path.{◌≡◌, ap}
use Prim.Native.Nat.{ℕ}
use lib.IntN.{ℤ}
use Rattle.read_list.specs.declared.Read.{Read}
use Rattle.read_list.specs.Answer.{done}

pub same_done : {s t n m : ℕ} {a b : ℤ} → done s n a ≡ done t m b → (s ≡ t) × (n ≡ m) × (a ≡ b)
same_done {s} {t} {n} {m} {a} {b} e =
    let h : ◌≡◌ {A = Read} (record { splines = s; points = n; adjustment = a }) (record { splines = t; points = m; adjustment = b }) = cc in
    (ap (λ (r : Read). r.splines) h, ap (λ (r : Read). r.points) h, ap (λ (r : Read). r.adjustment) h)

-- Assumes nothing.
