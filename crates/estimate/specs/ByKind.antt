-- That an estimate, told by kind, is the number of Rust's `as`, which saturates and makes a NaN 0. Definitions only.
use Rattle.std.specs.Prelude.{◌≡◌, List, ℕ, ℤ, Float}
use Rattle.std.specs.Float.Ieee.{to_unsigned}
use Rattle.estimate.specs.Estimate.{estimate_of, estimate_by}

-- the estimate of a spline
abbrev pub EstimateByKind : Type 0
EstimateByKind =
    (c : List ℤ) (quant ytox ytob : Float) (limit manhattan : ℕ)
    → estimate_of c quant ytox ytob limit manhattan ≡ estimate_by (to_unsigned 64) c quant ytox ytob limit manhattan
