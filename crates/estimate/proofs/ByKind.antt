-- An estimate, told by kind, is the number of Rust's `as`.
use mathlib.Core.Path.{ap, fun_ext}
use Prim.Native.Nat.{ℕ}
use lib.Ieee.{Float}
use Rattle.kinds.proofs.ByKind.{saturated_u64_lem}
use Rattle.estimate.specs.Estimate.{estimate_by}
use Rattle.estimate.specs.ByKind.{EstimateByKind}

pub estimate_by_kind : EstimateByKind
estimate_by_kind c quant ytox ytob limit manhattan = ap (λ (whole : Float → ℕ). estimate_by whole c quant ytox ytob limit manhattan) (fun_ext saturated_u64_lem)

-- Assumes nothing.
