-- A start, told by kind, is the number of Rust's `as`.
use mathlib.Core.Path.{◌≡◌, refl, ap, ◌∙◌}
use mathlib.Core.Bool.{Bool, true, false, cond, true≢false}
use Prim.Native.Nat.{ℕ, zero, suc, ◌+◌, ◌-◌, ◌*◌, ◌/◌, ◌^◌}
use lib.Dec.{ltb}
use lib.IntN.{ℤ, pos, neg_ℤ}
use lib.Signed.{lt_z}
use lib.Ieee.{Float, nan, inf, fin, Format, binary32, prec, emax, low, up, down, is_nan, round, units, odd, to_signed}
use lib.Ieee.Fits.{round_is}
use Rattle.wholes.specs.Whole.{half, whole_by}
use Rattle.kinds.specs.Kind.{kind_by, cut_i32, saturated_i32}
use Rattle.kinds.specs.declared.Kind.TheVariants as K
use Rattle.kinds.proofs.ByKind.{saturated_i32_lem}
use Rattle.control_points.specs.ControlPoints.{coordinate_by, rounded_of}
use Rattle.control_points.specs.ByKind.{taken, StartByKind}

-- a number that is held to the range of an i32 is no coordinate where that changed it
by_tests : (a b : Bool) (z : ℤ) → coordinate_by (cond a K.Above (cond b K.Below (K.Exact z))) ≡ taken (saturated_i32 (cond a K.Above (cond b K.Below (K.Exact z))))
by_tests true b z = refl
by_tests false true z = refl
by_tests false false z = refl

coordinate : (r : Float) → is_nan r ≡ false → coordinate_by (cut_i32 r) ≡ taken (saturated_i32 (cut_i32 r))
unfolding kind_by is_nan
coordinate nan h = absurd (true≢false h)
coordinate (inf true) h = refl
coordinate (inf false) h = refl
coordinate (fin s m e) h = let z = cond s (neg_ℤ (pos (m * up e / down e))) (pos (m * up e / down e)) in by_tests (lt_z (pos (2 ^ 31 - 1)) z) (lt_z z (neg_ℤ (pos (2 ^ 31)))) z

-- what is rounded to the format is a number or an infinity
odd_number : (d : ℕ) (s : Bool) (q k l : ℕ) → is_nan (odd d s q k l) ≡ false
unfolding is_nan odd
odd_number d s zero k l = refl
odd_number d s (suc q) k l = refl

units_number : (f : Format) (s : Bool) (q k : ℕ) → is_nan (units f s q k) ≡ false
unfolding is_nan units
units_number f s q k = go (ltb (q * 2 ^ k) (2 ^ (low f + suc (emax f))))
  where
    go : (b : Bool) → is_nan (cond b (odd (suc (prec f)) s q k (low f)) (inf s)) ≡ false
    go true = odd_number (suc (prec f)) s q k (low f)
    go false = refl

round_number : (f : Format) (s : Bool) (n d : ℕ) → is_nan (round f s n d) ≡ false
round_number f s n d = ap is_nan (round_is f s n d) ∙ units_number f s _ _

pub start_by_kind : StartByKind
unfolding rounded_of whole_by kind_by is_nan to_signed
start_by_kind nan = refl
start_by_kind (inf true) = refl
start_by_kind (inf false) = refl
start_by_kind (fin s m e) = let r = round binary32 s (half (m * up e) (down e)) 1 in coordinate r (round_number binary32 s (half (m * up e) (down e)) 1) ∙ ap taken (saturated_i32_lem r)

-- Assumes nothing.
