-- Two values that a format holds are the same if they have the same sign and size: both have one pattern.
use mathlib.Core.Path.{◌≡◌, sym, ap, ◌∙◌}
use mathlib.Core.Bool.{Bool, cond}
use Prim.Native.Nat.{ℕ, ◌+◌, ◌-◌, ◌*◌, ◌/◌, ◌^◌, ◌<◌}
use native.Mathlib.Nat.{mul_right_comm}
use lib.Dec.{T}
use lib.Ieee.{Float, nan, inf, fin, Format, low, up, down, fits, of_bits, to_bits, size, prec, hid, top}
use lib.Ieee.Fits.{down_pos}
use lib.Ieee.Bits.{of_bits-to_bits}
use lib.Ieee.Exact.{HasValue}
use lib.Ieee.Nearest.{div_same}

-- the pattern of a value of sign s and n units
abbrev pub pattern : Format → Bool → ℕ → ℕ
pattern f s n = let k = size n - prec f in cond s (top f) 0 + k * hid f + n / 2 ^ k

units_are : (n d a c l : ℕ) → 0 < d → 0 < c → n * c ≡ a * d → n * l / d ≡ a * l / c
units_are n d a c l D C v = div_same (n * l) d (a * l) c D C (mul_right_comm n l c ∙ ap (λ (z : ℕ). z * l) v ∙ mul_right_comm a d l)

pub bits_are : (f : Format) (x : Float) (s : Bool) (a c : ℕ) → 0 < c → HasValue x s a c → to_bits f x ≡ pattern f s (a * 2 ^ low f / c)
unfolding to_bits
bits_are f nan s a c C v = absurd v
bits_are f (inf t) s a c C v = absurd v
bits_are f (fin t m e) s a c C v =
    ap (λ (z : Bool). pattern f z (m * up e * 2 ^ low f / down e)) v.0
    ∙ ap (λ (z : ℕ). pattern f s z) (units_are (m * up e) (down e) a c (2 ^ low f) (down_pos e) C v.1)

pub value_unique : (f : Format) (x y : Float) (s : Bool) (a c b d : ℕ) → 0 < c → 0 < d → T (fits f x) → T (fits f y) → HasValue x s a c → HasValue y s b d → a * d ≡ b * c → x ≡ y
value_unique f x y s a c b d C D F G v w e =
    sym (of_bits-to_bits f x F)
    ∙ ap (of_bits f) (bits_are f x s a c C v ∙ ap (λ (z : ℕ). pattern f s z) (units_are a c b d (2 ^ low f) C D e) ∙ sym (bits_are f y s b d D w))
    ∙ of_bits-to_bits f y G

-- Assumes nothing.
