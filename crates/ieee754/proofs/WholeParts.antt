-- Floor, ceil and R mean what they should: the rule's number is a value of the format, so `round` leaves it, and the rule's quotient bounds the fraction.
use mathlib.Core.Path.{◌≡◌, refl, sym, ap, ◌∙◌, subst}
use mathlib.Core.Bool.{Bool, true, false}
use Prim.Native.Nat.{ℕ, zero, suc, ◌+◌, ◌*◌, ◌/◌, ◌≤◌, ◌<◌}
use native.Mathlib.Nat.{le_of_eq, le_of_lt, lt_of_lt_of_le, one-mul, zero-mul, add-mul, le_of_suc-le-suc, div-le_self}
use native.Mathlib.Omega.{arith}
use lib.IntN.{ℤ, pos, negsuc, neg_ℤ, suc_ℤ, pred_ℤ, ◌+ℤ◌, ◌-ℤ◌, ◌*ℤ◌, +ℤ_one, -ℤ_one}
use lib.Signed.{◌≤ℤ◌, ◌<ℤ◌}
use lib.Dec.{T, le→leb, lt→ltb}
use lib.Ieee.{Float, nan, inf, fin, Format, up, down, fits}
use lib.Ieee.Fits.{down_pos, round-fits, nan-fits, inf-fits}
use Rattle.wholes.specs.Whole.{raised, half, whole_by, downward, upward, away}
use Rattle.wholes.proofs.Wholes.{floor_id, ceil_id}
use Rattle.wholes.proofs.Quotients.{quotient_lo, quotient_hi, raised_reaches, raised_short, raised_le, next, half_lo, half_hi, half_up, value, round_value}
use Rattle.ieee754.specs.Ieee754.{signed, WholeParts}

-- ---- signed numbers
pos_le : {a b : ℕ} → a ≤ b → pos a ≤ℤ pos b
pos_le {a} {b} h = record { le = le→leb a b h }

pos_lt : {a b : ℕ} → a < b → pos a <ℤ pos b
pos_lt {a} {b} h = record { lt = lt→ltb a b h }

neg_le : (a b : ℕ) → a ≤ b → neg_ℤ (pos b) ≤ℤ neg_ℤ (pos a)
neg_le zero zero h = record { le = tt }
neg_le zero (suc b) h = record { le = tt }
neg_le (suc a) zero h = absurd (omega arith)
neg_le (suc a) (suc b) h = record { le = le→leb a b (le_of_suc-le-suc h) }

neg_lt : (a b : ℕ) → a < b → neg_ℤ (pos b) <ℤ neg_ℤ (pos a)
neg_lt zero zero h = absurd (omega arith)
neg_lt zero (suc b) h = record { lt = tt }
neg_lt (suc a) zero h = absurd (omega arith)
neg_lt (suc a) (suc b) h = record { lt = lt→ltb a b (le_of_suc-le-suc h) }

neg_times : (n d : ℕ) → neg_ℤ (pos n) *ℤ pos d ≡ neg_ℤ (pos (n * d))
neg_times zero d = ap pos (zero-mul d) ∙ ap (λ (z : ℕ). neg_ℤ (pos z)) (sym (zero-mul d))
neg_times (suc n) d = refl

neg_next : (n : ℕ) → negsuc n +ℤ pos 1 ≡ neg_ℤ (pos n)
neg_next n = +ℤ_one (negsuc n) ∙ go n
  where
    go : (n : ℕ) → suc_ℤ (negsuc n) ≡ neg_ℤ (pos n)
    go zero = refl
    go (suc n) = refl

neg_before : (n : ℕ) → neg_ℤ (pos n) -ℤ pos 1 ≡ negsuc n
neg_before n = -ℤ_one (neg_ℤ (pos n)) ∙ go n
  where
    go : (n : ℕ) → pred_ℤ (neg_ℤ (pos n)) ≡ negsuc n
    go zero = refl
    go (suc n) = refl

-- ---- floor
down_le : (s : Bool) (n d : ℕ) → 0 < d → downward s n d ≤ n
down_le true n d D = raised_le n d D
down_le false n d D = div-le_self n d

up_le : (s : Bool) (n d : ℕ) → 0 < d → upward s n d ≤ n
up_le true n d D = div-le_self n d
up_le false n d D = raised_le n d D

floor_at_most : (s : Bool) (n d : ℕ) → 0 < d → (signed s (downward s n d) *ℤ pos d) ≤ℤ signed s n
floor_at_most true n d D = subst (λ (z : ℤ). z ≤ℤ neg_ℤ (pos n)) (sym (neg_times (raised n d) d)) (neg_le n (raised n d * d) (raised_reaches n d D))
floor_at_most false n d D = pos_le (quotient_lo n d D)

above_minus : (n d r : ℕ) → 0 < d → n ≤ r * d → r * d < n + d → neg_ℤ (pos n) <ℤ ((neg_ℤ (pos r) +ℤ pos 1) *ℤ pos d)
above_minus zero d zero D h g = pos_lt (go D)
  where
    go : 0 < d → 0 < (0 + 1) * d
    go h = omega arith
above_minus (suc n) d zero D h g = absurd (omega arith)
above_minus n d (suc r) D h g = subst (λ (z : ℤ). neg_ℤ (pos n) <ℤ (z *ℤ pos d)) (sym (neg_next r)) (subst (λ (z : ℤ). neg_ℤ (pos n) <ℤ z) (sym (neg_times r d)) (neg_lt (r * d) n (go (r * d) (suc r * d) (next2) g)))
  where
    next2 : suc r * d ≡ r * d + d
    next2 = omega arith

    go : (p t : ℕ) → t ≡ p + d → t < n + d → p < n
    go p t e l = omega arith

floor_within : (s : Bool) (n d : ℕ) → 0 < d → signed s n <ℤ ((signed s (downward s n d) +ℤ pos 1) *ℤ pos d)
floor_within true n d D = above_minus n d (raised n d) D (raised_reaches n d D) (raised_short n d D)
floor_within false n d D = pos_lt (lt_of_lt_of_le (quotient_hi n d D) (le_of_eq (sym (next n d D (n / d)))))

-- ---- ceil
ceil_at_least : (s : Bool) (n d : ℕ) → 0 < d → signed s n ≤ℤ (signed s (upward s n d) *ℤ pos d)
ceil_at_least true n d D = subst (λ (z : ℤ). neg_ℤ (pos n) ≤ℤ z) (sym (neg_times (n / d) d)) (neg_le (n / d * d) n (quotient_lo n d D))
ceil_at_least false n d D = pos_le (raised_reaches n d D)

below_plus : (n d r : ℕ) → 0 < d → r * d < n + d → ((pos r -ℤ pos 1) *ℤ pos d) <ℤ pos n
below_plus n (suc d) zero D g = subst (λ (z : ℕ). neg_ℤ (pos z) <ℤ pos n) (sym (one-mul (suc d))) (record { lt = tt })
below_plus n zero zero D g = absurd (omega arith)
below_plus n d (suc r) D g = subst (λ (z : ℤ). (z *ℤ pos d) <ℤ pos n) (sym (-ℤ_one (pos (suc r)))) (pos_lt (go (r * d) (suc r * d) next2 g))
  where
    next2 : suc r * d ≡ r * d + d
    next2 = omega arith

    go : (p t : ℕ) → t ≡ p + d → t < n + d → p < n
    go p t e l = omega arith

ceil_within : (s : Bool) (n d : ℕ) → 0 < d → ((signed s (upward s n d) -ℤ pos 1) *ℤ pos d) <ℤ signed s n
ceil_within true n d D = subst (λ (z : ℤ). (z *ℤ pos d) <ℤ neg_ℤ (pos n)) (sym (neg_before (n / d))) (subst (λ (z : ℤ). z <ℤ neg_ℤ (pos n)) (sym (neg_times (suc (n / d)) d)) (neg_lt n (suc (n / d) * d) (lt_of_lt_of_le (quotient_hi n d D) (le_of_eq next2))))
  where
    next2 : n / d * d + d ≡ suc (n / d) * d
    next2 = omega arith
ceil_within false n d D = below_plus n d (raised n d) D (raised_short n d D)

-- ---- the theorem
held : (f : Format) (g : Bool → ℕ → ℕ → ℕ) (x : Float) → T (fits f (whole_by f g x))
unfolding whole_by
held f g nan = nan-fits f
held f g (inf s) = inf-fits f s
held f g (fin s m e) = round-fits f s (g s (m * up e) (down e)) 1

whole_inf : (f : Format) (g : Bool → ℕ → ℕ → ℕ) (s : Bool) → whole_by f g (inf s) ≡ inf s
unfolding whole_by
whole_inf f g s = refl

whole_nan : (f : Format) (g : Bool → ℕ → ℕ → ℕ) → whole_by f g nan ≡ nan
unfolding whole_by
whole_nan f g = refl

pub whole_parts : (f : Format) → WholeParts f
whole_parts f = record {
  floor = λ s m e F. record {
    size = downward s (m * up e) (down e);
    is = value f downward s m e (floor_id s) (down_le s) F;
    at_most = floor_at_most s (m * up e) (down e) (down_pos e);
    within_one = floor_within s (m * up e) (down e) (down_pos e);
  };
  ceil = λ s m e F. record {
    size = upward s (m * up e) (down e);
    is = value f upward s m e (ceil_id s) (up_le s) F;
    at_least = ceil_at_least s (m * up e) (down e) (down_pos e);
    within_one = ceil_within s (m * up e) (down e) (down_pos e);
  };
  round = λ s m e F. record {
    size = half (m * up e) (down e);
    is = round_value f s m e F;
    x_within = le_of_lt (lt_of_lt_of_le (half_hi (m * up e) (down e) (down_pos e)) (le_of_eq (sym (odd (half (m * up e) (down e)) (down e)))));
    r_within = half_lo (m * up e) (down e) (down_pos e);
    away = half_up (m * up e) (down e) (down_pos e);
  };
  held = λ x. (held f downward x, held f upward x, held f away x);
  infinity = λ s. (whole_inf f downward s, whole_inf f upward s, whole_inf f away s);
  no_number = (whole_nan f downward, whole_nan f upward, whole_nan f away);
}
  where
    odd : (h d : ℕ) → (2 * h + 1) * d ≡ 2 * h * d + d
    odd h d = add-mul (2 * h) 1 d ∙ ap (λ (z : ℕ). 2 * h * d + z) (one-mul d)

-- Assumes nothing.
