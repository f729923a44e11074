-- The conversions mean what they should: to floats by the nearest value, to whole numbers by the quotient without its remainder.
use mathlib.Core.Path.{◌≡◌, refl, sym, ap, ◌∙◌, subst}
use mathlib.Core.Bool.{Bool, true, false, not, cond}
use Prim.Native.Nat.{ℕ, zero, suc, ◌*◌, ◌/◌, ◌^◌, ◌≤◌, ◌<◌, zero-le}
use native.Mathlib.Nat.{lt_of_le_of_lt, zero-lt-suc, div-eq_of_lt-le}
use native.Mathlib.Omega.{arith}
use lib.IntN.{ℤ, pos, negsuc, neg_ℤ, nat_abs}
use lib.Signed.{lt_z}
use lib.Dec.{T, leb, ltb, eqb, lt→ltb, le→leb, lit<, not_T, eqb→eq}
use lib.Arith.{lt→nleb, le→nltb}
use lib.Ieee.{Float, nan, inf, fin, Format, binary32, binary64, up, down, round, of_int, to_signed, to_unsigned}
use lib.Ieee.Bits.{is_false}
use lib.Ieee.Fits.{down_pos}
use Rattle.to_f32.specs.Narrow.{narrow}
use Rattle.kinds.specs.Kind.{cut_i64, cut_i32, cut_u64, saturated_i64, saturated_i32, saturated_u64}
use Rattle.kinds.specs.declared.Kind.{Kind}
use Rattle.kinds.specs.declared.Kind.TheVariants.{Exact, NotNumber, Below, Above}
use Rattle.kinds.proofs.OneKind.{signed_kind, unsigned_kind, signed_one, unsigned_one}
use Rattle.kinds.proofs.ByKind.{saturated_i64_lem, saturated_i32_lem, saturated_u64_lem}
use Rattle.ieee754.specs.Ieee754.{Cut, ToSigned, ToUnsigned, Conversions, NearestFraction, too_large}
use Rattle.ieee754.proofs.NearestEven.{round_nearest, round_infinite}

-- ---- the quotient
cut_is : (m : ℕ) (e : ℤ) (n : ℕ) → Cut m e n → m * up e / down e ≡ n
cut_is m e n c = div-eq_of_lt-le (down e) c.from c.to

yes : {X : Type 0} (b : Bool) (x y : X) → T b → cond b x y ≡ x
yes true x y t = refl
yes false x y t = absurd t

no : {X : Type 0} (b : Bool) (x y : X) → T (not b) → cond b x y ≡ y
no true x y t = absurd t
no false x y t = refl

module _ {K : Type 0} (exact : ℤ → K) (notNumber below above : K) (h : ℕ) where
  signed_kind_lem : ToSigned exact notNumber below above h (signed_kind exact notNumber below above h)
  unfolding signed_kind
  signed_kind_lem = record {
    plus = λ m e n c l. ap (λ (z : ℕ). cond (ltb z (2 ^ h)) (exact (pos z)) above) (cut_is m e n c) ∙ yes (ltb n (2 ^ h)) (exact (pos n)) above (lt→ltb n (2 ^ h) l);
    minus = λ m e n c l. ap (λ (z : ℕ). cond (leb z (2 ^ h)) (exact (neg_ℤ (pos z))) below) (cut_is m e n c) ∙ yes (leb n (2 ^ h)) (exact (neg_ℤ (pos n))) below (le→leb n (2 ^ h) l);
    over = λ m e n c l. ap (λ (z : ℕ). cond (ltb z (2 ^ h)) (exact (pos z)) above) (cut_is m e n c) ∙ no (ltb n (2 ^ h)) (exact (pos n)) above (le→nltb n (2 ^ h) l);
    under = λ m e n c l. ap (λ (z : ℕ). cond (leb z (2 ^ h)) (exact (neg_ℤ (pos z))) below) (cut_is m e n c) ∙ no (leb n (2 ^ h)) (exact (neg_ℤ (pos n))) below (lt→nleb n (2 ^ h) l);
    infinity = refl;
    minus_infinity = refl;
    no_number = refl;
  }

module _ {K : Type 0} (exact : ℕ → K) (notNumber below above : K) (w : ℕ) where
  some : (n : ℕ) → 0 < n → T (not (eqb n 0))
  some zero l = absurd (omega arith)
  some (suc n) l = not_T (eqb (suc n) 0) (λ t. go (eqb→eq (suc n) 0 t))
    where
      go : suc n ≡ 0 → ⊥
      go e = omega arith

  unsigned_kind_lem : ToUnsigned exact notNumber below above w (unsigned_kind exact notNumber below above w)
  unfolding unsigned_kind
  unsigned_kind_lem = record {
    plus = λ m e n c l. ap (λ (z : ℕ). cond (ltb z (2 ^ w)) (exact z) above) (cut_is m e n c) ∙ yes (ltb n (2 ^ w)) (exact n) above (lt→ltb n (2 ^ w) l);
    minus = λ m e c. ap (λ (z : ℕ). cond (eqb z 0) (exact 0) below) (cut_is m e 0 c);
    over = λ m e n c l. ap (λ (z : ℕ). cond (ltb z (2 ^ w)) (exact z) above) (cut_is m e n c) ∙ no (ltb n (2 ^ w)) (exact n) above (le→nltb n (2 ^ w) l);
    under = λ m e n c l. ap (λ (z : ℕ). cond (eqb z 0) (exact 0) below) (cut_is m e n c) ∙ no (eqb n 0) (exact 0) below (some n l);
    infinity = refl;
    minus_infinity = refl;
    no_number = refl;
  }

-- ---- what is made of the kind
module _ {K L : Type 0} (g : K → L) (t : Float → L) where
  signed_told : (exact : ℤ → K) (notNumber below above : K) (h : ℕ) (k : Float → K) → ((x : Float) → g (k x) ≡ t x) → ToSigned exact notNumber below above h k
      → ToSigned (λ (z : ℤ). g (exact z)) (g notNumber) (g below) (g above) h t
  signed_told exact notNumber below above h k e s = record {
    plus = λ m d n c l. sym (e (fin false m d)) ∙ ap g (s.plus m d n c l);
    minus = λ m d n c l. sym (e (fin true m d)) ∙ ap g (s.minus m d n c l);
    over = λ m d n c l. sym (e (fin false m d)) ∙ ap g (s.over m d n c l);
    under = λ m d n c l. sym (e (fin true m d)) ∙ ap g (s.under m d n c l);
    infinity = sym (e (inf false)) ∙ ap g s.infinity;
    minus_infinity = sym (e (inf true)) ∙ ap g s.minus_infinity;
    no_number = sym (e nan) ∙ ap g s.no_number;
  }

  unsigned_told : (exact : ℕ → K) (notNumber below above : K) (w : ℕ) (k : Float → K) → ((x : Float) → g (k x) ≡ t x) → ToUnsigned exact notNumber below above w k
      → ToUnsigned (λ (n : ℕ). g (exact n)) (g notNumber) (g below) (g above) w t
  unsigned_told exact notNumber below above w k e s = record {
    plus = λ m d n c l. sym (e (fin false m d)) ∙ ap g (s.plus m d n c l);
    minus = λ m d c. sym (e (fin true m d)) ∙ ap g (s.minus m d c);
    over = λ m d n c l. sym (e (fin false m d)) ∙ ap g (s.over m d n c l);
    under = λ m d n c l. sym (e (fin true m d)) ∙ ap g (s.under m d n c l);
    infinity = sym (e (inf false)) ∙ ap g s.infinity;
    minus_infinity = sym (e (inf true)) ∙ ap g s.minus_infinity;
    no_number = sym (e nan) ∙ ap g s.no_number;
  }

kind_i64 : ToSigned Exact NotNumber Below Above 63 cut_i64
kind_i64 = signed_told (λ (k : Kind ℤ). k) cut_i64 Exact NotNumber Below Above 63 (signed_kind Exact NotNumber Below Above 63) (signed_one Exact NotNumber Below Above 63) (signed_kind_lem Exact NotNumber Below Above 63)

kind_i32 : ToSigned Exact NotNumber Below Above 31 cut_i32
kind_i32 = signed_told (λ (k : Kind ℤ). k) cut_i32 Exact NotNumber Below Above 31 (signed_kind Exact NotNumber Below Above 31) (signed_one Exact NotNumber Below Above 31) (signed_kind_lem Exact NotNumber Below Above 31)

kind_u64 : ToUnsigned Exact NotNumber Below Above 64 cut_u64
kind_u64 = unsigned_told (λ (k : Kind ℕ). k) cut_u64 Exact NotNumber Below Above 64 (unsigned_kind Exact NotNumber Below Above 64) (unsigned_one Exact NotNumber Below Above 64) (unsigned_kind_lem Exact NotNumber Below Above 64)

-- ---- to floats
in_64 : (f : Format) (n : ℕ) → n ≤ 2 ^ 64 → n < too_large f * 1
in_64 f n h = lt_of_le_of_lt h (go f)
  where
    go : (g : Format) → 2 ^ 64 < too_large g * 1
    go binary32 = lit< tt
    go binary64 = lit< tt

nearest_whole : (f : Format) (z : ℤ) → nat_abs z ≤ 2 ^ 64 → NearestFraction f (lt_z z (pos 0)) (nat_abs z) 1 (of_int f z)
unfolding of_int
nearest_whole f (pos n) h = subst (λ (b : Bool). NearestFraction f b n 1 (round f false n 1)) (sym (not_under n)) (round_nearest f false n 1 (zero-lt-suc 0) (in_64 f n h))
  where
    not_under : (n : ℕ) → ltb n 0 ≡ false
    not_under n = is_false (ltb n 0) (le→nltb n 0 zero-le)
nearest_whole f (negsuc n) h = round_nearest f true (suc n) 1 (zero-lt-suc 0) (in_64 f (suc n) h)

pub conversions : Conversions
unfolding narrow
conversions = record {
  whole = nearest_whole;
  narrowed = λ f s m e l. round_nearest f s (m * up e) (down e) (down_pos e) l;
  narrowed_large = λ f s m e l. round_infinite f s (m * up e) (down e) (down_pos e) l;
  narrowed_infinity = λ f s. refl;
  narrowed_no_number = λ f. refl;
  as_i64_lem = signed_told saturated_i64 (to_signed 63) Exact NotNumber Below Above 63 cut_i64 saturated_i64_lem kind_i64;
  as_i32 = signed_told saturated_i32 (to_signed 31) Exact NotNumber Below Above 31 cut_i32 saturated_i32_lem kind_i32;
  as_u64 = unsigned_told saturated_u64 (to_unsigned 64) Exact NotNumber Below Above 64 cut_u64 saturated_u64_lem kind_u64;
  kind_i64 = kind_i64;
  kind_i32 = kind_i32;
  kind_u64 = kind_u64;
}

-- Assumes nothing.
