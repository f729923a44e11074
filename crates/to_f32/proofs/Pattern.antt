-- What the pattern of a value above zero says of its digits, over the format, and the patterns of powers of two. Both go by the pattern's fields.
use mathlib.Core.Path.{◌≡◌, refl, sym, ap, ◌∙◌, subst}
use mathlib.Core.Bool.{Bool, true, false, not, cond}
use Prim.Native.Nat.{ℕ, zero, suc, ◌+◌, ◌-◌, ◌*◌, ◌/◌, ◌%◌, ◌^◌, ◌≤◌, ◌<◌}
use native.Mathlib.Nat.{zero-lt-suc, lt_of_lt_of_le, le_of_eq, mul-one, one-mul, mul_comm, mod-lt, mod-eq_of_lt, div-eq_of_lt, mul-div_cancel, mul-mod_left, div-lt_iff_lt-mul, add_comm, pow-suc, lt_irrefl}
use native.Mathlib.Omega.{arith}
use lib.Dec.{T, leb, eqb, eqb→eq, eqb_refl, nleb→lt, not_T, T_not, lit≤}
use lib.Arith.{lt→nleb}
use lib.Pow.{pow-add, pow_pos, pow-lt}
use lib.Ieee.{Float, nan, inf, fin, Format, binary32, binary64, prec, emax, low, hid, ones, top, odd, fits, is_nan, of_fields, of_bits, to_bits, nan_bits}
use lib.Ieee.Bits.{is_false, cond_no, of_bits-to_bits, nan_bits_is}
use lib.Ieee.Exact.{HasValue, odd_sign}
use lib.Ieee.Fits.{two, two-le_pos}
use lib.Ieee.Positive.{positive, value_pos, first_pos}
use Rattle.to_f32.specs.Digits.{Split, Power}
use Rattle.numbers.proofs.Zero.{no}

sign_of : (x : Float) (s : Bool) (a c : ℕ) → T (positive x) → HasValue x s a c → s ≡ false
sign_of nan s a c p h = absurd p
sign_of (inf t) s a c p h = absurd p
sign_of (fin true m e) s a c p h = absurd p
sign_of (fin false m e) s a c p h = sym h.0

at_top : (a b s : Bool) (v : Float) → T (positive (cond a (cond b (inf s) nan) v)) → T (not a)
at_top true true s v p = absurd p
at_top true false s v p = absurd p
at_top false b s v p = tt

abbrev pub digits_of : Format → ℕ → ℕ → ℕ
digits_of f zero t = t
digits_of f (suc j) t = hid f + t

module _ (f : Format) where
  abbrev Read : Bool → ℕ → ℕ → Float → Type 0
  Read s x t v = (s ≡ false) × HasValue v s (digits_of f x t * 2 ^ (x - 1)) (2 ^ low f) × (x ≡ ones f → ⊥)

  never : (g : Format) → ◌≡◌ {A = ℕ} 0 (ones g) → ⊥
  never binary32 e = omega arith
  never binary64 e = omega arith

  read : (s : Bool) (x t : ℕ) → T (positive (of_fields f s x t)) → Read s x t (of_fields f s x t)
  unfolding of_fields
  read s zero t p =
      let v = odd_sign (prec f) s t 0 (low f) in
      (sign_of (odd (prec f) s t 0 (low f)) s (t * 2 ^ 0) (2 ^ low f) p v, v, never f)
  read s (suc j) t p =
      let w = odd (prec f) s (hid f + t) j (low f) in
      let a : T (not (eqb (suc j) (ones f))) = at_top (eqb (suc j) (ones f)) (eqb t 0) s w p in
      let is : cond (eqb (suc j) (ones f)) (cond (eqb t 0) (inf s) nan) w ≡ w = cond_no (eqb (suc j) (ones f)) _ w a in
      let v : HasValue w s ((hid f + t) * 2 ^ j) (2 ^ low f) = odd_sign (prec f) s (hid f + t) j (low f) in (
        sign_of w s ((hid f + t) * 2 ^ j) (2 ^ low f) (subst (λ (k : Float). T (positive k)) is p) v,
        subst (λ (k : Float). HasValue k s ((hid f + t) * 2 ^ (suc j - 1)) (2 ^ low f)) (sym is) (subst (λ (i : ℕ). HasValue w s ((hid f + t) * 2 ^ i) (2 ^ low f)) (go j) v),
        λ (e : suc j ≡ ones f). T_not (eqb (suc j) (ones f)) a (subst (λ (k : ℕ). T (eqb (suc j) k)) e (eqb_refl (suc j))),
      )
    where
      go : (j : ℕ) → j ≡ suc j - 1
      go j = omega arith

  of_bits_is : (b : ℕ) → of_bits f b ≡ of_fields f (leb (top f) b) (b % top f / hid f) (b % hid f)
  unfolding of_bits
  of_bits_is b = refl

  module _ (x : Float) (F : T (fits f x)) (p : T (positive x)) where
    abbrev b : ℕ
    b = to_bits f x

    fields : of_fields f (leb (top f) b) (b % top f / hid f) (b % hid f) ≡ x
    fields = sym (of_bits_is b) ∙ of_bits-to_bits f x F

    r : Read (leb (top f) b) (b % top f / hid f) (b % hid f) x
    r = subst (λ (k : Float). Read (leb (top f) b) (b % top f / hid f) (b % hid f) k) fields (read (leb (top f) b) (b % top f / hid f) (b % hid f) (subst (λ (k : Float). T (positive k)) (sym fields) p))

    under : b < top f
    under = nleb→lt (top f) b (no r.0)

    field : b % top f / hid f ≡ b / hid f
    field = ap (λ (z : ℕ). z / hid f) (mod-eq_of_lt under)

    pub value : HasValue x false (digits_of f (to_bits f x / hid f) (to_bits f x % hid f) * 2 ^ (to_bits f x / hid f - 1)) (2 ^ low f)
    value = subst (λ (z : ℕ). HasValue x false (digits_of f z (b % hid f) * 2 ^ (z - 1)) (2 ^ low f)) field (subst (λ (s : Bool). HasValue x s (digits_of f (b % top f / hid f) (b % hid f) * 2 ^ (b % top f / hid f - 1)) (2 ^ low f)) r.0 r.1)

    pub not_top : to_bits f x / hid f ≡ ones f → ⊥
    not_top e = r.2 (field ∙ e)

    pub t_lt : to_bits f x % hid f < hid f
    t_lt = mod-lt b (pow_pos (prec f - 1))

    pub f_lt : to_bits f x / hid f < suc (ones f)
    f_lt = (div-lt_iff_lt-mul (pow_pos (prec f - 1))).1 (lt_of_lt_of_le under (le_of_eq (mul_comm (hid f) (suc (ones f)))))

  lead : 2 * hid f ≡ 2 ^ prec f
  lead = mul_comm 2 (hid f) ∙ sym (pow-suc 2 (prec f - 1)) ∙ ap (λ (z : ℕ). 2 ^ z) (go (prec f) (two-le_pos (prec f) (two f)))
    where
      go : (p : ℕ) → 0 < p → suc (p - 1) ≡ p
      go p h = omega arith

  -- ---- the digits and their place
  module _ (x : Float) (F : T (fits f x)) (p : T (positive x)) where
    pub low_split : to_bits f x / hid f ≡ 0 → Split f x (to_bits f x % hid f) 0
    low_split e =
        let t = to_bits f x % hid f in
        let v : HasValue x false (t * 2 ^ 0) (2 ^ low f) = subst (λ (z : ℕ). HasValue x false (digits_of f z t * 2 ^ (z - 1)) (2 ^ low f)) e (value x F p) in
        record {
          value = v;
          some = first_pos t (2 ^ 0) (value_pos x (t * 2 ^ 0) (2 ^ low f) p (pow_pos (low f)) v);
          small = go t (hid f) (2 ^ prec f) (t_lt x F p) lead;
          place = wide f;
          full = go2;
        }
      where
        go : (t h q : ℕ) → t < h → 2 * h ≡ q → t < q
        go t h q a b = omega arith

        wide : (g : Format) → 0 < 2 * emax g
        wide binary32 = zero-lt-suc 253
        wide binary64 = zero-lt-suc 2045

        go2 : 0 < 0 → hid f ≤ to_bits f x % hid f
        go2 h = absurd (lt_irrefl 0 h)

    pub high_split : (to_bits f x / hid f ≡ 0 → ⊥) → Split f x (to_bits f x % hid f + hid f) (to_bits f x / hid f - 1)
    high_split n =
        let t = to_bits f x % hid f in
        record {
          value = go (to_bits f x / hid f) n (value x F p);
          some = go1 t (hid f) (pow_pos (prec f - 1));
          small = go2 t (hid f) (2 ^ prec f) (t_lt x F p) lead;
          place = go3 (to_bits f x / hid f) (emax f) n (f_lt x F p) (not_top x F p);
          full = λ h. go4 t (hid f);
        }
      where
        go : (j : ℕ) → (j ≡ 0 → ⊥) → HasValue x false (digits_of f j (to_bits f x % hid f) * 2 ^ (j - 1)) (2 ^ low f) → HasValue x false ((to_bits f x % hid f + hid f) * 2 ^ (j - 1)) (2 ^ low f)
        go zero n v = absurd (n refl)
        go (suc j) n v = subst (λ (z : ℕ). HasValue x false (z * 2 ^ (suc j - 1)) (2 ^ low f)) (add_comm (hid f) (to_bits f x % hid f)) v

        go1 : (t h : ℕ) → 0 < h → 0 < t + h
        go1 t h a = omega arith

        go2 : (t h q : ℕ) → t < h → 2 * h ≡ q → t + h < q
        go2 t h q a b = omega arith

        go3 : (j m : ℕ) → (j ≡ 0 → ⊥) → j < suc (2 * m + 1) → (j ≡ 2 * m + 1 → ⊥) → j - 1 < 2 * m
        go3 j m n h k = omega arith

        go4 : (t h : ℕ) → h ≤ t + h
        go4 t h = omega arith

-- ---- the patterns of powers of two, f32
pub valued : (x : Float) (s : Bool) (a d : ℕ) → HasValue x s a d → T (not (is_nan x))
unfolding is_nan
valued nan s a d v = absurd v
valued (inf t) s a d v = absurd v
valued (fin t m e) s a d v = tt

pub power_no_nan : (w b : ℕ) → Power w (of_bits binary32 b) → T (not (nan_bits binary32 b))
power_no_nan w b v = subst (λ (t : Bool). T (not t)) (sym (nan_bits_is binary32 b)) (valued (of_bits binary32 b) false (2 ^ w) (2 ^ 149) v.value)

-- the fields of a pattern below 2 ^ 31
pub plain : (b : ℕ) → b < 2 ^ 31 → of_bits binary32 b ≡ of_fields binary32 false (b / 2 ^ 23) (b % 2 ^ 23)
plain b h =
    of_bits_is binary32 b
    ∙ ap (λ (s : Bool). of_fields binary32 s (b % 2 ^ 31 / 2 ^ 23) (b % 2 ^ 23)) (is_false (leb (2 ^ 31) b) (lt→nleb (2 ^ 31) b h))
    ∙ ap (λ (z : ℕ). of_fields binary32 false (z / 2 ^ 23) (b % 2 ^ 23)) (mod-eq_of_lt h)

pub low_power : (w : ℕ) → w < 23 → Power w (of_bits binary32 (1 * 2 ^ w % 2 ^ 32))
unfolding of_fields
low_power w h =
    let b = 2 ^ w in
    let B : b < 2 ^ 23 = pow-lt h in
    let e : 1 * 2 ^ w % 2 ^ 32 ≡ b = ap (λ (z : ℕ). z % 2 ^ 32) (one-mul b) ∙ mod-eq_of_lt (lt_of_lt_of_le B (lit≤ tt)) in
    let is : of_bits binary32 b ≡ odd 24 false b 0 149 =
    plain b (lt_of_lt_of_le B (lit≤ tt))
    ∙ ap (λ (z : ℕ). of_fields binary32 false z (b % 2 ^ 23)) (div-eq_of_lt B)
    ∙ ap (λ (z : ℕ). odd 24 false z 0 149) (mod-eq_of_lt B) in
    subst (λ (z : ℕ). Power w (of_bits binary32 z)) (sym e)
    (record { value = subst (λ (x : Float). HasValue x false b (2 ^ 149)) (sym is) (subst (λ (z : ℕ). HasValue (odd 24 false b 0 149) false z (2 ^ 149)) (mul-one b) (odd_sign 24 false b 0 149)) })

pub high_power : (w : ℕ) → 23 ≤ w → w < 277 → Power w (of_bits binary32 ((w - 22) * 2 ^ 23 % 2 ^ 32))
unfolding of_fields
high_power w lo hi =
    let c = (w - 22) * 2 ^ 23 in
    let is : of_bits binary32 c ≡ of_fields binary32 false (suc (w - 23)) 0 =
    plain c (go1 w lo hi)
    ∙ ap (λ (z : ℕ). of_fields binary32 false z (c % 2 ^ 23)) (mul-div_cancel (w - 22) (pow_pos 23) ∙ go2 w lo)
    ∙ ap (λ (z : ℕ). of_fields binary32 false (suc (w - 23)) z) (mul-mod_left (w - 22) (2 ^ 23)) in
    let in2 : of_fields binary32 false (suc (w - 23)) 0 ≡ odd 24 false (2 ^ 23 + 0) (w - 23) 149 =
    cond_no (eqb (suc (w - 23)) 255) _ _ (not_T (eqb (suc (w - 23)) 255) (λ t. go3 w lo hi (eqb→eq (suc (w - 23)) 255 t))) in
    let same : (2 ^ 23 + 0) * 2 ^ (w - 23) ≡ 2 ^ w = sym (pow-add 2 23 (w - 23)) ∙ ap (λ (z : ℕ). 2 ^ z) (go4 w lo) in
    subst (λ (z : ℕ). Power w (of_bits binary32 z)) (sym (mod-eq_of_lt (go5 w lo hi)))
    (record { value = subst (λ (z : ℕ). HasValue (of_bits binary32 c) false z (2 ^ 149)) same (subst (λ (x : Float). HasValue x false ((2 ^ 23 + 0) * 2 ^ (w - 23)) (2 ^ 149)) (sym (is ∙ in2)) (odd_sign 24 false (2 ^ 23 + 0) (w - 23) 149)) })
  where
    go1 : (w : ℕ) → 23 ≤ w → w < 277 → (w - 22) * 8388608 < 2147483648
    go1 w u v = omega arith

    go2 : (w : ℕ) → 23 ≤ w → w - 22 ≡ suc (w - 23)
    go2 w h = omega arith

    go3 : (w : ℕ) → 23 ≤ w → w < 277 → suc (w - 23) ≡ 255 → ⊥
    go3 w u v e = omega arith

    go4 : (w : ℕ) → 23 ≤ w → 23 + (w - 23) ≡ w
    go4 w h = omega arith

    go5 : (w : ℕ) → 23 ≤ w → w < 277 → (w - 22) * 8388608 < 4294967296
    go5 w u v = omega arith

-- Assumes nothing.
