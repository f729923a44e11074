-- The kinds of a conversion by the code's comparisons, over the range and the enum: each case of a float is computed, and a magnitude from 2 ^ 23 on has no fraction.
use Rattle.std.proofs.Common.{◌≡◌, ℕ, zero, suc, ◌+◌, ◌-◌, ◌*◌, ◌/◌, ◌^◌, ◌<◌, ◌≤◌, min, Bool, true, false, cond, not, ◌&&◌, ◌||◌, T, eqb, ltb, leb, ℤ, pos, negsuc, neg_ℤ, nat_abs, sym, refl, ap, ◌∙◌, subst, le_trans, le_of_eq, le_of_suc-le-suc, lt_of_le_of_lt, le_of_lt, mul-le-mul_right, div-lt_iff_lt-mul, mul-lt-mul_of_pos_right, mul-pos, one-mul, le-div_iff_mul-le, mul-one, div-one, arith, le→leb, eqb→eq, ltb→lt, lt→ltb, leb→le, nltb→le, T_not, pow_pos, pow_mono}
use native.Mathlib.Nat.{div-eq_of_lt}
use lib.Dec.{nleb→lt, not_T}
use lib.Arith.{lt→nleb, le→nltb, lt_of_le-ne}
use lib.Ieee.{Float, nan, inf, fin, binary32, up, down, lt, eq, le, fits, to_signed, to_unsigned}
use lib.Ieee.Fits.{down_pos, and_l, eq→eqb}
use Rattle.kinds.specs.declared.Kind.{Kind}
use Rattle.kinds.specs.declared.Kind.TheVariants.{Exact, NotNumber, Below, Above}
use Rattle.kinds.specs.Kind.{kind_by, cut_i64, cut_i32, cut_u64, within_i32, saturated_i64, saturated_i32, saturated_u64}
use Rattle.numbers.proofs.Zero.{null, two_to, minus_two_to, under, not_under}
use Rattle.wholes.proofs.Wholes.{no_fraction}
use Rattle.kinds.proofs.OneKind.{signed_kind, unsigned_kind, signed_one, unsigned_one}

-- ---- a test that is known
if_yes : {X : Type 0} (b : Bool) (x y : X) → T b → x ≡ cond b x y
if_yes true x y t = refl
if_yes false x y t = absurd t

if_no : {X : Type 0} (b : Bool) (x y : X) → T (not b) → y ≡ cond b x y
if_no true x y t = absurd t
if_no false x y t = refl

if_ap : {X Y : Type 0} (g : X → Y) (b : Bool) (x y : X) → g (cond b x y) ≡ cond b (g x) (g y)
if_ap g true x y = refl
if_ap g false x y = refl

nor_l : (p q : Bool) → T (not (p || q)) → T (not p)
nor_l true q h = absurd h
nor_l false q h = tt

-- ---- magnitudes n / d against a power p
reach : (n p d : ℕ) → 0 < d → 1 * p * d ≤ n * 1 → p ≤ n / d
reach n p d D h = (le-div_iff_mul-le D).1 (subst (λ (z : ℕ). p * d ≤ z) (mul-one n) (subst (λ (z : ℕ). z * d ≤ n * 1) (one-mul p) h))

short : (n p d : ℕ) → 0 < d → n * 1 < 1 * p * d → n / d < p
short n p d D h = (div-lt_iff_lt-mul D).1 (subst (λ (z : ℕ). z < p * d) (mul-one n) (subst (λ (z : ℕ). n * 1 < z * d) (one-mul p) h))

nothing : (n p d : ℕ) → 0 < p → 0 < d → n * 1 + 1 * p * d ≤ 0 → ⊥
nothing n p d h k l = go (1 * p * d) (mul-pos (subst (λ (z : ℕ). 0 < z) (sym (one-mul p)) h) k) l
  where
    go : (z : ℕ) → 0 < z → n * 1 + z ≤ 0 → ⊥
    go z u v = omega arith

within : (n p d : ℕ) → 0 < d → n * 1 ≤ 1 * p * d → n / d ≤ p
within n p d D h = le_of_suc-le-suc (short n (suc p) d D (lt_of_le_of_lt h (mul-lt-mul_of_pos_right (go p) D)))
  where
    go : (p : ℕ) → 1 * p < 1 * suc p
    go p = omega arith

-- what `le` and its failure say of two negative magnitudes
at_most : (n p : ℕ) (q : Bool) → T (ltb n p || eqb p n && q) → n ≤ p
at_most n p q t = go (ltb n p) (eqb p n) (ltb→lt n p) (eqb→eq p n) t
  where
    go : (a b : Bool) → (T a → n < p) → (T b → p ≡ n) → T (a || b && q) → n ≤ p
    go true b f g t = le_of_lt (f tt)
    go false b f g t = le_of_eq (sym (g (and_l b q t)))

past : (n p : ℕ) → T (not (ltb n p || eqb p n && true)) → p < n
past n p t = go (ltb n p) (eqb p n) (nltb→le n p) (λ (e : p ≡ n). eq→eqb e) t
  where
    go : (a b : Bool) → (T (not a) → p ≤ n) → (p ≡ n → T b) → T (not (a || b && true)) → p < n
    go true b f g t = absurd t
    go false true f g t = absurd t
    go false false f g t = lt_of_le-ne (f tt) (λ (e : p ≡ n). g e)

within_cap : (n p : ℕ) → n < p → min n (p - 1) ≡ n
within_cap n p l = omega arith

-- ---- signed, from -2 ^ h to 2 ^ h - 1
module _ {K : Type 0} (exact : ℤ → K) (notNumber below above : K) (h : ℕ) where
  signed_above : (x : Float) → T (le (minus_two_to h) x) → T (not (lt x (two_to h))) → above ≡ signed_kind exact notNumber below above h x
  unfolding le lt eq signed_kind
  signed_above nan a b = absurd a
  signed_above (inf true) a b = absurd b
  signed_above (inf false) a b = refl
  signed_above (fin true m e) a b = absurd (nothing (m * up e) (2 ^ h) (down e) (pow_pos h) (down_pos e) (nltb→le 0 (m * up e * 1 + 1 * 2 ^ h * down e) b))
  signed_above (fin false m e) a b =
      let n = m * up e / down e in
      if_no (ltb n (2 ^ h)) (exact (pos n)) above (le→nltb n (2 ^ h) (reach (m * up e) (2 ^ h) (down e) (down_pos e) (nltb→le (m * up e * 1) (1 * 2 ^ h * down e) b)))

  signed_none : (x : Float) → T (not (le (minus_two_to h) x)) → T (not (lt x null)) → notNumber ≡ signed_kind exact notNumber below above h x
  unfolding le lt eq signed_kind
  signed_none nan a b = refl
  signed_none (inf true) a b = absurd b
  signed_none (inf false) a b = absurd a
  signed_none (fin false m e) a b = absurd (nothing (m * up e) (2 ^ h) (down e) (pow_pos h) (down_pos e) (go (m * up e * 1) (1 * 2 ^ h * down e) (nltb→le 0 (1 * 2 ^ h * down e + m * up e * 1) (nor_l (ltb 0 (1 * 2 ^ h * down e + m * up e * 1)) _ a))))
    where
      go : (n p : ℕ) → p + n ≤ 0 → n + p ≤ 0
      go n p l = omega arith
  signed_none (fin true zero e) a b = absurd (nothing 0 (2 ^ h) (down e) (pow_pos h) (down_pos e) (go (up e) (1 * 2 ^ h * down e) (nltb→le (0 * up e * 1) (1 * 2 ^ h * down e) (nor_l (ltb (0 * up e * 1) (1 * 2 ^ h * down e)) _ a))))
    where
      go : (u p : ℕ) → p ≤ 0 * u * 1 → 0 * 1 + p ≤ 0
      go u p l = omega arith
  signed_none (fin true (suc m) e) a b = absurd (T_not (lt (fin true (suc m) e) null) b (under m e))

  -- below -2 ^ h: past 2 ^ 23 there is no fraction to cut
  signed_below : (x : Float) → 23 ≤ h → T (fits binary32 x) → T (not (le (minus_two_to h) x)) → T (lt x null) → below ≡ signed_kind exact notNumber below above h x
  unfolding le lt eq signed_kind
  signed_below nan H F a b = absurd b
  signed_below (inf true) H F a b = refl
  signed_below (inf false) H F a b = absurd b
  signed_below (fin false m e) H F a b = absurd (not_under m e b)
  signed_below (fin true m (pos k)) H F a b =
      let n = m * 2 ^ k in
      if_no (leb (n / 1) (2 ^ h)) (exact (neg_ℤ (pos (n / 1)))) below
      (lt→nleb (n / 1) (2 ^ h) (subst (λ (z : ℕ). 2 ^ h < z) (sym (div-one n)) (subst (λ (z : ℕ). z < n) (go (2 ^ h)) (subst (λ (z : ℕ). 1 * 2 ^ h * 1 < z) (mul-one n) (past (n * 1) (1 * 2 ^ h * 1) a)))))
    where
      go : (p : ℕ) → 1 * p * 1 ≡ p
      go p = omega arith
  signed_below (fin true m (negsuc k)) H F a b =
      absurd (no_fraction binary32 true m k F (le_trans (mul-le-mul_right (2 ^ suc k) (pow_mono H)) (go m (2 ^ h * 2 ^ suc k) (subst (λ (z : ℕ). z * 2 ^ suc k ≤ m * 1 * 1) (one-mul (2 ^ h)) (le_of_lt (past (m * 1 * 1) (1 * 2 ^ h * 2 ^ suc k) a))))))
    where
      go : (m p : ℕ) → p ≤ m * 1 * 1 → p ≤ m
      go m p l = omega arith

  signed_exact : (x : Float) → T (le (minus_two_to h) x) → T (lt x (two_to h)) → exact (to_signed h x) ≡ signed_kind exact notNumber below above h x
  unfolding le lt eq signed_kind to_signed
  signed_exact nan a b = absurd a
  signed_exact (inf true) a b = absurd a
  signed_exact (inf false) a b = absurd b
  signed_exact (fin true m e) a b =
      let n = m * up e / down e in
      let l : n ≤ 2 ^ h = within (m * up e) (2 ^ h) (down e) (down_pos e) (at_most (m * up e * 1) (1 * 2 ^ h * down e) _ a) in
      ap (λ (z : ℕ). exact (neg_ℤ (pos z))) (least n (2 ^ h) l) ∙ if_yes (leb n (2 ^ h)) (exact (neg_ℤ (pos n))) below (le→leb n (2 ^ h) l)
    where
      least : (n p : ℕ) → n ≤ p → min n p ≡ n
      least n p l = omega arith
  signed_exact (fin false m e) a b =
      let n = m * up e / down e in
      let l : n < 2 ^ h = short (m * up e) (2 ^ h) (down e) (down_pos e) (ltb→lt (m * up e * 1) (1 * 2 ^ h * down e) b) in
      ap (λ (z : ℕ). exact (pos z)) (within_cap n (2 ^ h) l) ∙ if_yes (ltb n (2 ^ h)) (exact (pos n)) above (lt→ltb n (2 ^ h) l)

  pub above_signed : (x : Float) → T (le (minus_two_to h) x) → T (not (lt x (two_to h))) → above ≡ kind_by exact notNumber below above (neg_ℤ (pos (2 ^ h))) (pos (2 ^ h - 1)) x
  above_signed x a b = signed_above x a b ∙ signed_one exact notNumber below above h x

  pub none_signed : (x : Float) → T (not (le (minus_two_to h) x)) → T (not (lt x null)) → notNumber ≡ kind_by exact notNumber below above (neg_ℤ (pos (2 ^ h))) (pos (2 ^ h - 1)) x
  none_signed x a b = signed_none x a b ∙ signed_one exact notNumber below above h x

  pub below_signed : (x : Float) → 23 ≤ h → T (fits binary32 x) → T (not (le (minus_two_to h) x)) → T (lt x null) → below ≡ kind_by exact notNumber below above (neg_ℤ (pos (2 ^ h))) (pos (2 ^ h - 1)) x
  below_signed x H F a b = signed_below x H F a b ∙ signed_one exact notNumber below above h x

  pub exact_signed : (x : Float) → T (le (minus_two_to h) x) → T (lt x (two_to h)) → exact (to_signed h x) ≡ kind_by exact notNumber below above (neg_ℤ (pos (2 ^ h))) (pos (2 ^ h - 1)) x
  exact_signed x a b = signed_exact x a b ∙ signed_one exact notNumber below above h x

-- ---- unsigned, from 0 to 2 ^ w - 1
module _ {K : Type 0} (exact : ℕ → K) (notNumber below above : K) (w : ℕ) where
  unsigned_above : (x : Float) → T (lt (minus_two_to 0) x) → T (not (lt x (two_to w))) → above ≡ unsigned_kind exact notNumber below above w x
  unfolding lt unsigned_kind
  unsigned_above nan a b = absurd a
  unsigned_above (inf true) a b = absurd b
  unsigned_above (inf false) a b = refl
  unsigned_above (fin true m e) a b = absurd (nothing (m * up e) (2 ^ w) (down e) (pow_pos w) (down_pos e) (nltb→le 0 (m * up e * 1 + 1 * 2 ^ w * down e) b))
  unsigned_above (fin false m e) a b =
      let n = m * up e / down e in
      if_no (ltb n (2 ^ w)) (exact n) above (le→nltb n (2 ^ w) (reach (m * up e) (2 ^ w) (down e) (down_pos e) (nltb→le (m * up e * 1) (1 * 2 ^ w * down e) b)))

  unsigned_below : (x : Float) → T (not (lt (minus_two_to 0) x)) → T (lt x null) → below ≡ unsigned_kind exact notNumber below above w x
  unfolding lt unsigned_kind
  unsigned_below nan a b = absurd b
  unsigned_below (inf true) a b = refl
  unsigned_below (inf false) a b = absurd a
  unsigned_below (fin false m e) a b = absurd (not_under m e b)
  unsigned_below (fin true m e) a b =
      let n = m * up e / down e in
      if_no (eqb n 0) (exact 0) below (not_T (eqb n 0) (λ t. go n (reach (m * up e) 1 (down e) (down_pos e) (nltb→le (m * up e * 1) (1 * 1 * down e) a)) (eqb→eq n 0 t)))
    where
      go : (n : ℕ) → 1 ≤ n → n ≡ 0 → ⊥
      go n l z = omega arith

  unsigned_none : (x : Float) → T (not (lt (minus_two_to 0) x)) → T (not (lt x null)) → notNumber ≡ unsigned_kind exact notNumber below above w x
  unfolding lt unsigned_kind
  unsigned_none nan a b = refl
  unsigned_none (inf true) a b = absurd b
  unsigned_none (inf false) a b = absurd a
  unsigned_none (fin false m e) a b = absurd (go (m * up e) (down e) (down_pos e) (nltb→le 0 (1 * 1 * down e + m * up e * 1) a))
    where
      go : (n d : ℕ) → 0 < d → 1 * 1 * d + n * 1 ≤ 0 → ⊥
      go n d k l = omega arith
  unsigned_none (fin true zero e) a b = absurd (go (up e) (down e) (down_pos e) (nltb→le (0 * up e * 1) (1 * 1 * down e) a))
    where
      go : (u d : ℕ) → 0 < d → 1 * 1 * d ≤ 0 * u * 1 → ⊥
      go u d k l = omega arith
  unsigned_none (fin true (suc m) e) a b = absurd (T_not (lt (fin true (suc m) e) null) b (under m e))

  unsigned_exact : (x : Float) → T (lt (minus_two_to 0) x) → T (lt x (two_to w)) → exact (to_unsigned w x) ≡ unsigned_kind exact notNumber below above w x
  unfolding lt unsigned_kind to_unsigned
  unsigned_exact nan a b = absurd a
  unsigned_exact (inf true) a b = absurd a
  unsigned_exact (inf false) a b = absurd b
  unsigned_exact (fin true m e) a b =
      let n = m * up e / down e in
      if_yes (eqb n 0) (exact 0) below (eq→eqb (div-eq_of_lt (go (m * up e) (down e) (ltb→lt (m * up e * 1) (1 * 1 * down e) a))))
    where
      go : (n d : ℕ) → n * 1 < 1 * 1 * d → n < d
      go n d l = omega arith
  unsigned_exact (fin false m e) a b =
      let n = m * up e / down e in
      let l : n < 2 ^ w = short (m * up e) (2 ^ w) (down e) (down_pos e) (ltb→lt (m * up e * 1) (1 * 2 ^ w * down e) b) in
      ap exact (within_cap n (2 ^ w) l) ∙ if_yes (ltb n (2 ^ w)) (exact n) above (lt→ltb n (2 ^ w) l)

  pub above_unsigned : (x : Float) → T (lt (minus_two_to 0) x) → T (not (lt x (two_to w))) → above ≡ kind_by (λ z. exact (nat_abs z)) notNumber below above (pos 0) (pos (2 ^ w - 1)) x
  above_unsigned x a b = unsigned_above x a b ∙ unsigned_one exact notNumber below above w x

  pub none_unsigned : (x : Float) → T (not (lt (minus_two_to 0) x)) → T (not (lt x null)) → notNumber ≡ kind_by (λ z. exact (nat_abs z)) notNumber below above (pos 0) (pos (2 ^ w - 1)) x
  none_unsigned x a b = unsigned_none x a b ∙ unsigned_one exact notNumber below above w x

  pub below_unsigned : (x : Float) → T (not (lt (minus_two_to 0) x)) → T (lt x null) → below ≡ kind_by (λ z. exact (nat_abs z)) notNumber below above (pos 0) (pos (2 ^ w - 1)) x
  below_unsigned x a b = unsigned_below x a b ∙ unsigned_one exact notNumber below above w x

  pub exact_unsigned : (x : Float) → T (lt (minus_two_to 0) x) → T (lt x (two_to w)) → exact (to_unsigned w x) ≡ kind_by (λ z. exact (nat_abs z)) notNumber below above (pos 0) (pos (2 ^ w - 1)) x
  exact_unsigned x a b = unsigned_exact x a b ∙ unsigned_one exact notNumber below above w x

-- ---- a function of the kind goes into its cases
module _ {K L : Type 0} (g : K → L) where
  signed_fold : (exact : ℤ → K) (notNumber below above : K) (h : ℕ) (x : Float) → g (signed_kind exact notNumber below above h x) ≡ signed_kind (λ z. g (exact z)) (g notNumber) (g below) (g above) h x
  unfolding signed_kind
  signed_fold exact notNumber below above h nan = refl
  signed_fold exact notNumber below above h (inf s) = if_ap g s below above
  signed_fold exact notNumber below above h (fin true m e) = if_ap g (leb (m * up e / down e) (2 ^ h)) (exact (neg_ℤ (pos (m * up e / down e)))) below
  signed_fold exact notNumber below above h (fin false m e) = if_ap g (ltb (m * up e / down e) (2 ^ h)) (exact (pos (m * up e / down e))) above

  unsigned_fold : (exact : ℕ → K) (notNumber below above : K) (w : ℕ) (x : Float) → g (unsigned_kind exact notNumber below above w x) ≡ unsigned_kind (λ n. g (exact n)) (g notNumber) (g below) (g above) w x
  unfolding unsigned_kind
  unsigned_fold exact notNumber below above w nan = refl
  unsigned_fold exact notNumber below above w (inf s) = if_ap g s below above
  unsigned_fold exact notNumber below above w (fin true m e) = if_ap g (eqb (m * up e / down e) 0) (exact 0) below
  unsigned_fold exact notNumber below above w (fin false m e) = if_ap g (ltb (m * up e / down e) (2 ^ w)) (exact (m * up e / down e)) above

-- ---- Rust's `as` is the kind held to the range
signed_is : (h : ℕ) (x : Float) → signed_kind (λ z. z) (pos 0) (neg_ℤ (pos (2 ^ h))) (pos (2 ^ h - 1)) h x ≡ to_signed h x
unfolding signed_kind to_signed
signed_is h nan = refl
signed_is h (inf true) = refl
signed_is h (inf false) = refl
signed_is h (fin true m e) = go (m * up e / down e) (2 ^ h) (leb (m * up e / down e) (2 ^ h)) (leb→le (m * up e / down e) (2 ^ h)) (nleb→lt (m * up e / down e) (2 ^ h))
  where
    go : (n p : ℕ) (t : Bool) → (T t → n ≤ p) → (T (not t) → p < n) → cond t (neg_ℤ (pos n)) (neg_ℤ (pos p)) ≡ neg_ℤ (pos (min n p))
    go n p true f g = let l = f tt in let e : n ≡ min n p = omega arith in ap (λ (z : ℕ). neg_ℤ (pos z)) e
    go n p false f g = let l = g tt in let e : p ≡ min n p = omega arith in ap (λ (z : ℕ). neg_ℤ (pos z)) e
signed_is h (fin false m e) = go (m * up e / down e) (2 ^ h) (ltb (m * up e / down e) (2 ^ h)) (ltb→lt (m * up e / down e) (2 ^ h)) (nltb→le (m * up e / down e) (2 ^ h))
  where
    go : (n p : ℕ) (t : Bool) → (T t → n < p) → (T (not t) → p ≤ n) → cond t (pos n) (pos (p - 1)) ≡ pos (min n (p - 1))
    go n p true f g = let l = f tt in let e : n ≡ min n (p - 1) = omega arith in ap pos e
    go n p false f g = let l = g tt in let e : p - 1 ≡ min n (p - 1) = omega arith in ap pos e

unsigned_is : (w : ℕ) (x : Float) → unsigned_kind (λ n. n) 0 0 (2 ^ w - 1) w x ≡ to_unsigned w x
unfolding unsigned_kind to_unsigned
unsigned_is w nan = refl
unsigned_is w (inf true) = refl
unsigned_is w (inf false) = refl
unsigned_is w (fin true m e) = go (eqb (m * up e / down e) 0)
  where
    go : (t : Bool) → ◌≡◌ {A = ℕ} (cond t 0 0) 0
    go true = refl
    go false = refl
unsigned_is w (fin false m e) = go (m * up e / down e) (2 ^ w) (ltb (m * up e / down e) (2 ^ w)) (ltb→lt (m * up e / down e) (2 ^ w)) (nltb→le (m * up e / down e) (2 ^ w))
  where
    go : (n p : ℕ) (t : Bool) → (T t → n < p) → (T (not t) → p ≤ n) → cond t n (p - 1) ≡ min n (p - 1)
    go n p true f g = let l = f tt in omega arith
    go n p false f g = let l = g tt in omega arith

pub saturated_i64_lem : (x : Float) → saturated_i64 (cut_i64 x) ≡ to_signed 63 x
saturated_i64_lem x = ap saturated_i64 (sym (signed_one Exact NotNumber Below Above 63 x)) ∙ signed_fold saturated_i64 Exact NotNumber Below Above 63 x ∙ signed_is 63 x

pub saturated_i32_lem : (x : Float) → saturated_i32 (cut_i32 x) ≡ to_signed 31 x
saturated_i32_lem x = ap saturated_i32 (sym (signed_one Exact NotNumber Below Above 31 x)) ∙ signed_fold saturated_i32 Exact NotNumber Below Above 31 x ∙ signed_is 31 x

pub saturated_u64_lem : (x : Float) → saturated_u64 (cut_u64 x) ≡ to_unsigned 64 x
saturated_u64_lem x = ap saturated_u64 (sym (unsigned_one Exact NotNumber Below Above 64 x)) ∙ unsigned_fold saturated_u64 Exact NotNumber Below Above 64 x ∙ unsigned_is 64 x

-- ---- the kind for an i32 is that for an i64, held against the smaller range
abbrev pub narrowed : Kind ℤ → Kind ℤ
narrowed (Exact z) = within_i32 z
narrowed NotNumber = NotNumber
narrowed Below = Below
narrowed Above = Above

within_plus : (n : ℕ) → cond (ltb n (2 ^ 63)) (within_i32 (pos n)) Above ≡ cond (ltb n (2 ^ 31)) (Exact (pos n)) Above
within_plus n = go (ltb n (2 ^ 63)) (ltb 2147483647 n) (ltb n (2 ^ 31)) (nltb→le n (2 ^ 63)) (ltb→lt 2147483647 n) (nltb→le 2147483647 n) (ltb→lt n (2 ^ 31)) (nltb→le n (2 ^ 31))
  where
    go : (a b d : Bool) → (T (not a) → 2 ^ 63 ≤ n) → (T b → 2147483647 < n) → (T (not b) → n ≤ 2147483647) → (T d → n < 2 ^ 31) → (T (not d) → 2 ^ 31 ≤ n)
        → cond a (cond b Above (Exact (pos n))) Above ≡ cond d (Exact (pos n)) Above
    go true true true p q r s u = let i = q tt in let j = s tt in absurd (omega arith)
    go true true false p q r s u = refl
    go true false true p q r s u = refl
    go true false false p q r s u = let i = r tt in let j = u tt in absurd (omega arith)
    go false b true p q r s u = let i = p tt in let j = s tt in absurd (omega arith)
    go false b false p q r s u = refl

within_minus : (n : ℕ) → cond (leb n (2 ^ 63)) (within_i32 (neg_ℤ (pos n))) Below ≡ cond (leb n (2 ^ 31)) (Exact (neg_ℤ (pos n))) Below
within_minus zero = refl
within_minus (suc n) = go (leb (suc n) (2 ^ 63)) (ltb 2147483647 n) (leb (suc n) (2 ^ 31)) (nleb→lt (suc n) (2 ^ 63)) (ltb→lt 2147483647 n) (nltb→le 2147483647 n) (leb→le (suc n) (2 ^ 31)) (nleb→lt (suc n) (2 ^ 31))
  where
    go : (a b d : Bool) → (T (not a) → 2 ^ 63 < suc n) → (T b → 2147483647 < n) → (T (not b) → n ≤ 2147483647) → (T d → suc n ≤ 2 ^ 31) → (T (not d) → 2 ^ 31 < suc n)
        → cond a (cond b Below (Exact (negsuc n))) Below ≡ cond d (Exact (negsuc n)) Below
    go true true true p q r s u = let i = q tt in let j = s tt in absurd (omega arith)
    go true true false p q r s u = refl
    go true false true p q r s u = refl
    go true false false p q r s u = let i = r tt in let j = u tt in absurd (omega arith)
    go false b true p q r s u = let i = p tt in let j = s tt in absurd (omega arith)
    go false b false p q r s u = refl

narrow_is : (x : Float) → signed_kind (λ z. within_i32 z) NotNumber Below Above 63 x ≡ signed_kind Exact NotNumber Below Above 31 x
unfolding signed_kind
narrow_is nan = refl
narrow_is (inf s) = refl
narrow_is (fin true m e) = within_minus (m * up e / down e)
narrow_is (fin false m e) = within_plus (m * up e / down e)

pub narrowed_is : (x : Float) → narrowed (cut_i64 x) ≡ cut_i32 x
narrowed_is x = ap narrowed (sym (signed_one Exact NotNumber Below Above 63 x)) ∙ signed_fold narrowed Exact NotNumber Below Above 63 x ∙ narrow_is x ∙ signed_one Exact NotNumber Below Above 31 x

-- Assumes nothing.
