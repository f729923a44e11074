-- The one kind over the range, read by the magnitude: for a range with a sign, and for one from 0 on.
use Rattle.std.proofs.Common.{◌≡◌, ℕ, zero, suc, ◌-◌, ◌*◌, ◌/◌, ◌^◌, ◌<◌, ◌≤◌, Bool, true, false, cond, not, T, eqb, ltb, leb, ℤ, pos, negsuc, neg_ℤ, nat_abs, sym, refl, ap, ◌∙◌, arith, eqb→eq, ltb→lt, lt→ltb, leb→le, nltb→le, pow_pos}
use lib.Dec.{nleb→lt, not_T, leb-zero, leb-suc-zero}
use lib.Arith.{le→nltb}
use lib.Ieee.Bits.{is_false}
use lib.Ieee.{Float, nan, inf, fin, up, down}
use Rattle.kinds.specs.Kind.{within, kind_by}

-- ---- by the magnitude n, without its fraction

-- the range from -2 ^ h to 2 ^ h - 1
abbrev pub signed_at : {K : Type 0} → (ℤ → K) → K → K → ℕ → Bool → ℕ → K
signed_at exact below above h true n = cond (leb n (2 ^ h)) (exact (neg_ℤ (pos n))) below
signed_at exact below above h false n = cond (ltb n (2 ^ h)) (exact (pos n)) above

unfoldable pub signed_kind : {K : Type 0} → (ℤ → K) → K → K → K → ℕ → Float → K
signed_kind exact notNumber below above h nan = notNumber
signed_kind exact notNumber below above h (inf s) = cond s below above
signed_kind exact notNumber below above h (fin s m e) = signed_at exact below above h s (m * up e / down e)

-- the range from 0 to 2 ^ w - 1
abbrev pub unsigned_at : {K : Type 0} → (ℕ → K) → K → K → ℕ → Bool → ℕ → K
unsigned_at exact below above w true n = cond (eqb n 0) (exact 0) below
unsigned_at exact below above w false n = cond (ltb n (2 ^ w)) (exact n) above

unfoldable pub unsigned_kind : {K : Type 0} → (ℕ → K) → K → K → K → ℕ → Float → K
unsigned_kind exact notNumber below above w nan = notNumber
unsigned_kind exact notNumber below above w (inf s) = cond s below above
unsigned_kind exact notNumber below above w (fin s m e) = unsigned_at exact below above w s (m * up e / down e)

-- ---- they are the one kind

turned_test : {K : Type 0} (a b : Bool) (x y : K) → (T a → T (not b)) → (T (not a) → T b) → cond a x y ≡ cond b y x
turned_test true true x y f g = absurd (f tt)
turned_test true false x y f g = refl
turned_test false true x y f g = refl
turned_test false false x y f g = absurd (g tt)

-- a number is below p, or above p - 1
up_to : {K : Type 0} (n p : ℕ) (x y : K) → 0 < p → cond (ltb n p) x y ≡ cond (ltb (p - 1) n) y x
up_to n p x y h = turned_test (ltb n p) (ltb (p - 1) n) x y (λ t. le→nltb (p - 1) n (in_it n p (ltb→lt n p t))) (λ t. lt→ltb (p - 1) n (past n p h (nltb→le n p t)))
  where
    in_it : (n p : ℕ) → n < p → n ≤ p - 1
    in_it n p k = omega arith

    past : (n p : ℕ) → 0 < p → p ≤ n → p - 1 < n
    past n p h k = omega arith

module _ {K : Type 0} (exact : ℤ → K) (below above : K) where
  minus_within : (n p : ℕ) → 0 < p → cond (leb n p) (exact (neg_ℤ (pos n))) below ≡ within exact below above (neg_ℤ (pos p)) (pos (p - 1)) (neg_ℤ (pos n))
  minus_within n zero h = absurd (omega arith)
  minus_within zero (suc p) h = ap (λ (t : Bool). cond t (exact (pos 0)) below) (leb-zero (suc p)) ∙ sym (ap (λ (t : Bool). cond t above (exact (pos 0))) (leb-suc-zero (suc p - 1)))
  minus_within (suc n) (suc p) h = turned_test (leb (suc n) (suc p)) (ltb p n) (exact (negsuc n)) below (λ t. le→nltb p n (in_it (leb→le (suc n) (suc p) t))) (λ t. lt→ltb p n (past (nleb→lt (suc n) (suc p) t)))
    where
      in_it : suc n ≤ suc p → n ≤ p
      in_it k = omega arith

      past : suc p < suc n → p < n
      past k = omega arith

  plus_within : (n p : ℕ) → 0 < p → cond (ltb n p) (exact (pos n)) above ≡ within exact below above (neg_ℤ (pos p)) (pos (p - 1)) (pos n)
  plus_within n zero h = absurd (omega arith)
  plus_within n (suc p) h = up_to n (suc p) (exact (pos n)) above h

module _ {K : Type 0} (exact : ℤ → K) (notNumber below above : K) (h : ℕ) where
  pub signed_one : (x : Float) → signed_kind exact notNumber below above h x ≡ kind_by exact notNumber below above (neg_ℤ (pos (2 ^ h))) (pos (2 ^ h - 1)) x
  unfolding signed_kind kind_by
  signed_one nan = refl
  signed_one (inf s) = refl
  signed_one (fin true m e) = minus_within exact below above (m * up e / down e) (2 ^ h) (pow_pos h)
  signed_one (fin false m e) = plus_within exact below above (m * up e / down e) (2 ^ h) (pow_pos h)

module _ {K : Type 0} (exact : ℕ → K) (notNumber below above : K) (w : ℕ) where
  zero_within : (n p : ℕ) → 0 < p → cond (eqb n 0) (exact 0) below ≡ within (λ z. exact (nat_abs z)) below above (pos 0) (pos (p - 1)) (neg_ℤ (pos n))
  zero_within zero p h = sym (ap (λ (t : Bool). cond t above (exact 0)) (leb-suc-zero (p - 1)))
  zero_within (suc n) p h = ap (λ (t : Bool). cond t (exact 0) below) (is_false (eqb (suc n) 0) (not_T (eqb (suc n) 0) (λ t. go (eqb→eq (suc n) 0 t))))
    where
      go : suc n ≡ 0 → ⊥
      go e = omega arith

  pub unsigned_one : (x : Float) → unsigned_kind exact notNumber below above w x ≡ kind_by (λ z. exact (nat_abs z)) notNumber below above (pos 0) (pos (2 ^ w - 1)) x
  unfolding unsigned_kind kind_by
  unsigned_one nan = refl
  unsigned_one (inf s) = refl
  unsigned_one (fin true m e) = zero_within (m * up e / down e) (2 ^ w) (pow_pos w)
  unsigned_one (fin false m e) = let n = m * up e / down e in
      up_to n (2 ^ w) (exact n) above (pow_pos w) ∙ sym (ap (λ (t : Bool). cond (ltb (2 ^ w - 1) n) above (cond t below (exact n))) (leb-suc-zero n))

-- Assumes nothing.
