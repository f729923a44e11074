-- How near a listed row or column is: one lemma on the two ends of a range, at the centre's y for rows and at its x for columns, which R0 leaves as they are where the first is above 0.
use mathlib.Core.Path.{◌≡◌, refl, sym, ap, ◌∙◌, subst}
use mathlib.Core.Logic.{◌⊎◌, inl, inr}
use mathlib.Core.Bool.{Bool, true, false, not, ◌&&◌, cond, true≢false}
use Prim.Native.Nat.{ℕ, zero, suc, ◌+◌, ◌-◌, ◌*◌, ◌%◌, ◌^◌, ◌≤◌, ◌<◌}
use native.Mathlib.Nat.{mul-one, mul_assoc}
use native.Mathlib.Omega.{arith}
use native.Mathlib.Numerals.{add-one}
use lib.Dec.{T, leb, ltb, eqb, leb→le, ltb→lt, nltb→le, leb-suc-zero, leb-suc-suc}
use lib.Pow.{pow_pos, pow-add}
use lib.IntN.{ℤ, pos, negsuc, nat_abs, suc_ℤ, ◌-ℤ◌, +ℤ_one}
use lib.Signed.{le_z, lt_z, ◌≤ℤ◌}
use lib.Ieee.{Float, nan, inf, fin, binary32, up, down, fits, add, sub, to_signed, to_unsigned}
use lib.Arith.{lt→nleb}
use lib.Ieee.Bits.{is_true, is_false}
use lib.Ieee.Fits.{and_i, and_l, and_r, down_pos}
use lib.Ieee.Exact.{HasValue}
use lib.Ieee.Digits.{back}
use Rattle.wholes.specs.Whole.{round_of}
use Rattle.ieee754.specs.Ieee754.{signed, Cut}
use Rattle.numbers.proofs.Powers.{pow_back}
use Rattle.numbers.proofs.Zero.{yes}
use Rattle.ieee754.proofs.Conversions.{conversions}
use Rattle.segments.specs.Ranges.{has_row, has_column}
use Rattle.segments.specs.Expressions.{one_more_i64, one_more_usize, as_i64, as_usize}
use Rattle.segments.proofs.Expressions.{as_spline_rs}
use Rattle.near.specs.Near.{Edge, apart, Allowance, Tight, RowsBy, ColumnsBy, RowsNear, ColumnsNear, EveryFinite}
use Rattle.near.proofs.Ends.{Ends, End, plus_of, minus_of, moved, sum_end, add_is, sub_is}

-- ---- the premises ask no more than they say

-- no digit of an f32 lies below 2 ^ -149
lowest : (s : Bool) (m j : ℕ) → T (fits binary32 (fin s (suc m) (negsuc j))) → suc j ≤ 149
unfolding fits
lowest s m j F =
    let a : Bool = eqb (suc m % 2) 1 && ltb (suc m) (2 ^ 24) in
    let b : Bool = leb (2 ^ suc j) (2 ^ 149) in
    pow_back (suc j) 149 (leb→le (2 ^ suc j) (2 ^ 149) (and_r a b (and_l (a && b) (ltb (suc m * 1) (2 ^ 128 * 2 ^ suc j)) F)))

pub every_finite : EveryFinite
every_finite nan F h = absurd h
every_finite (inf s) F h = absurd h
every_finite (fin s m (pos j)) F h = (signed s (m * 2 ^ j * 2 ^ 149), record { sign = s; size = m * 2 ^ j * 2 ^ 149; value = (refl, sym (mul-one (m * 2 ^ j * 2 ^ 149))); is = refl })
every_finite (fin s zero (negsuc j)) F h = (signed s 0, record { sign = s; size = 0; value = (refl, none (2 ^ 149) (2 ^ suc j)); is = refl })
  where
    none : (l d : ℕ) → 0 * 1 * l ≡ 0 * d
    none l d = omega arith
every_finite (fin s (suc m) (negsuc j)) F h =
    let n = suc m * 1 in
    let e : 2 ^ 149 ≡ 2 ^ (149 - suc j) * 2 ^ suc j = ap (λ (z : ℕ). 2 ^ z) (sym (back 149 (suc j) (lowest s m j F))) ∙ pow-add 2 (149 - suc j) (suc j) in
    let v : n * 2 ^ 149 ≡ n * 2 ^ (149 - suc j) * 2 ^ suc j = ap (λ (z : ℕ). n * z) e ∙ sym (mul_assoc n (2 ^ (149 - suc j)) (2 ^ suc j)) in
    (signed s (n * 2 ^ (149 - suc j)), record { sign = s; size = n * 2 ^ (149 - suc j); value = (refl, v); is = refl })

-- ---- whole numbers by sign

size_of : (s : Bool) (n : ℕ) → nat_abs (signed s n) ≡ n
size_of false n = refl
size_of true zero = refl
size_of true (suc n) = refl

-- z is how far Y is from P - M
abbrev Far : ℕ → ℕ → ℕ → ℕ → Type 0
Far Y P M z = (P ≡ Y + M + z) ⊎ (Y + M ≡ P + z)

far : (Y : ℕ) (s : Bool) (n : ℕ) → Far Y (plus_of s n) (minus_of s n) (nat_abs (pos Y -ℤ signed s n))
far Y true zero = inr (omega arith)
far Y true (suc n) = inr (omega arith)
far Y false zero = inr (omega arith)
far Y false (suc n) = go (ltb Y (suc n)) (ltb→lt Y (suc n)) (nltb→le Y (suc n))
  where
    go : (b : Bool) → (T b → Y < suc n) → (T (not b) → suc n ≤ Y) → Far Y (suc n) 0 (nat_abs (cond b (negsuc (suc n - suc Y)) (pos (Y - suc n))))
    go true f g = let l = f tt in inl (omega arith)
    go false f g = let l = g tt in inr (omega arith)

-- a number that is not below 0 is all above it
not_below : (t : Bool) (B d : ℕ) → pos d ≡ signed t B → (plus_of t B ≡ d) × (minus_of t B ≡ 0)
not_below false B d e = (sym (ap nat_abs e), refl)
not_below true zero d e = (sym (ap nat_abs e), refl)
not_below true (suc B) d e = let z : ◌≡◌ {A = ℕ} 0 1 = cc in absurd (omega arith)

-- an order of whole numbers by their parts above 0 and below
abbrev above : ℤ → ℕ
above (pos n) = n
above (negsuc n) = 0

abbrev beneath : ℤ → ℕ
beneath (pos n) = 0
beneath (negsuc n) = suc n

parts : (s : Bool) (n : ℕ) → (above (signed s n) ≡ plus_of s n) × (beneath (signed s n) ≡ minus_of s n)
parts false n = (refl, refl)
parts true zero = (refl, refl)
parts true (suc n) = (refl, refl)

by_parts : {a b : ℤ} → a ≤ℤ b → above a + beneath b ≤ above b + beneath a
by_parts {a} {b} h = go a b h.le
  where
    go : (a b : ℤ) → T (le_z a b) → above a + beneath b ≤ above b + beneath a
    go (pos a) (pos b) t = let l = leb→le a b t in omega arith
    go (pos a) (negsuc b) t = absurd t
    go (negsuc a) (pos b) t = omega arith
    go (negsuc a) (negsuc b) t = let l = leb→le b a t in omega arith

turned : (t : Bool) (B : ℕ) → (plus_of (not t) B ≡ minus_of t B) × (minus_of (not t) B ≡ plus_of t B)
turned false B = (refl, refl)
turned true B = (refl, refl)

-- ---- the one lemma: a range from one whole number through another

abbrev range : ℤ → ℤ → ℕ → Bool
range a b y = le_z a (pos y) && le_z (pos y) b

range_near : (k d P M : ℕ) (c : ℤ) (s t : Bool) (g h : ℕ) → ((y : ℕ) → Far (y * 2 ^ k) P M (apart k c y)) → Ends s g P (M + d) (2 ^ k) → Ends t h (P + d) M (2 ^ k)
    → Tight (range (signed s g) (signed t h)) k c d
range_near k d P M c s t g h away first last = record {
  inside = λ y n.
      let z = middle (y * 2 ^ k) (2 ^ k) (apart k c y) n (away y) in
      is_true (range (signed s g) (signed t h) y) (and_i (le_z (signed s g) (pos y)) (le_z (pos y) (signed t h)) (first.begins y z.0) (last.lasts y z.1));
  outside = λ y n.
      let f = first.begun y (and_l (le_z (signed s g) (pos y)) (le_z (pos y) (signed t h)) (yes n)) in
      let l = last.lasted y (and_r (le_z (signed s g) (pos y)) (le_z (pos y) (signed t h)) (yes n)) in
      edges (y * 2 ^ k) (2 ^ k) (apart k c y) f l (away y);
}
  where
    middle : (Y Q z : ℕ) → 8 * z < 8 * d + 3 * Q → Far Y P M z → (8 * P < 8 * Y + 8 * (M + d) + 3 * Q) × (8 * Y + 8 * M < 8 * (P + d) + 3 * Q)
    middle Y Q z h (inl e) = (omega arith, omega arith)
    middle Y Q z h (inr e) = (omega arith, omega arith)

    edges : (Y Q z : ℕ) → 8 * P ≤ 8 * Y + 8 * (M + d) + 5 * Q → 8 * Y + 8 * M ≤ 8 * (P + d) + 5 * Q → Far Y P M z → 8 * z ≤ 8 * d + 5 * Q
    edges Y Q z f l (inl e) = omega arith
    edges Y Q z f l (inr e) = omega arith

-- what lists the same is as tight
alike : (f g : ℕ → Bool) (k : ℕ) (c : ℤ) (d : ℕ) → ((y : ℕ) → f y ≡ g y) → Tight g k c d → Tight f k c d
alike f g k c d e z = record { inside = λ y n. e y ∙ z.inside y n; outside = λ y n. z.outside y (sym (e y) ∙ n) }

-- ---- the ends of a range with the centre x and the distance y

module _ (x y : Float) (k : ℕ) (c : ℤ) (d : ℕ) (edge : Edge x y k c d) where
  abbrev s : Bool
  s = edge.centre_is.sign

  abbrev A : ℕ
  A = edge.centre_is.size

  abbrev t : Bool
  t = edge.distance_is.sign

  abbrev B : ℕ
  B = edge.distance_is.size

  small : A + B ≤ 2 ^ 22 * 2 ^ k
  small =
      let a : nat_abs c ≡ A = ap nat_abs edge.centre_is.is ∙ size_of s A in
      let b : d ≡ B = ap nat_abs edge.distance_is.is ∙ size_of t B in
      let l = edge.small in
      omega arith

  first : End (sub binary32 x y) (plus_of s A) (minus_of s A + d) (2 ^ k)
  first =
      let n = not_below t B d edge.distance_is.is in
      let p : plus_of (not t) B ≡ 0 = (turned t B).0 ∙ n.1 in
      let m : minus_of (not t) B ≡ d = (turned t B).1 ∙ n.0 in
      moved (sym (sub_is x y s t A B (2 ^ k) (pow_pos k) edge.centre_is.value edge.distance_is.value)) (omega arith) (omega arith) (sum_end A B (2 ^ k) (pow_pos k) small s (not t))

  last : End (add binary32 x y) (plus_of s A + d) (minus_of s A) (2 ^ k)
  last =
      let n = not_below t B d edge.distance_is.is in
      moved (sym (add_is x y s t A B (2 ^ k) (pow_pos k) edge.centre_is.value edge.distance_is.value)) (omega (arith, n.0)) (omega (arith, n.1)) (sum_end A B (2 ^ k) (pow_pos k) small s t)

  ends_tight : Tight (range (signed first.s first.h) (signed last.s last.h)) k c d
  ends_tight =
      range_near k d (plus_of s A) (minus_of s A) c first.s last.s first.h last.h
      (λ n. subst (λ (z : ℤ). Far (n * 2 ^ k) (plus_of s A) (minus_of s A) (apart k z n)) (sym edge.centre_is.is) (far (n * 2 ^ k) s A)) first.ends last.ends

-- ---- rows and columns, as spline.rs has them

-- a cut changes nothing where there is no fraction
no_fraction : (m : ℕ) (e : ℤ) (h : ℕ) → m * up e * 1 ≡ h * down e → Cut m e h
no_fraction m e h v = record { from = omega arith; to = less (down_pos e) }
  where
    less : 0 < down e → m * up e < (h + 1) * down e
    less p = omega arith

as_i64_lem : (r : Float) (s : Bool) (h : ℕ) → HasValue r s h 1 → h < 2 ^ 23 → to_signed 63 r ≡ signed s h
as_i64_lem nan s h v l = absurd v
as_i64_lem (inf t) s h v l = absurd v
as_i64_lem (fin true m e) s h v l = conversions.as_i64_lem.minus m e h (no_fraction m e h v.1) (omega arith) ∙ ap (λ (b : Bool). signed b h) v.0
as_i64_lem (fin false m e) s h v l = conversions.as_i64_lem.plus m e h (no_fraction m e h v.1) (omega arith) ∙ ap (λ (b : Bool). signed b h) v.0

as_u64 : (r : Float) (h : ℕ) → HasValue r false h 1 → h < 2 ^ 23 → to_unsigned 64 r ≡ h
as_u64 nan h v l = absurd v
as_u64 (inf t) h v l = absurd v
as_u64 (fin true m e) h v l = absurd (true≢false v.0)
as_u64 (fin false m e) h v l = conversions.as_u64.plus m e h (no_fraction m e h v.1) (omega arith)

-- one more of a number that is not large, as the end that is not reached
past_plus : (h y : ℕ) → h < 2 ^ 23 → lt_z (pos y) (one_more_i64 (pos h)) ≡ leb y h
past_plus h y l =
    let n : leb 9223372036854775807 h ≡ false = is_false (leb 9223372036854775807 h) (lt→nleb 9223372036854775807 h (omega arith)) in
    rw (n, add-one) (leb-suc-suc y h)

past_minus : (h y : ℕ) → lt_z (pos y) (one_more_i64 (negsuc h)) ≡ false
past_minus h y = rw +ℤ_one (go h)
  where
    go : (h : ℕ) → lt_z (pos y) (suc_ℤ (negsuc h)) ≡ false
    go zero = leb-suc-zero y
    go (suc h) = refl

past_i64 : (s : Bool) (h y : ℕ) → h < 2 ^ 23 → lt_z (pos y) (one_more_i64 (signed s h)) ≡ le_z (pos y) (signed s h)
past_i64 false h y l = past_plus h y l
past_i64 true zero y l = past_plus 0 y l
past_i64 true (suc h) y l = past_minus h y

past_usize : (h y : ℕ) → h < 2 ^ 23 → ltb y (one_more_usize h) ≡ leb y h
past_usize h y l =
    let n : (h + 1) % 18446744073709551616 ≡ h + 1 = omega arith in
    rw (n, add-one) (leb-suc-suc y h)

module _ {x y : Float} {P M R N Q : ℕ} (a : End x P M Q) (b : End y R N Q) (n : ℕ) where
  row_range : (le_z (as_i64 x) (pos n) && lt_z (pos n) (one_more_i64 (as_i64 y))) ≡ range (signed a.s a.h) (signed b.s b.h) n
  row_range =
      let e = as_i64_lem (round_of binary32 x) a.s a.h a.value a.few in
      let f = as_i64_lem (round_of binary32 y) b.s b.h b.value b.few in
      let g = past_i64 b.s b.h n b.few in
      rw (e, f, g)

  column_range : a.s ≡ false → b.s ≡ false → (leb (as_usize x) n && ltb n (one_more_usize (as_usize y))) ≡ range (signed a.s a.h) (signed b.s b.h) n
  column_range p q =
      let e = as_u64 (round_of binary32 x) a.h (subst (λ (s : Bool). HasValue (round_of binary32 x) s a.h 1) p a.value) a.few in
      let f = as_u64 (round_of binary32 y) b.h (subst (λ (s : Bool). HasValue (round_of binary32 y) s b.h 1) q b.value) b.few in
      let g = past_usize b.h n b.few in
      rw (e, f, g) (sym (ap (λ (s : Bool). le_z (signed s a.h) (pos n) && le_z (pos n) (signed b.s b.h)) p ∙ ap (λ (s : Bool). leb a.h n && le_z (pos n) (signed s b.h)) q))

pub rows_tight : RowsBy Tight
rows_tight s k c d edge =
    let a = first s.center_y s.maximum_distance k c d edge in
    let b = last s.center_y s.maximum_distance k c d edge in
    alike (has_row s) (range (signed a.s a.h) (signed b.s b.h)) k c d (λ y. as_spline_rs.rows s y ∙ row_range a b y) (ends_tight s.center_y s.maximum_distance k c d edge)

pub columns_tight : ColumnsBy Tight
columns_tight s k c d edge h =
    let l = by_parts h in
    let p = pow_pos k in
    let n = parts edge.centre_is.sign edge.centre_is.size in
    let u : above c ≡ plus_of edge.centre_is.sign edge.centre_is.size = ap above edge.centre_is.is ∙ n.0 in
    let v : beneath c ≡ minus_of edge.centre_is.sign edge.centre_is.size = ap beneath edge.centre_is.is ∙ n.1 in
    let a = first s.center_x s.maximum_distance k c d edge in
    let b = last s.center_x s.maximum_distance k c d edge in
    alike (has_column s) (range (signed a.s a.h) (signed b.s b.h)) k c d
    (λ x. as_spline_rs.columns s x ∙ column_range a b x (a.ends.above (omega arith)) (b.ends.above (omega arith))) (ends_tight s.center_x s.maximum_distance k c d edge)

-- the allowance has room to spare
allowed : (lists : ℕ → Bool) (k : ℕ) (c : ℤ) (d : ℕ) → Tight lists k c d → Allowance lists k c d
allowed lists k c d z = record {
  inside = λ y h. let p = pow_pos k in z.inside y (omega arith);
  outside = λ y t. let h = z.outside y t in omega arith;
}

pub rows_near : RowsNear
rows_near s k c d edge = allowed (has_row s) k c d (rows_tight s k c d edge)

pub columns_near : ColumnsNear
columns_near s k c d edge h = allowed (has_column s) k c d (columns_tight s k c d edge h)

-- Assumes nothing.
