-- Each test of a spline decides a statement on whole numbers: it passes where the one holds, and fails where the other does.
use mathlib.Core.Path.{◌≡◌, refl, sym, ap, ◌∙◌, subst}
use mathlib.Core.Bool.{Bool, true, false, cond, true≢false}
use mathlib.Core.Logic.{◌⊎◌, inl, inr}
use Prim.Native.Nat.{ℕ, suc, ◌^◌, ◌≤◌, ◌<◌}
use native.Mathlib.Omega.{arith}
use lib.Dec.{T, leb, ltb}
use lib.IntN.{ℤ, pos, negsuc, nat_abs}
use lib.Signed.{le_z, lt_z, le_z_yes, lt_z_yes}
use lib.Ieee.{Float, is_nan}
use borrow.Author.Tests.{leb-true, leb-false, le-leb, lt-leb, ltb-true, ltb-false, lt-ltb, le-ltb}
use Rattle.codes.proofs.Decides.{Decides, both, both_decide}
use Rattle.control_points.specs.ControlPoints.{in_range, below_delta_limit, valid_point_pos, valid_double_delta, rounded_of, joined, starting_point}
use Rattle.control_points.specs.Refusals.{InRange, Beyond, Inside, Outside, Small, Large, rounded_start, RoundsTo, Strays}
use Rattle.control_points.specs.declared.Pair.{Pair}
use Rattle.control_points.specs.Answers.{Coordinate, At, Out}
use Rattle.control_points.proofs.ByKind.{start_by_kind}

-- ---- tests

holds : (b : Bool) → b ≡ true → T b
holds true e = tt
holds false e = absurd (true≢false (sym e))

is_true : (b : Bool) → T b → b ≡ true
is_true true t = refl
is_true false t = absurd t

-- ---- ranges

in_range_lem : (v : ℤ) → in_range v ≡ true → InRange v
in_range_lem v h = let b = both (le_z (negsuc 8388607) v) (lt_z v (pos 8388608)) h in (le_z_yes (holds (le_z (negsuc 8388607) v) b.0), lt_z_yes (holds (lt_z v (pos 8388608)) b.1))

range_in : (v : ℤ) → InRange v → in_range v ≡ true
range_in v r = rw (is_true (le_z (negsuc 8388607) v) r.0.le, is_true (lt_z v (pos 8388608)) r.1.lt)

beyond : (v : ℤ) → in_range v ≡ false → Beyond v
beyond (pos n) h = inr (le_z_yes (holds (leb 8388608 n) (le-leb 8388608 n (ltb-false n 8388608 h))))
beyond (negsuc n) h = go (leb n 8388607) refl h
  where
    go : (t : Bool) → leb n 8388607 ≡ t → cond t true false ≡ false → Beyond (negsuc n)
    go true e q = absurd (true≢false q)
    go false e q = inl (lt_z_yes (holds (ltb 8388607 n) (lt-ltb 8388607 n (leb-false n 8388607 e))))

beyond_not : (v : ℤ) → Beyond v → in_range v ≡ false
beyond_not (pos n) (inl h) = absurd h.lt
beyond_not (pos n) (inr h) = le-ltb n 8388608 (leb-true 8388608 n (is_true (leb 8388608 n) h.le))
beyond_not (negsuc n) (inl h) = rw (lt-leb n 8388607 (ltb-true 8388607 n (is_true (ltb 8388607 n) h.lt)))
beyond_not (negsuc n) (inr h) = absurd h.le

pub range_decides : (v : ℤ) → Decides (in_range v) (InRange v) (Beyond v)
range_decides v = record { passed = in_range_lem v; passes = range_in v; failed = beyond v; fails = beyond_not v }

pub point_decides : (p : Pair) → Decides (valid_point_pos p) (Inside p) (Outside p)
unfolding valid_point_pos
point_decides p = both_decide (range_decides p.x) (range_decides p.y)

-- ---- magnitudes

magnitude_below : (v : ℤ) → below_delta_limit v ≡ true → nat_abs v < 2 ^ 30
magnitude_below (pos n) h = ltb-true n 1073741824 h
magnitude_below (negsuc n) h = let k : n < 1073741823 = ltb-true n 1073741823 (both (ltb n 1073741823) true h).0 in omega arith

is_below : (v : ℤ) → nat_abs v < 2 ^ 30 → below_delta_limit v ≡ true
is_below (pos n) h = lt-ltb n 1073741824 h
is_below (negsuc n) h = rw (lt-ltb n 1073741823 (omega arith))

above : (v : ℤ) → below_delta_limit v ≡ false → 2 ^ 30 ≤ nat_abs v
above (pos n) h = ltb-false n 1073741824 h
above (negsuc n) h = go (ltb n 1073741823) refl h
  where
    go : (t : Bool) → ltb n 1073741823 ≡ t → cond t true false ≡ false → 2 ^ 30 ≤ suc n
    go true e q = absurd (true≢false q)
    go false e q = let k : 1073741823 ≤ n = ltb-false n 1073741823 e in omega arith

is_above : (v : ℤ) → 2 ^ 30 ≤ nat_abs v → below_delta_limit v ≡ false
is_above (pos n) h = le-ltb n 1073741824 h
is_above (negsuc n) h = rw (le-ltb n 1073741823 (omega arith))

magnitude_decides : (v : ℤ) → Decides (below_delta_limit v) (nat_abs v < 2 ^ 30) (2 ^ 30 ≤ nat_abs v)
magnitude_decides v = record { passed = magnitude_below v; passes = is_below v; failed = above v; fails = is_above v }

pub double_delta_decides : (p : Pair) → Decides (valid_double_delta p) (Small p) (Large p)
unfolding valid_double_delta
double_delta_decides p = both_decide (magnitude_decides p.x) (magnitude_decides p.y)

-- ---- starts

module _ (c : Float) where
  by_tests : (n t : Bool) → is_nan c ≡ n → in_range (rounded_start c) ≡ t → (v : ℤ) → cond n Out (cond t (At (rounded_start c)) Out) ≡ At v → RoundsTo c v
  by_tests true t e r v h = absurd (let z : ◌≡◌ {A = ℕ} 0 1 = cc in omega arith)
  by_tests false false e r v h = absurd (let z : ◌≡◌ {A = ℕ} 0 1 = cc in omega arith)
  by_tests false true e r v h =
      let q : rounded_start c ≡ v = cc in
      record { number = e; is = sym q; inside = subst InRange q ((range_decides (rounded_start c)).passed r) }

  pub rounds_to : (v : ℤ) → rounded_of c ≡ At v → RoundsTo c v
  rounds_to v h = by_tests (is_nan c) (in_range (rounded_start c)) refl refl v (sym (start_by_kind c) ∙ h)

  pub rounded_to : (v : ℤ) → RoundsTo c v → rounded_of c ≡ At v
  rounded_to v r =
      let e : in_range (rounded_start c) ≡ true = (range_decides (rounded_start c)).passes (subst InRange r.is r.inside) in
      start_by_kind c ∙ by (is_nan c) (in_range (rounded_start c)) r.number e
    where
      by : (n t : Bool) → n ≡ false → t ≡ true → cond n Out (cond t (At (rounded_start c)) Out) ≡ At v
      by n t p q = rw (p, q, r.is)

  out_by_tests : (n t : Bool) → is_nan c ≡ n → in_range (rounded_start c) ≡ t → cond n Out (cond t (At (rounded_start c)) Out) ≡ Out → Strays c
  out_by_tests true t e r h = inl e
  out_by_tests false false e r h = inr ((range_decides (rounded_start c)).failed r)
  out_by_tests false true e r h = absurd (let z : ◌≡◌ {A = ℕ} 0 1 = cc in omega arith)

  pub strays : rounded_of c ≡ Out → Strays c
  strays h = out_by_tests (is_nan c) (in_range (rounded_start c)) refl refl (sym (start_by_kind c) ∙ h)

  pub strayed : Strays c → rounded_of c ≡ Out
  strayed (inl e) = start_by_kind c ∙ ap (λ (n : Bool). cond n Out (cond (in_range (rounded_start c)) (At (rounded_start c)) Out)) e
  strayed (inr b) = start_by_kind c ∙ go (is_nan c) ((range_decides (rounded_start c)).fails b)
    where
      go : (n : Bool) → in_range (rounded_start c) ≡ false → cond n Out (cond (in_range (rounded_start c)) (At (rounded_start c)) Out) ≡ Out
      go true e = refl
      go false e = rw e

module _ (x y : Float) where
  pub starts_at : (p : Pair) → starting_point x y ≡ At p → RoundsTo x p.x × RoundsTo y p.y
  unfolding starting_point
  starts_at p h = go (rounded_of x) (rounded_of y) refl refl h
    where
      go : (a b : Coordinate) → rounded_of x ≡ a → rounded_of y ≡ b → joined a b ≡ At p → RoundsTo x p.x × RoundsTo y p.y
      go Out b e f q = absurd (let z : ◌≡◌ {A = ℕ} 0 1 = cc in omega arith)
      go (At a) Out e f q = absurd (let z : ◌≡◌ {A = ℕ} 0 1 = cc in omega arith)
      go (At a) (At b) e f q =
          let s : ◌≡◌ {A = Pair} (record { x = a; y = b }) p = cc in
          subst (λ (t : Pair). RoundsTo x t.x × RoundsTo y t.y) s (rounds_to x a e, rounds_to y b f)

  pub starting_at : (p : Pair) → RoundsTo x p.x → RoundsTo y p.y → starting_point x y ≡ At p
  unfolding starting_point
  starting_at p a b = rw (rounded_to x p.x a, rounded_to y p.y b)

  pub starts_out : starting_point x y ≡ Out → Strays x ⊎ Strays y
  unfolding starting_point
  starts_out h = go (rounded_of x) (rounded_of y) refl refl h
    where
      go : (a b : Coordinate) → rounded_of x ≡ a → rounded_of y ≡ b → joined a b ≡ Out → Strays x ⊎ Strays y
      go Out b e f q = inl (strays x e)
      go (At a) Out e f q = inr (strays y f)
      go (At a) (At b) e f q = absurd (let z : ◌≡◌ {A = ℕ} 0 1 = cc in omega arith)

  pub starting_out : Strays x ⊎ Strays y → starting_point x y ≡ Out
  unfolding starting_point
  starting_out (inl s) = rw (strayed x s)
  starting_out (inr s) = go (rounded_of x) (strayed y s)
    where
      go : (a : Coordinate) → rounded_of y ≡ Out → joined a (rounded_of y) ≡ Out
      go Out e = refl
      go (At a) e = rw e

-- Assumes nothing.
