-- Laws of a row's entries, taken from the front: what is still to be drawn and to be counted after each of them.
use mathlib.Core.Path.{◌≡◌, refl, sym, ap, ◌∙◌, subst}
use mathlib.Core.Bool.{Bool, true, false, cond}
use mathlib.Core.List.{List, [], ◌∷◌}
use Prim.Native.Nat.{ℕ, zero, suc, ◌+◌, ◌*◌, ◌^◌, ◌<◌, ◌≤◌}
use native.Mathlib.Nat.{le_trans, suc-mul, mul-le-mul_left, mul-le-mul_right}
use native.Mathlib.Omega.{arith}
use lib.ListN.{length, get_or}
use lib.Seq.{slice, length-slice}
use lib.Dec.{ltb}
use lib.Ieee.{Float}
use Rattle.segments.specs.Segment.{segment_at}
use Rattle.segments.specs.Ranges.{has_column}
use Rattle.shade.specs.Edit.{edit, first_cells}
use Rattle.shade.proofs.Edits.{length_edit, edit_cong, edit_edit}
use Rattle.desks.specs.Desks.{Sight, hidden_in, shown}
use Rattle.desks.proofs.Shown.{shown_most}
use Rattle.checks.specs.Tables.{Table}
use Rattle.checks.specs.Checks.{EntriesFit}
use Rattle.checks.proofs.Entries.{slice_next, slice_none, rest_fit}
use Rattle.columns.specs.Columns.{pixel, count, updates}
use Rattle.singles.proofs.Singles.{rest, nothing_drawn}

bit : (b : Bool) → cond b 1 0 ≤ 1
bit true = omega arith
bit false = omega arith

pub count_le : (p : ℕ → Bool) (x0 n : ℕ) → count p x0 n ≤ n
count_le p x0 zero = omega arith
count_le p x0 (suc n) = omega (arith, bit (p (x0 + n)), count_le p x0 n)

-- at most the width times the entries
pub updates_le : (segs : List Float) (x0 n : ℕ) (es : List ℕ) → updates segs x0 n es ≤ length es * n
updates_le segs x0 n [] = omega arith
updates_le segs x0 n (s ∷ es) = rw (suc-mul (length es) n) (omega (arith, count_le (has_column (segment_at segs s)) x0 n, updates_le segs x0 n es))

-- and so no overflow
pub updates_small : (s : Sight) (segs : List Float) (x0 n b e : ℕ) (l : List ℕ) → n ≤ 2 ^ 23 → e ≤ length l → e ≤ 2 ^ 30 → updates segs x0 n (shown s (slice b e l)) ≤ 2 ^ 53
updates_small s segs x0 n b e l h k g =
    let m : length (slice b e l) ≤ 2 ^ 30 = rw (length-slice b e l k) (omega arith) in
    let w : length (shown s (slice b e l)) ≤ 2 ^ 30 = omega (arith, m, shown_most s (slice b e l)) in
    le_trans (updates_le segs x0 n (shown s (slice b e l)))
    (le_trans (mul-le-mul_left (length (shown s (slice b e l))) h)
    (mul-le-mul_right (2 ^ 23) w))

-- ---- the first of listed segments, shown or not

updates_first : (s : Sight) (segs : List Float) (x0 n i : ℕ) (l : List ℕ) → updates segs x0 n (shown s (i ∷ l)) ≡ updates segs x0 n (shown s (i ∷ [])) + updates segs x0 n (shown s l)
updates_first s segs x0 n i l = go (hidden_in s i)
  where
    go : (b : Bool) → updates segs x0 n (cond b (shown s l) (i ∷ shown s l)) ≡ updates segs x0 n (cond b [] (i ∷ [])) + updates segs x0 n (shown s l)
    go true = omega arith
    go false = omega arith

pixel_first : (s : Sight) (c : ℕ) (segs : List Float) (y x i : ℕ) (l : List ℕ) (v : Float) → pixel c segs y x (shown s l) (pixel c segs y x (shown s (i ∷ [])) v) ≡ pixel c segs y x (shown s (i ∷ l)) v
pixel_first s c segs y x i l v = go (hidden_in s i)
  where
    go : (b : Bool) → pixel c segs y x (shown s l) (pixel c segs y x (cond b [] (i ∷ [])) v) ≡ pixel c segs y x (cond b (shown s l) (i ∷ shown s l)) v
    go true = refl
    go false = refl

-- ---- from entry to entry

pub total_next : (s : Sight) (segs : List Float) (x0 n i e : ℕ) (l : List ℕ) (total r all : ℕ) → i < e → e ≤ length l → total + updates segs x0 n (shown s (slice i e l)) ≡ all → r ≡ updates segs x0 n (shown s (get_or l i 0 ∷ [])) → total + r + updates segs x0 n (shown s (slice (i + 1) e l)) ≡ all
total_next s segs x0 n i e l total r all h k p q =
    omega (arith, p, q, ap (λ (m : List ℕ). updates segs x0 n (shown s m)) (slice_next i e l h k), updates_first s segs x0 n (get_or l i 0) (slice (i + 1) e l))

twice_cond : (b : Bool) (g : Float → Float) (w v : Float) → cond b (g (cond b w v)) (cond b w v) ≡ cond b (g w) v
twice_cond true g w v = refl
twice_cond false g w v = refl

pub rest_next : (s : Sight) (c : ℕ) (segs : List Float) (y x0 n i e : ℕ) (l : List ℕ) (xs ys all : List Float) → i < e → e ≤ length l → rest c segs y x0 n (shown s (slice i e l)) xs ≡ all → ys ≡ rest c segs y x0 n (shown s (get_or l i 0 ∷ [])) xs → rest c segs y x0 n (shown s (slice (i + 1) e l)) ys ≡ all
rest_next s c segs y x0 n i e l xs ys all h k p q =
    ap (rest c segs y x0 n (shown s (slice (i + 1) e l))) q
    ∙ edit_edit (first_cells n (λ j v. pixel c segs y (x0 + j) (shown s (get_or l i 0 ∷ [])) v)) (first_cells n (λ j v. pixel c segs y (x0 + j) (shown s (slice (i + 1) e l)) v)) xs
    ∙ edit_cong _ (first_cells n (λ j v. pixel c segs y (x0 + j) (shown s (get_or l i 0 ∷ slice (i + 1) e l)) v)) xs
    (λ j v m.
    twice_cond (ltb j n) (λ w. pixel c segs y (x0 + j) (shown s (slice (i + 1) e l)) w) (pixel c segs y (x0 + j) (shown s (get_or l i 0 ∷ [])) v) v
    ∙ ap (λ (w : Float). cond (ltb j n) w v) (pixel_first s c segs y (x0 + j) (get_or l i 0) (slice (i + 1) e l) v))
    ∙ ap (λ (es : List ℕ). rest c segs y x0 n (shown s es) xs) (sym (slice_next i e l h k))
    ∙ p

-- ---- none left

pub rest_none : (s : Sight) (c : ℕ) (segs : List Float) (y x0 n i e : ℕ) (l : List ℕ) (xs : List Float) → i ≤ e → e ≤ i → rest c segs y x0 n (shown s (slice i e l)) xs ≡ xs
rest_none s c segs y x0 n i e l xs h k = ap (λ (es : List ℕ). rest c segs y x0 n (shown s es) xs) (slice_none i e l h k) ∙ sym (nothing_drawn n xs)

pub total_none : (s : Sight) (segs : List Float) (x0 n i e : ℕ) (l : List ℕ) (total all : ℕ) → i ≤ e → e ≤ i → total + updates segs x0 n (shown s (slice i e l)) ≡ all → total ≡ all
total_none s segs x0 n i e l total all h k p = omega (arith, p, ap (λ (m : List ℕ). updates segs x0 n (shown s m)) (slice_none i e l h k))

as_long : (f : ℕ → Float → Float) (xs ys zs : List Float) → ys ≡ edit f xs → length xs ≡ length zs → length ys ≡ length zs
as_long f xs ys zs e h = ap length e ∙ length_edit f xs ∙ h

-- ---- the way through the entries from b up to e

-- with those before j drawn: those from j on fit, and what is still to be drawn and counted brings the channels and the total to what they are to be
pub record Going (t : Table) (s : Sight) (y x0 n b e j total : ℕ) (a0 a1 a2 r0 r1 r2 : List Float) : Type 0 where
  pub fit : EntriesFit t s j e
  pub length0 : length r0 ≡ length a0
  pub length1 : length r1 ≡ length a1
  pub length2 : length r2 ≡ length a2
  pub counts : total + updates t.segments x0 n (shown s (slice j e t.entries)) ≡ updates t.segments x0 n (shown s (slice b e t.entries))
  pub draws0 : rest 0 t.segments y x0 n (shown s (slice j e t.entries)) r0 ≡ rest 0 t.segments y x0 n (shown s (slice b e t.entries)) a0
  pub draws1 : rest 1 t.segments y x0 n (shown s (slice j e t.entries)) r1 ≡ rest 1 t.segments y x0 n (shown s (slice b e t.entries)) a1
  pub draws2 : rest 2 t.segments y x0 n (shown s (slice j e t.entries)) r2 ≡ rest 2 t.segments y x0 n (shown s (slice b e t.entries)) a2

pub starts : {t : Table} {s : Sight} (y x0 n : ℕ) {b e : ℕ} (m : ℕ) (a0 a1 a2 : List Float) → m ≡ b → EntriesFit t s b e → Going t s y x0 n b e m 0 a0 a1 a2 a0 a1 a2
starts y x0 n m a0 a1 a2 q f = rw q (record { fit = f; length0 = refl; length1 = refl; length2 = refl; counts = omega arith; draws0 = refl; draws1 = refl; draws2 = refl })

module _ {t : Table} {s : Sight} {y x0 n b e j total : ℕ} {a0 a1 a2 r0 r1 r2 : List Float} (g : Going t s y x0 n b e j total a0 a1 a2 r0 r1 r2) where
  -- the total is small, on the way and at the end
  pub total_small : n ≤ 2 ^ 23 → e ≤ 2 ^ 30 → total + updates t.segments x0 n (shown s (slice j e t.entries)) ≤ 2 ^ 53
  total_small h k = omega (arith, g.counts, updates_small s t.segments x0 n b e t.entries h g.fit.entries_fit k)

  -- the same place, by another name
  pub at_place : (m : ℕ) → m ≡ j → Going t s y x0 n b e m total a0 a1 a2 r0 r1 r2
  at_place m q = subst (λ (k : ℕ). Going t s y x0 n b e k total a0 a1 a2 r0 r1 r2) (sym q) g

  -- with entry j drawn
  pub goes_on : j < e → {r : ℕ} → r ≡ updates t.segments x0 n (shown s (get_or t.entries j 0 ∷ []))
      → {z0 z1 z2 : List Float}
      → z0 ≡ rest 0 t.segments y x0 n (shown s (get_or t.entries j 0 ∷ [])) r0
      → z1 ≡ rest 1 t.segments y x0 n (shown s (get_or t.entries j 0 ∷ [])) r1
      → z2 ≡ rest 2 t.segments y x0 n (shown s (get_or t.entries j 0 ∷ [])) r2
      → Going t s y x0 n b e (j + 1) (total + r) a0 a1 a2 z0 z1 z2
  goes_on h {r} v {z0} {z1} {z2} p0 p1 p2 = record {
    fit = rest_fit g.fit h;
    length0 = as_long _ _ _ _ p0 g.length0;
    length1 = as_long _ _ _ _ p1 g.length1;
    length2 = as_long _ _ _ _ p2 g.length2;
    counts = total_next s t.segments x0 n j e t.entries total r _ h g.fit.entries_fit g.counts v;
    draws0 = rest_next s 0 t.segments y x0 n j e t.entries r0 z0 _ h g.fit.entries_fit g.draws0 p0;
    draws1 = rest_next s 1 t.segments y x0 n j e t.entries r1 z1 _ h g.fit.entries_fit g.draws1 p1;
    draws2 = rest_next s 2 t.segments y x0 n j e t.entries r2 z2 _ h g.fit.entries_fit g.draws2 p2;
  }

  -- with all drawn
  pub ends : e ≤ j → (total ≡ updates t.segments x0 n (shown s (slice b e t.entries)))
      × (r0 ≡ rest 0 t.segments y x0 n (shown s (slice b e t.entries)) a0)
      × (r1 ≡ rest 1 t.segments y x0 n (shown s (slice b e t.entries)) a1)
      × (r2 ≡ rest 2 t.segments y x0 n (shown s (slice b e t.entries)) a2)
  ends h = (
    total_none s t.segments x0 n j e t.entries total _ g.fit.ascending h g.counts,
    sym (rest_none s 0 t.segments y x0 n j e t.entries r0 g.fit.ascending h) ∙ g.draws0,
    sym (rest_none s 1 t.segments y x0 n j e t.entries r1 g.fit.ascending h) ∙ g.draws1,
    sym (rest_none s 2 t.segments y x0 n j e t.entries r2 g.fit.ascending h) ∙ g.draws2,
  )

-- with the next two entries drawn
pub goes_on_by_two : {t : Table} {s : Sight} {y x0 n b e j total : ℕ} {a0 a1 a2 r0 r1 r2 : List Float} → Going t s y x0 n b e j total a0 a1 a2 r0 r1 r2
    → j + 1 < e → (m : ℕ) → m ≡ j + 1 + 1 → {r : ℕ}
    → r ≡ updates t.segments x0 n (shown s (get_or t.entries j 0 ∷ [])) + updates t.segments x0 n (shown s (get_or t.entries (j + 1) 0 ∷ []))
    → {z0 z1 z2 : List Float}
    → z0 ≡ rest 0 t.segments y x0 n (shown s (get_or t.entries (j + 1) 0 ∷ [])) (rest 0 t.segments y x0 n (shown s (get_or t.entries j 0 ∷ [])) r0)
    → z1 ≡ rest 1 t.segments y x0 n (shown s (get_or t.entries (j + 1) 0 ∷ [])) (rest 1 t.segments y x0 n (shown s (get_or t.entries j 0 ∷ [])) r1)
    → z2 ≡ rest 2 t.segments y x0 n (shown s (get_or t.entries (j + 1) 0 ∷ [])) (rest 2 t.segments y x0 n (shown s (get_or t.entries j 0 ∷ [])) r2)
    → Going t s y x0 n b e m (total + r) a0 a1 a2 z0 z1 z2
goes_on_by_two {t} {s} {y} {x0} {n} {b} {e} {j} {total} {a0} {a1} {a2} g h m two {r} v {z0} {z1} {z2} p0 p1 p2 =
    let sums : total + updates t.segments x0 n (shown s (get_or t.entries j 0 ∷ [])) + updates t.segments x0 n (shown s (get_or t.entries (j + 1) 0 ∷ [])) ≡ total + r = omega (arith, v) in
    subst (λ (k : ℕ). Going t s y x0 n b e k (total + r) a0 a1 a2 z0 z1 z2) (sym two)
    (subst (λ (k : ℕ). Going t s y x0 n b e (j + 1 + 1) k a0 a1 a2 z0 z1 z2) sums
    (goes_on (goes_on g (omega (arith, h)) refl refl refl refl) h refl p0 p1 p2))

-- Assumes nothing.
