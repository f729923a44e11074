-- Laws of writing: what a loop has stored, with what it has still to store, is what it stores in all.
use mathlib.Core.Path.{◌≡◌, refl, sym, ap, ◌∙◌}
use mathlib.Core.Bool.{Bool, true, false}
use mathlib.Core.List.{List, [], ◌∷◌, ◌++◌, map}
use Prim.Native.Nat.{ℕ, zero, suc, ◌+◌, ◌-◌, ◌*◌, ◌%◌, ◌≤◌, ◌<◌}
use native.Mathlib.Nat.{add-zero, sub-zero}
use native.Mathlib.Omega.{arith}
use lib.ListN.{length, take, drop, set, get_or, replicate, length-set, length-drop, length-append, length-map, length-replicate, drop_of_length-le}
use lib.Seq.{drop-cons, drop-drop, sets, length-sets, sets-eq, length-take-le}
use lib.IntN.{ℤ, pos, nat_abs, ◌-ℤ◌}
use lib.Ieee.{Float, nan}
use Rattle.shape.specs.Shape.{points_of}
use Rattle.list.specs.List.{pack_signed, starts_list, spline_list, splines_list}
use Rattle.write_judge.specs.Judge.{first_fault, unfit, start_checks}
use Rattle.write_judge.specs.Verdict.{Fine}
use Rattle.write_steps.specs.Steps.{whole_of, values_of, later_list}
use Rattle.shape.proofs.Shape.{sum_turn}
use Rattle.write_judge.proofs.Checks.{starts_fine}
use Rattle.write_judge.proofs.Starts.{fit_any}

-- stores of one list after another
pub sets_append : {A : Type 0} (l : List A) (p : ℕ) (xs ys : List A) → sets l p (xs ++ ys) ≡ sets (sets l p xs) (p + length xs) ys
sets_append l p [] ys = rw (add-zero p)
sets_append l p (x ∷ xs) ys =
    let e : p + suc (length xs) ≡ suc p + length xs = omega arith in
    rw e (sets_append (set l p x) (suc p) xs ys)

-- ---- signed numbers

module _ (l : List ℕ) (ns : List ℤ) (p i : ℕ) where
  pub numbers_turn : (v : ℕ) → i < length ns → v ≡ pack_signed (get_or ns i (pos 0))
      → sets (set l p v) (p + 1) (map pack_signed (drop (i + 1) ns)) ≡ sets l p (map pack_signed (drop i ns))
  numbers_turn v h e =
      let s : p + 1 ≡ suc p = omega arith in
      let t : i + 1 ≡ suc i = omega arith in
      rw (s, t, drop-cons ns i (pos 0), e)

  pub numbers_end : length ns ≤ i → sets l p (map pack_signed (drop i ns)) ≡ l
  numbers_end h = rw (drop_of_length-le ns h)

-- ---- starts

later_turn : (ss : List Float) (i : ℕ) → 2 ≤ i → i + 1 < length ss
    → later_list ss i
    ≡ pack_signed (whole_of (get_or ss i nan) -ℤ whole_of (get_or ss (i - 2) nan))
    ∷ pack_signed (whole_of (get_or ss (i + 1) nan) -ℤ whole_of (get_or ss (i - 1) nan))
    ∷ later_list ss (i + 2)
unfolding later_list
later_turn ss i g h =
    let a : i < length ss = omega arith in
    let b : suc i < length ss = omega arith in
    let e : i + 2 ≡ suc (suc i) = omega arith in
    let f : i + 1 ≡ suc i = omega arith in
    let x : i + 2 - 2 ≡ i = omega arith in
    let y : i + 2 - 1 ≡ i + 1 = omega arith in
    rw (x, y, e, f, drop-cons ss i nan a, drop-cons ss (suc i) nan b)

-- the starts from i on are left, and those before are stored
pub record Later (ss : List Float) (l₀ l : List ℕ) (i : ℕ) : Type 0 where
  pub even : i % 2 ≡ 0
  pub two : 2 ≤ i
  pub inside : i ≤ length ss
  pub room : length l ≡ length l₀
  pub last_x : unfit (get_or ss (i - 2) nan) ≡ false
  pub last_y : unfit (get_or ss (i - 1) nan) ≡ false
  pub fine : first_fault (start_checks false (i + 1) (drop i ss)) ≡ Fine
  pub so : sets l (i + 1) (later_list ss i) ≡ sets l₀ 3 (later_list ss 2)

pub later_begin : (ss : List Float) (l : List ℕ) → 2 ≤ length ss → first_fault (start_checks true 1 ss) ≡ Fine → Later ss l l 2
later_begin ss l h e =
    let f = starts_fine true ss 1 0 (omega arith) e in
    record {
      even = refl;
      two = omega arith;
      inside = h;
      room = refl;
      last_x = fit_any true (get_or ss 0 nan) f.0;
      last_y = fit_any true (get_or ss 1 nan) f.1;
      fine = f.2;
      so = refl;
    }

module _ (ss : List Float) (l₀ l : List ℕ) (i : ℕ) (at : Later ss l₀ l i) (h : i + 1 < length ss) where
  pub later_now : (unfit (get_or ss i nan) ≡ false) × (unfit (get_or ss (i + 1) nan) ≡ false)
  later_now =
      let f = starts_fine false ss (i + 1) i h at.fine in
      (fit_any false (get_or ss i nan) f.0, fit_any false (get_or ss (i + 1) nan) f.1)

  pub later_more : (a b : ℕ) → a ≡ pack_signed (whole_of (get_or ss i nan) -ℤ whole_of (get_or ss (i - 2) nan))
      → b ≡ pack_signed (whole_of (get_or ss (i + 1) nan) -ℤ whole_of (get_or ss (i - 1) nan))
      → length ss % 2 ≡ 0 → Later ss l₀ (set (set l (i + 1) a) (i + 2) b) (i + 2)
  later_more a b p q whole =
      let f = starts_fine false ss (i + 1) i h at.fine in
      let x : i + 2 - 2 ≡ i = omega arith in
      let y : i + 2 - 1 ≡ i + 1 = omega arith in
      let s : i + 2 ≡ suc (i + 1) = omega arith in
      let t : i + 2 + 1 ≡ suc (suc (i + 1)) = omega arith in
      let u : i + 1 + 2 ≡ i + 2 + 1 = omega arith in
      let stored : sets (set (set l (i + 1) a) (i + 2) b) (i + 2 + 1) (later_list ss (i + 2)) ≡ sets l (i + 1) (later_list ss i)
      = rw (later_turn ss i at.two h, ← p, ← q, t, ap (λ (k : ℕ). set (set l (i + 1) a) k b) s) in
      record {
        even = omega (arith, at.even);
        two = omega arith;
        inside = omega (arith, at.even);
        room = length-set (set l (i + 1) a) (i + 2) b ∙ length-set l (i + 1) a ∙ at.room;
        last_x = rw x (fit_any false (get_or ss i nan) f.0);
        last_y = rw y (fit_any false (get_or ss (i + 1) nan) f.1);
        fine = rw u at f.2;
        so = stored ∙ at.so;
      }

pub later_end : (ss : List Float) (l₀ l : List ℕ) (i : ℕ) → Later ss l₀ l i → length ss ≤ i → l ≡ sets l₀ 3 (later_list ss 2)
unfolding later_list
later_end ss l₀ l i at h = rw (drop_of_length-le ss h) at at.so

pub starts_stored : (ss : List Float) (l : List ℕ) (a b : ℕ) → 2 ≤ length ss → a ≡ nat_abs (whole_of (get_or ss 0 nan)) → b ≡ nat_abs (whole_of (get_or ss 1 nan))
    → sets (set (set l 1 a) 2 b) 3 (later_list ss 2) ≡ sets l 1 (starts_list true (pos 0) (pos 0) (map whole_of ss))
unfolding later_list
starts_stored [] l a b h p q = absurd (omega arith)
starts_stored (x ∷ []) l a b h p q = absurd (omega arith)
starts_stored (x ∷ y ∷ ss) l a b h p q = rw (p, q)

-- ---- splines

-- a spline: its count, its double deltas and its coefficients, one after the other
pub spline_stored : (l o1 o2 o3 : List ℕ) (at n first after : ℕ) (ds cs : List ℤ) → first ≡ at + 1 → after ≡ first + length ds
    → o1 ≡ set l at n → o2 ≡ sets o1 first (map pack_signed ds) → o3 ≡ sets o2 after (map pack_signed cs)
    → o3 ≡ sets l at (n ∷ (map pack_signed ds ++ map pack_signed cs))
spline_stored l o1 o2 o3 at n first after ds cs f g p q r =
    let s : first ≡ suc at = omega arith in
    let t : after ≡ suc at + length (map pack_signed ds) = omega (arith, length-map ds pack_signed) in
    r ∙ rw (q, p, s, t) (sym (sets_append (set l at n) (suc at) (map pack_signed ds) (map pack_signed cs)))

-- the splines from i on are left, and those before are stored
pub record Rows (ns : List ℕ) (ds cs : List ℤ) (l₀ : List ℕ) (at : ℕ) (l : List ℕ) (place from row i : ℕ) : Type 0 where
  pub turns : i ≤ length ns
  pub room : length l ≡ length l₀
  pub part : from + 2 * points_of (drop i ns) ≡ length ds
  pub cells : row ≡ 128 * i
  pub stands : place ≡ at + from + 129 * i
  pub so : sets l place (splines_list (drop i ns) (drop from ds) (drop row cs)) ≡ sets l₀ at (splines_list ns ds cs)

pub rows_begin : (ns : List ℕ) (ds cs : List ℤ) (l : List ℕ) (at : ℕ) → length ds ≡ 2 * points_of ns → Rows ns ds cs l at l at 0 0 0
rows_begin ns ds cs l at h = record { turns = omega arith; room = refl; part = omega arith; cells = refl; stands = omega arith; so = refl }

module _ (ns : List ℕ) (ds cs : List ℤ) (l₀ : List ℕ) (at : ℕ) (l : List ℕ) (place from row i : ℕ) (now : Rows ns ds cs l₀ at l place from row i) where
  pub rows_within : i < length ns → from + 2 * get_or ns i 0 ≤ length ds
  rows_within h = omega (arith, now.part, sum_turn ns i h)

  pub rows_more : (h : i < length ns) (pd pc : List ℤ) (l' : List ℕ)
      → pd ≡ take (from + 2 * get_or ns i 0 - from) (drop from ds) → pc ≡ take (row + 128 - row) (drop row cs) → length pc ≡ 128
      → l' ≡ sets l place (get_or ns i 0 ∷ (map pack_signed pd ++ map pack_signed pc))
      → Rows ns ds cs l₀ at l' (place + (2 * get_or ns i 0 + 129)) (from + 2 * get_or ns i 0) (row + 128) (i + 1)
  rows_more h pd pc l' d c k e =
      let n = get_or ns i 0 in
      let one = n ∷ (map pack_signed pd ++ map pack_signed pc) in
      let a : from + 2 * n - from ≡ 2 * n = omega arith in
      let b : row + 128 - row ≡ 128 = omega arith in
      let x : take (2 * n) (drop from ds) ≡ pd = sym (d ∙ ap (λ (m : ℕ). take m (drop from ds)) a) in
      let y : take 128 (drop row cs) ≡ pc = sym (c ∙ ap (λ (m : ℕ). take m (drop row cs)) b) in
      let s : i + 1 ≡ suc i = omega arith in
      let long : length pd ≡ 2 * n = ap length (sym x) ∙ length-take-le (2 * n) (drop from ds) (omega (arith, length-drop from ds, rows_within h)) in
      let size : length one ≡ 2 * n + 129
      = ap suc (length-append (map pack_signed pd) (map pack_signed pc)) ∙ omega (arith, length-map pd pack_signed, length-map pc pack_signed) in
      let rest = splines_list (drop (i + 1) ns) (drop (from + 2 * n) ds) (drop (row + 128) cs) in
      let split : splines_list (drop i ns) (drop from ds) (drop row cs) ≡ one ++ rest
      = rw (s, drop-cons ns i 0, x, y, drop-drop (2 * n) from ds, drop-drop 128 row cs) in
      let stored : sets l' (place + (2 * n + 129)) rest ≡ sets l place (splines_list (drop i ns) (drop from ds) (drop row cs))
      = rw (split, e, sets_append l place one rest, size) in
      record {
        turns = omega arith;
        room = ap length e ∙ length-sets l place one ∙ now.room;
        part = omega (arith, now.part, sum_turn ns i h);
        cells = omega (arith, now.cells);
        stands = omega (arith, now.stands);
        so = stored ∙ now.so;
      }

  pub rows_end : length ns ≤ i → l ≡ sets l₀ at (splines_list ns ds cs)
  rows_end h = rw (drop_of_length-le ns h) at now.so

-- ---- the whole list

starts_length : (k : ℕ) (first : Bool) (x y : ℤ) (zs : List ℤ) → length zs ≡ 2 * k → length (starts_list first x y zs) ≡ length zs
starts_length zero first x y [] h = refl
starts_length zero first x y (a ∷ zs) h = absurd (omega arith)
starts_length (suc k) first x y [] h = refl
starts_length (suc k) first x y (a ∷ []) h = absurd (omega arith)
starts_length (suc k) true x y (a ∷ b ∷ zs) h = ap (λ (n : ℕ). suc (suc n)) (starts_length k false a b zs (omega arith))
starts_length (suc k) false x y (a ∷ b ∷ zs) h = ap (λ (n : ℕ). suc (suc n)) (starts_length k false a b zs (omega arith))

splines_length : (ns : List ℕ) (ds cs : List ℤ) → length ds ≡ 2 * points_of ns → length cs ≡ 128 * length ns → length (splines_list ns ds cs) ≡ 129 * length ns + length ds
splines_length [] ds cs d c = omega arith
splines_length (n ∷ ns) ds cs d c =
    let one = length-map (take (2 * n) ds) pack_signed ∙ length-take-le (2 * n) ds (omega arith) in
    let two = length-map (take 128 cs) pack_signed ∙ length-take-le 128 cs (omega arith) in
    let ld = length-drop (2 * n) ds in
    let lc = length-drop 128 cs in
    let ih = splines_length ns (drop (2 * n) ds) (drop 128 cs) (omega arith) (omega arith) in
    length-append (spline_list n ds cs) (splines_list ns (drop (2 * n) ds) (drop 128 cs))
    ∙ omega (arith, length-append (map pack_signed (take (2 * n) ds)) (map pack_signed (take 128 cs)))

module _ (ns : List ℕ) (ss : List Float) (ds cs : List ℤ) (a : ℤ) (hs : length ss ≡ 2 * length ns) where
  pub list_starts : length (starts_list true (pos 0) (pos 0) (map whole_of ss)) ≡ length ss
  list_starts = starts_length (length ns) true (pos 0) (pos 0) (map whole_of ss) (length-map ss whole_of ∙ hs) ∙ length-map ss whole_of

  pub list_length : length ds ≡ 2 * points_of ns → length cs ≡ 128 * length ns → length (values_of ns ss ds cs a) ≡ 131 * length ns + length ds + 2
  unfolding values_of
  list_length d c =
      ap suc (length-append (starts_list true (pos 0) (pos 0) (map whole_of ss)) (pack_signed a ∷ splines_list ns ds cs))
      ∙ omega (arith, list_starts, splines_length ns ds cs d c)

  pub list_stored : (l o1 o2 o3 o4 : List ℕ) (v after : ℕ) → after ≡ length ss + 1
      → o1 ≡ set l 0 (length ns - 1) → o2 ≡ sets o1 1 (starts_list true (pos 0) (pos 0) (map whole_of ss))
      → v ≡ pack_signed a → o3 ≡ set o2 after v → o4 ≡ sets o3 (after + 1) (splines_list ns ds cs) → o4 ≡ sets l 0 (values_of ns ss ds cs a)
  unfolding values_of
  list_stored l o1 o2 o3 o4 v after e p q w r s =
      let first = starts_list true (pos 0) (pos 0) (map whole_of ss) in
      let x : after ≡ 1 + length first = omega (arith, list_starts) in
      let y : after + 1 ≡ suc (1 + length first) = omega (arith, list_starts) in
      s ∙ rw (r, q, p, w, y, x) (sym (sets_append (set l 0 (length ns - 1)) 1 first (pack_signed a ∷ splines_list ns ds cs)))

drop_zeros : (n k : ℕ) → drop k (replicate {A = ℕ} n 0) ≡ replicate (n - k) 0
drop_zeros n zero = rw sub-zero
drop_zeros zero (suc k) = rw (zero_less (suc k))
  where
    zero_less : (k : ℕ) → 0 - k ≡ 0
    zero_less k = omega arith
drop_zeros (suc n) (suc k) =
    let e : suc n - suc k ≡ n - k = omega arith in
    rw e (drop_zeros n k)

-- values stored in a list of zeros
pub zeros_after : (room : ℕ) (vs : List ℕ) → length vs ≤ room → sets (replicate room 0) 0 vs ≡ vs ++ replicate (room - length vs) 0
zeros_after room vs h =
    let z : length (replicate {A = ℕ} room 0) ≡ room = length-replicate room 0 in
    sets-eq vs (replicate room 0) 0 (omega arith) ∙ rw (drop_zeros room (0 + length vs)) (ap (λ (k : ℕ). vs ++ replicate (room - k) 0) (omega arith))

-- Assumes nothing.
