-- One turn of each loop of reading, and where it stops: what was read stands in the front of the buffer, and what is left is read from the rest of the list.
use mathlib.Core.Path.{◌≡◌, refl, sym, ap, subst, ◌∙◌}
use mathlib.Core.Bool.{Bool, true, false}
use mathlib.Core.List.{List, [], ◌∷◌, ◌++◌, append_assoc, append-nil}
use Prim.Native.Nat.{ℕ, zero, suc, ◌+◌, ◌-◌, ◌*◌, ◌≤◌, ◌<◌}
use native.Mathlib.Nat.{not-suc-le-zero}
use native.Mathlib.Numerals.{add-one}
use native.Mathlib.Omega.{arith}
use lib.ListN.{length, get_or, take, drop, set, length-set, length-drop, take-append-drop}
use lib.Seq.{take-suc-set, drop-set-lt, drop-drop, length-take-le}
use lib.Dec.{eqb}
use lib.IntN.{ℤ, pos}
use borrow.Author.Tests.{ne_eqb}
use lib.Ieee.{Float}
use Rattle.std.specs.Prelude.{Ok}
use Rattle.codes.specs.declared.Code.{Code}
use Rattle.codes.specs.Refusal.{refused}
use Rattle.list.specs.List.{unpack_signed, pos_limit, delta_limit, beyond, Got, got, stop, onto, coordinate, starts_in, deltas_in, coefficients_in}
use Rattle.list.specs.Steps.{f32_of}
use Rattle.list.proofs.Buffers.{part_tail}
use Rattle.read_steps.specs.Steps.{floats, Filled}

-- ---- a buffer that is filled from the front

module _ {A : Type 0} where
  pub take_one : (l : List A) (i : ℕ) (a : A) → i < length l → take (i + 1) (set l i a) ≡ take i l ++ (a ∷ [])
  take_one l i a h = rw add-one (take-suc-set l i a h)

  pub keep_one : (l old : List A) (i : ℕ) (a : A) → drop i l ≡ drop i old → drop (i + 1) (set l i a) ≡ drop (i + 1) old
  keep_one l old i a e = drop-set-lt (i + 1) l i a (omega arith) ∙ sym (drop-drop 1 i l) ∙ ap (drop 1) e ∙ drop-drop 1 i old

  pub keep_pair : (l old : List A) (i : ℕ) (a b : A) → drop (2 * i) l ≡ drop (2 * i) old → drop (2 * (i + 1)) (set (set l (2 * i) a) (2 * i + 1) b) ≡ drop (2 * (i + 1)) old
  keep_pair l old i a b e =
      let two : 2 * (i + 1) ≡ 2 * i + 1 + 1 = omega arith in
      rw two (keep_one (set l (2 * i) a) old (2 * i + 1) b (keep_one l old (2 * i) a e))

  -- what is left after two values is no longer
  pub shorter : (l : List A) {t : ℕ} → length l ≤ t → length (take (length l - 2) (drop 2 l)) ≤ t
  shorter l h = rw (part_tail 2 l) (omega (arith, length-drop 2 l))

  onto_onto : (vs ws : List A) (g : Got (List A)) → onto vs (onto ws g) ≡ onto (vs ++ ws) g
  onto_onto vs ws (got us l) = ap (λ (x : List A). got x l) (sym (append_assoc vs ws us))
  onto_onto vs ws (stop c p) = refl

  pub onto_none : (g : Got (List A)) → g ≡ onto [] g
  onto_none (got us l) = refl
  onto_none (stop c p) = refl

  -- one value more
  pub one_more : (out : List A) (i : ℕ) (u : A) (g : Got (List A)) → i < length out → onto (take i out) (onto (u ∷ []) g) ≡ onto (take (i + 1) (set out i u)) g
  one_more out i u g h = rw (take_one out i u h) (onto_onto (take i out) (u ∷ []) g)

  -- two values more
  pub two_more : (out : List A) (i : ℕ) (u v : A) (g : Got (List A)) → i + 1 < length out
      → onto (take i out) (onto (u ∷ v ∷ []) g) ≡ onto (take (i + 2) (set (set out i u) (i + 1) v)) g
  two_more out i u v g h =
      let two : i + 2 ≡ i + 1 + 1 = omega arith in
      let g1 : i < length out = omega arith in
      let g2 : i + 1 < length (set out i u) = rw length-set h in
      rw (two, take_one (set out i u) (i + 1) v g2, take_one out i u g1, append_assoc) (onto_onto (take i out) (u ∷ v ∷ []) g)

  -- all is read
  pub filled_done : (g : Got (List A)) (old new : List A) (rest : List ℕ) (i : ℕ)
      → g ≡ onto (take i new) (got [] rest) → drop i new ≡ drop i old → i ≤ length new → Filled g (Ok tt) old new
  filled_done g old new rest i e k h =
      subst (λ (x : Got (List A)). Filled x (Ok tt) old new) (sym e)
      (refl, rw (append-nil, length-take-le i new h, ← k) (sym (take-append-drop i new)))

  -- a stop
  pub filled_stop : (g : Got (List A)) (vs old new : List A) (c : Code) (p : ℕ) → g ≡ onto vs (stop c p) → Filled g (refused c p) old new
  filled_stop g vs old new c p e = subst (λ (x : Got (List A)). Filled x (refused c p) old new) (sym e) refl

-- ---- coefficients

pub coefficients_short : (t m : ℕ) (l : List ℕ) → 0 < m → length l < 1 → coefficients_in t m l ≡ stop Code.Short t
unfolding coefficients_in
coefficients_short t zero l h e = absurd (not-suc-le-zero h)
coefficients_short t (suc m) [] h e = refl
coefficients_short t (suc m) (a ∷ l) h e = absurd (omega arith)

coefficients_one : (t m : ℕ) (l : List ℕ) → 0 < m → 1 ≤ length l → coefficients_in t m l ≡ onto (unpack_signed (get_or l 0 0) ∷ []) (coefficients_in t (m - 1) (drop 1 l))
unfolding coefficients_in
coefficients_one t zero l h e = absurd (not-suc-le-zero h)
coefficients_one t (suc m) [] h e = absurd (not-suc-le-zero e)
coefficients_one t (suc m) (a ∷ l) h e = let s : suc m - 1 ≡ m = omega arith in rw s

pub coefficients_more : (t n i : ℕ) (list rest : List ℕ) (out : List ℤ)
    → coefficients_in t n list ≡ onto (take i out) (coefficients_in t (n - i) rest) → i < n → i < length out → 1 ≤ length rest
    → coefficients_in t n list ≡ onto (take (i + 1) (set out i (unpack_signed (get_or rest 0 0)))) (coefficients_in t (n - (i + 1)) (take (length rest - 1) (drop 1 rest)))
coefficients_more t n i list rest out e h g v =
    let m : n - i - 1 ≡ n - (i + 1) = omega arith in
    rw (part_tail 1 rest)
    (e ∙ rw (coefficients_one t (n - i) rest (omega arith) v, m) (one_more out i (unpack_signed (get_or rest 0 0)) (coefficients_in t (n - (i + 1)) (drop 1 rest)) g))

-- ---- double deltas

pub deltas_short : (t m : ℕ) (l : List ℕ) → 0 < m → length l < 2 → deltas_in t m l ≡ stop Code.Short t
unfolding deltas_in
deltas_short t zero l h e = absurd (not-suc-le-zero h)
deltas_short t (suc m) [] h e = refl
deltas_short t (suc m) (a ∷ []) h e = refl
deltas_short t (suc m) (a ∷ b ∷ l) h e = absurd (omega arith)

pub deltas_wild : (t m : ℕ) (l : List ℕ) → 0 < m → 2 ≤ length l → beyond delta_limit (unpack_signed (get_or l 0 0)) (unpack_signed (get_or l 1 0)) ≡ true
    → deltas_in t m l ≡ stop Code.Delta (t - length l)
unfolding deltas_in
deltas_wild t zero l h e w = absurd (not-suc-le-zero h)
deltas_wild t (suc m) [] h e w = absurd (omega arith)
deltas_wild t (suc m) (a ∷ []) h e w = absurd (omega arith)
deltas_wild t (suc m) (a ∷ b ∷ l) h e w = rw w

deltas_one : (t m : ℕ) (l : List ℕ) → 0 < m → 2 ≤ length l → beyond delta_limit (unpack_signed (get_or l 0 0)) (unpack_signed (get_or l 1 0)) ≡ false
    → deltas_in t m l ≡ onto (unpack_signed (get_or l 0 0) ∷ unpack_signed (get_or l 1 0) ∷ []) (deltas_in t (m - 1) (drop 2 l))
unfolding deltas_in
deltas_one t zero l h e w = absurd (not-suc-le-zero h)
deltas_one t (suc m) [] h e w = absurd (omega arith)
deltas_one t (suc m) (a ∷ []) h e w = absurd (omega arith)
deltas_one t (suc m) (a ∷ b ∷ l) h e w = let s : suc m - 1 ≡ m = omega arith in rw (w, s)

pub deltas_more : (t n i : ℕ) (list rest : List ℕ) (out : List ℤ)
    → deltas_in t n list ≡ onto (take (2 * i) out) (deltas_in t (n - i) rest) → i < n → 2 * i + 1 < length out → 2 ≤ length rest
    → beyond delta_limit (unpack_signed (get_or rest 0 0)) (unpack_signed (get_or rest 1 0)) ≡ false
    → deltas_in t n list
    ≡ onto (take (2 * (i + 1)) (set (set out (2 * i) (unpack_signed (get_or rest 0 0))) (2 * i + 1) (unpack_signed (get_or rest 1 0)))) (deltas_in t (n - (i + 1)) (take (length rest - 2) (drop 2 rest)))
deltas_more t n i list rest out e h g v w =
    let m : n - i - 1 ≡ n - (i + 1) = omega arith in
    let k : 2 * (i + 1) ≡ 2 * i + 2 = omega arith in
    rw (part_tail 2 rest, k)
    (e ∙ rw (deltas_one t (n - i) rest (omega arith) v w, m) (two_more out (2 * i) (unpack_signed (get_or rest 0 0)) (unpack_signed (get_or rest 1 0)) (deltas_in t (n - (i + 1)) (drop 2 rest)) g))

-- ---- starts

pub starts_short : (t : ℕ) (first : Bool) (x y : ℤ) (m : ℕ) (l : List ℕ) → 0 < m → length l < 2 → starts_in t first x y m l ≡ stop Code.Short t
unfolding starts_in
starts_short t first x y zero l h e = absurd (not-suc-le-zero h)
starts_short t first x y (suc m) [] h e = refl
starts_short t first x y (suc m) (a ∷ []) h e = refl
starts_short t first x y (suc m) (a ∷ b ∷ l) h e = absurd (omega arith)

module _ (t : ℕ) (first : Bool) (x y cx cy : ℤ) where
  pub starts_far : (m : ℕ) (l : List ℕ) → 0 < m → 2 ≤ length l → cx ≡ coordinate first x (get_or l 0 0) → cy ≡ coordinate first y (get_or l 1 0) → beyond pos_limit cx cy ≡ true
      → starts_in t first x y m l ≡ stop Code.Coord (t - length l)
  unfolding starts_in
  starts_far zero l h e ex ey w = absurd (not-suc-le-zero h)
  starts_far (suc m) [] h e ex ey w = absurd (omega arith)
  starts_far (suc m) (a ∷ []) h e ex ey w = absurd (omega arith)
  starts_far (suc m) (a ∷ b ∷ l) h e ex ey w = rw (← ex, ← ey, w)

  starts_one : (m : ℕ) (l : List ℕ) → 0 < m → 2 ≤ length l → cx ≡ coordinate first x (get_or l 0 0) → cy ≡ coordinate first y (get_or l 1 0) → beyond pos_limit cx cy ≡ false
      → starts_in t first x y m l ≡ onto (cx ∷ cy ∷ []) (starts_in t false cx cy (m - 1) (drop 2 l))
  unfolding starts_in
  starts_one zero l h e ex ey w = absurd (not-suc-le-zero h)
  starts_one (suc m) [] h e ex ey w = absurd (omega arith)
  starts_one (suc m) (a ∷ []) h e ex ey w = absurd (omega arith)
  starts_one (suc m) (a ∷ b ∷ l) h e ex ey w = let s : suc m - 1 ≡ m = omega arith in rw (← ex, ← ey, w, s)

floats_two : (x y : ℤ) (g : Got (List ℤ)) → floats (onto (x ∷ y ∷ []) g) ≡ onto (f32_of x ∷ f32_of y ∷ []) (floats g)
floats_two x y (got zs l) = refl
floats_two x y (stop c p) = refl

pub starts_more : (t n i : ℕ) (list rest : List ℕ) (out : List Float) (first : Bool) (x y cx cy : ℤ)
    → floats (starts_in t true (pos 0) (pos 0) n list) ≡ onto (take (2 * i) out) (floats (starts_in t first x y (n - i) rest))
    → i < n → 2 * i + 1 < length out → 2 ≤ length rest → cx ≡ coordinate first x (get_or rest 0 0) → cy ≡ coordinate first y (get_or rest 1 0) → beyond pos_limit cx cy ≡ false
    → floats (starts_in t true (pos 0) (pos 0) n list)
    ≡ onto (take (2 * (i + 1)) (set (set out (2 * i) (f32_of cx)) (2 * i + 1) (f32_of cy))) (floats (starts_in t (eqb (i + 1) 0) cx cy (n - (i + 1)) (take (length rest - 2) (drop 2 rest))))
starts_more t n i list rest out first x y cx cy e h g v ex ey w =
    let m : n - i - 1 ≡ n - (i + 1) = omega arith in
    let k : 2 * (i + 1) ≡ 2 * i + 2 = omega arith in
    let later : eqb (i + 1) 0 ≡ false = ne_eqb (i + 1) 0 (λ z. omega arith) in
    rw (part_tail 2 rest, k, later)
    (e ∙ rw (starts_one t first x y cx cy (n - i) rest (omega arith) v ex ey w, m, floats_two cx cy (starts_in t false cx cy (n - (i + 1)) (drop 2 rest)))
    (two_more out (2 * i) (f32_of cx) (f32_of cy) (floats (starts_in t false cx cy (n - (i + 1)) (drop 2 rest))) g))

-- Assumes nothing.
