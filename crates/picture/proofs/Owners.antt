-- The owners of what a description makes: they ascend, and the segments with the owner k are those of the spline k.
use mathlib.Core.Path.{◌≡◌, refl, sym, ap, subst, ◌∙◌}
use mathlib.Core.Bool.{Bool, true, false, cond}
use mathlib.Core.List.{List, [], ◌∷◌, ◌++◌, append-nil}
use mathlib.Core.Logic.{⊎_elim}
use Prim.Native.Nat.{ℕ, zero, suc, ◌+◌, ◌-◌, ◌≤◌, ◌<◌}
use native.Mathlib.Nat.{eq-or-lt_of_le}
use native.Mathlib.Omega.{arith}
use lib.Dec.{eqb, leb}
use lib.ListN.{length, get_or, replicate, get_or-replicate, length-append, length-replicate, get_or-append}
use lib.Seq.{get_or-append-add}
use lib.Ieee.{Float}
use borrow.Author.Tests.{eq-eqb, ne_eqb, leb-true, leb-false}
use Rattle.dequantize.specs.declared.Given.{Given}
use Rattle.dequantize.specs.Judge.{Description}
use Rattle.segments.specs.declared.Segment.{Segment}
use Rattle.segments.specs.Segment.{eight_of}
use Rattle.points.specs.Points.{eights}
use Rattle.owners.specs.Owners.{owners_of}
use Rattle.painting.specs.Segments.{SplineMakes, MakesUpTo, none_made, one_made}
use Rattle.painting.proofs.Segments.{makes_owned}
use Rattle.picture.specs.Owners.{segments_in, owned_by, Ascending}
use Rattle.picture.proofs.Flat.{segment_first, segment_after}

-- ---- a run of one number behind others

-- cell j of so many owners and n times k behind them: an owner, or k
behind : (P : ℕ → Type 0) (owners : List ℕ) (n k j : ℕ) → j < length owners + n → (j < length owners → P (get_or owners j 0)) → P k → P (get_or (owners ++ replicate n k) j 0)
behind P owners n k j h before after = go (leb (suc j) (length owners)) refl
  where
    go : (b : Bool) → leb (suc j) (length owners) ≡ b → P (get_or (owners ++ replicate n k) j 0)
    go true e =
        let l : j < length owners = leb-true (suc j) (length owners) e in
        subst P (sym (get_or-append owners (replicate n k) 0 j l)) (before l)
    go false e =
        let l : length owners < suc j = leb-false (suc j) (length owners) e in
        let m : j ≡ length owners + (j - length owners) = omega arith in
        let i : j - length owners < n = omega arith in
        let v : get_or (owners ++ replicate n k) j 0 ≡ k
        = ap (λ (t : ℕ). get_or (owners ++ replicate n k) t 0) m ∙ get_or-append-add owners (replicate n k) (j - length owners) 0 ∙ get_or-replicate n (j - length owners) k 0 i in
        subst P (sym v) after

ascending_more : (k n : ℕ) (owners : List ℕ) → Ascending k (length owners) owners → Ascending (suc k) (length owners + n) (owners ++ replicate n k)
ascending_more k n owners a = record {
  below = λ j h. behind (λ (t : ℕ). t < suc k) owners n k j h (λ l. let b = a.below j l in omega arith) (omega arith);
  ascends = λ i j l h. go i j l h (leb (suc j) (length owners)) refl;
}
  where
    go : (i j : ℕ) → i ≤ j → j < length owners + n → (b : Bool) → leb (suc j) (length owners) ≡ b → get_or (owners ++ replicate n k) i 0 ≤ get_or (owners ++ replicate n k) j 0
    go i j l h true e =
        let m : j < length owners = leb-true (suc j) (length owners) e in
        let p : i < length owners = omega arith in
        let q = a.ascends i j l m in
        omega (arith, q, get_or-append owners (replicate n k) 0 j m, get_or-append owners (replicate n k) 0 i p)
    go i j l h false e =
        let m : length owners < suc j = leb-false (suc j) (length owners) e in
        behind (λ (t : ℕ). get_or (owners ++ replicate n k) i 0 ≤ t) owners n k j h (λ z. absurd (omega arith))
        (behind (λ (t : ℕ). t ≤ k) owners n k i (omega arith) (λ z. let b = a.below i z in omega arith) (omega arith))

-- what stands behind the owners does not matter
pub ascending_front : (n count : ℕ) (owners rest : List ℕ) → length owners ≡ count → Ascending n count owners → Ascending n count (owners ++ rest)
ascending_front n count owners rest e a = record {
  below = λ j h. rw (get_or-append owners rest 0 j (omega arith)) (a.below j h);
  ascends = λ i j l h. rw (get_or-append owners rest 0 i (omega arith), get_or-append owners rest 0 j (omega arith)) (a.ascends i j l h);
}

-- ---- the segments of one owner

module _ (k : ℕ) where
  owned_append : (us vs : List ℕ) (xs ys : List Segment) → length us ≡ length xs → owned_by k (us ++ vs) (xs ++ ys) ≡ owned_by k us xs ++ owned_by k vs ys
  owned_append [] vs [] ys h = refl
  owned_append [] vs (x ∷ xs) ys h = absurd (omega arith)
  owned_append (u ∷ us) vs [] ys h = absurd (omega arith)
  owned_append (u ∷ us) vs (x ∷ xs) ys h = go (owned_append us vs xs ys (omega arith)) (eqb u k)
    where
      go : owned_by k (us ++ vs) (xs ++ ys) ≡ owned_by k us xs ++ owned_by k vs ys
          → (b : Bool) → cond b (x ∷ owned_by k (us ++ vs) (xs ++ ys)) (owned_by k (us ++ vs) (xs ++ ys)) ≡ cond b (x ∷ owned_by k us xs) (owned_by k us xs) ++ owned_by k vs ys
      go rest true = ap (λ (l : List Segment). x ∷ l) rest
      go rest false = rest

  -- no owner is k
  pub owned_none : (us : List ℕ) (xs : List Segment) → ((j : ℕ) → j < length us → get_or us j 0 ≡ k → ⊥) → owned_by k us xs ≡ []
  owned_none [] xs h = refl
  owned_none (u ∷ us) [] h = refl
  owned_none (u ∷ us) (x ∷ xs) h = rw (ne_eqb u k (h 0 (omega arith))) (owned_none us xs (λ j l. h (suc j) (omega arith)))

  -- and only then
  pub none_owned : (us : List ℕ) (xs : List Segment) → length us ≡ length xs → owned_by k us xs ≡ [] → (j : ℕ) → j < length us → get_or us j 0 ≡ k → ⊥
  none_owned [] xs h e j l q = omega arith
  none_owned (u ∷ us) [] h e j l q = omega arith
  none_owned (u ∷ us) (x ∷ xs) h e zero l q = let z : ◌≡◌ {A = ℕ} (suc (length (owned_by k us xs))) 0 = ap length (rw (eq-eqb u k q) at e) in omega arith
  none_owned (u ∷ us) (x ∷ xs) h e (suc j) l q = none_owned us xs (omega arith) (go (eqb u k) e) j (omega arith) q
    where
      go : (b : Bool) → cond b (x ∷ owned_by k us xs) (owned_by k us xs) ≡ [] → owned_by k us xs ≡ []
      go true e = absurd (let z : ◌≡◌ {A = ℕ} (suc (length (owned_by k us xs))) 0 = ap length e in omega arith)
      go false e = e

  -- every owner is k
  owned_all : (xs : List Segment) → owned_by k (owners_of k xs) xs ≡ xs
  owned_all [] = refl
  owned_all (x ∷ xs) = rw (eq-eqb k k refl) (ap (λ (l : List Segment). x ∷ l) (owned_all xs))

-- ---- what a description makes

module _ (d : Description) (g : Given) (high : Bool) where
  pub makes_ascend : {n : ℕ} {segs : List Segment} {owners : List ℕ} → MakesUpTo d g high n segs owners → Ascending n (length owners) owners
  makes_ascend none_made = record { below = λ j h. absurd (omega arith); ascends = λ i j l h. absurd (omega arith) }
  makes_ascend (one_made {k = k} {own = own} {owners = owners} a m) =
      rw (length-append owners (owners_of k own), length-replicate (length own) k) (ascending_more k (length own) owners (makes_ascend a))

  -- those of the spline k
  pub record Owned (k : ℕ) (segs : List Segment) (owners : List ℕ) : Type 0 where
    pub own : List Segment
    pub makes : SplineMakes d g high k own
    pub are : owned_by k owners segs ≡ own

  pub makes_owned_by : {n : ℕ} {segs : List Segment} {owners : List ℕ} → MakesUpTo d g high n segs owners → (k : ℕ) → k < n → Owned k segs owners
  makes_owned_by none_made k h = absurd (omega arith)
  makes_owned_by (one_made {k = m} {segs = segs} {own = own} {owners = owners} a s) k h = ⊎_elim last (λ l. earlier l (makes_owned_by a k l)) (eq-or-lt_of_le k≤m)
    where
      k≤m : k ≤ m
      k≤m = omega arith

      split : (t : ℕ) → owned_by t (owners ++ owners_of m own) (segs ++ own) ≡ owned_by t owners segs ++ owned_by t (owners_of m own) own
      split t = owned_append t owners (owners_of m own) segs own (makes_owned d g high a)

      last : k ≡ m → Owned k (segs ++ own) (owners ++ owners_of m own)
      last e = subst (λ (t : ℕ). Owned t (segs ++ own) (owners ++ owners_of m own)) (sym e) (record {
        own = own;
        makes = s;
        are = split m
            ∙ ap (λ (l : List Segment). l ++ owned_by m (owners_of m own) own) (owned_none m owners segs (λ j l z. let b = (makes_ascend a).below j l in omega arith))
            ∙ owned_all m own;
      })

      earlier : k < m → Owned k segs owners → Owned k (segs ++ own) (owners ++ owners_of m own)
      earlier l o =
          let none : owned_by k (owners_of m own) own ≡ []
          = owned_none k (owners_of m own) own (λ j i z. let v = get_or-replicate (length own) j m 0 (subst (λ (t : ℕ). j < t) (length-replicate (length own) m) i) in omega arith) in
          record {
            own = o.own;
            makes = o.makes;
            are = split k ∙ ap (λ (t : List Segment). owned_by k owners segs ++ t) none ∙ append-nil (owned_by k owners segs) ∙ o.are;
          }

-- ---- segments laid flat

segments_after : (s : Segment) (l : List Float) (j n : ℕ) → segments_in (eight_of s ++ l) (suc j) n ≡ segments_in l j n
segments_after s l j zero = refl
segments_after s l j (suc n) = rw (segment_after s l j, segments_after s l (suc j) n)

pub segments_found : (segs : List Segment) (rest : List Float) → segments_in (eights segs ++ rest) 0 (length segs) ≡ segs
unfolding eights
segments_found [] rest = refl
segments_found (s ∷ segs) rest = rw (segment_first s (eights segs ++ rest), segments_after s (eights segs ++ rest) 0 (length segs), segments_found segs rest)

-- Assumes nothing.
