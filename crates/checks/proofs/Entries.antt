-- Laws of a row's entries, taken from the front.
use mathlib.Core.Path.{◌≡◌, refl, sym, ap, ◌∙◌, subst}
use mathlib.Core.Bool.{Bool, true, false, ◌&&◌, ◌||◌}
use mathlib.Core.List.{List, [], ◌∷◌}
use Prim.Native.Nat.{ℕ, ◌+◌, ◌-◌, ◌*◌, ◌<◌, ◌≤◌}
use native.Mathlib.Omega.{arith}
use native.Mathlib.Nat.{le_antisymm}
use native.Mathlib.Numerals.{add-one}
use lib.ListN.{length, get_or, take, drop}
use lib.Seq.{slice, slice-cons, slice_empty, take-length}
use Rattle.std.proofs.lemmas.Slice.{between_is}
use lib.Dec.{ltb}
use borrow.Author.Tests.{ltb-true}
use Rattle.desks.proofs.Shown.{owned_first, owned_rest}
use Rattle.desks.specs.Desks.{Sight, Seen, all_owned}
use Rattle.checks.specs.Tables.{Table}
use Rattle.checks.specs.Checks.{all_below, EntriesFit}

-- the entries from b up to e as a loan has them, and a whole list
pub part_is : (b e : ℕ) (l : List ℕ) → take (e - b) (drop b l) ≡ slice b e l
part_is b e l = between_is l b e

pub slice_whole : (l : List ℕ) → slice 0 (length l) l ≡ l
slice_whole l = take-length l

pub slice_next : (i e : ℕ) (l : List ℕ) → i < e → e ≤ length l → slice i e l ≡ get_or l i 0 ∷ slice (i + 1) e l
slice_next i e l h k = rw (add-one i) (slice-cons i e l 0 h k)

pub slice_none : (i e : ℕ) (l : List ℕ) → i ≤ e → e ≤ i → slice i e l ≡ []
slice_none i e l h k = ap (λ (j : ℕ). slice j e l) (le_antisymm h k) ∙ slice_empty e l

pub all_next : (m i e : ℕ) (l : List ℕ) → i < e → e ≤ length l → all_below m (slice i e l) ≡ ltb (get_or l i 0) m && all_below m (slice (i + 1) e l)
all_next m i e l h k = ap (all_below m) (slice_next i e l h k)

pub and_left : (a b : Bool) → a && b ≡ true → a ≡ true
and_left true b h = refl
and_left false b h = h

pub and_right : (a b : Bool) → a && b ≡ true → b ≡ true
and_right true b h = h
and_right false b h = absurd (false_true h)
  where
    is_false : Bool → Type 0
    is_false true = ⊥
    is_false false = Unit

    false_true : false ≡ true → ⊥
    false_true p = subst is_false p tt

pub or_left : (a b : Bool) → a || b ≡ true → b ≡ false → a ≡ true
or_left true b h k = refl
or_left false b h k = sym k ∙ h

-- the first entry is below m, and so are the others
pub first_below : (m i e : ℕ) (l : List ℕ) → i < e → e ≤ length l → all_below m (slice i e l) ≡ true → get_or l i 0 < m
first_below m i e l h k p = ltb-true (get_or l i 0) m (and_left (ltb (get_or l i 0) m) (all_below m (slice (i + 1) e l)) (sym (all_next m i e l h k) ∙ p))

pub rest_below : (m i e : ℕ) (l : List ℕ) → i < e → e ≤ length l → all_below m (slice i e l) ≡ true → all_below m (slice (i + 1) e l) ≡ true
rest_below m i e l h k p = and_right (ltb (get_or l i 0) m) (all_below m (slice (i + 1) e l)) (sym (all_next m i e l h k) ∙ p)

pub all_none : (m i e : ℕ) (l : List ℕ) → i ≤ e → e ≤ i → all_below m (slice i e l) ≡ true
all_none m i e l h k = ap (all_below m) (slice_none i e l h k)

-- ---- the owners of a row's segments

-- the first entry decides, or those after it do
module _ (m : ℕ) (owners : List ℕ) (splines i e : ℕ) (l : List ℕ) (h : i < e) (k : e ≤ length l) where
  abbrev good : ℕ → Bool
  good j = all_below m (slice j e l) && all_owned owners splines (slice j e l)

  both_next : good i ≡ ((ltb (get_or l i 0) m && all_below m (slice (i + 1) e l)) && (ltb (get_or owners (get_or l i 0) 0) splines && all_owned owners splines (slice (i + 1) e l)))
  both_next = ap (λ (q : List ℕ). all_below m q && all_owned owners splines q) (slice_next i e l h k)

  pub not_below : ltb (get_or l i 0) m ≡ false → good i ≡ false
  not_below p = both_next ∙ ap (λ (b : Bool). (b && all_below m (slice (i + 1) e l)) && (ltb (get_or owners (get_or l i 0) 0) splines && all_owned owners splines (slice (i + 1) e l))) p

  pub not_owned : ltb (get_or owners (get_or l i 0) 0) splines ≡ false → good i ≡ false
  not_owned p =
      both_next
      ∙ ap (λ (b : Bool). (ltb (get_or l i 0) m && all_below m (slice (i + 1) e l)) && (b && all_owned owners splines (slice (i + 1) e l))) p
      ∙ and_false (ltb (get_or l i 0) m && all_below m (slice (i + 1) e l))
    where
      and_false : (b : Bool) → b && false ≡ false
      and_false true = refl
      and_false false = refl

  pub owned_on : ltb (get_or l i 0) m ≡ true → ltb (get_or owners (get_or l i 0) 0) splines ≡ true → good i ≡ good (i + 1)
  owned_on p q =
      both_next
      ∙ ap (λ (b : Bool). (b && all_below m (slice (i + 1) e l)) && (ltb (get_or owners (get_or l i 0) 0) splines && all_owned owners splines (slice (i + 1) e l))) p
      ∙ ap (λ (b : Bool). all_below m (slice (i + 1) e l) && (b && all_owned owners splines (slice (i + 1) e l))) q

pub good_none : (m : ℕ) (owners : List ℕ) (splines i e : ℕ) (l : List ℕ) → i ≤ e → e ≤ i → (all_below m (slice i e l) && all_owned owners splines (slice i e l)) ≡ true
good_none m owners splines i e l h k = ap (λ (q : List ℕ). all_below m q && all_owned owners splines q) (slice_none i e l h k)

-- the owner of the first entry's segment is a spline, and so are the others'
pub first_owned : (owners : List ℕ) (splines i e : ℕ) (l : List ℕ) → i < e → e ≤ length l → all_owned owners splines (slice i e l) ≡ true → get_or owners (get_or l i 0) 0 < splines
first_owned owners splines i e l h k p = owned_first owners splines (get_or l i 0) (slice (i + 1) e l) (sym (ap (all_owned owners splines) (slice_next i e l h k)) ∙ p)

pub rest_owned : (owners : List ℕ) (splines i e : ℕ) (l : List ℕ) → i < e → e ≤ length l → all_owned owners splines (slice i e l) ≡ true → all_owned owners splines (slice (i + 1) e l) ≡ true
rest_owned owners splines i e l h k p = owned_rest owners splines (get_or l i 0) (slice (i + 1) e l) (sym (ap (all_owned owners splines) (slice_next i e l h k)) ∙ p)

-- ---- entries that fit

-- the first one can be looked up, and so can the rest
module _ {t : Table} {s : Sight} {b e : ℕ} (f : EntriesFit t s b e) (h : b < e) where
  pub first_in_segments : 8 * get_or t.entries b 0 + 8 ≤ length t.segments
  first_in_segments = omega (arith, first_below t.segment_count b e t.entries h f.entries_fit f.named, f.segments_fit)

  pub first_seen : Seen s (get_or t.entries b 0)
  first_seen = record {
    owner = omega (arith, first_below t.segment_count b e t.entries h f.entries_fit f.named, f.owners_fit);
    byte = omega (arith, first_owned s.owners s.splines b e t.entries h f.entries_fit f.owned, f.bytes);
    desk = f.desk;
  }

  pub rest_fit : EntriesFit t s (b + 1) e
  rest_fit = record {
    ascending = omega arith;
    entries_fit = f.entries_fit;
    segments_fit = f.segments_fit;
    owners_fit = f.owners_fit;
    bytes = f.bytes;
    desk = f.desk;
    named = rest_below t.segment_count b e t.entries h f.entries_fit f.named;
    owned = rest_owned s.owners s.splines b e t.entries h f.entries_fit f.owned;
  }

-- Assumes nothing.
