-- Laws of what is shown: no more than is listed, alike by sights that agree, and all of it where nothing is hidden.
use mathlib.Core.Path.{◌≡◌, refl, ap, ◌∙◌, subst}
use mathlib.Core.Bool.{Bool, true, false, cond, ◌&&◌}
use mathlib.Core.List.{List, [], ◌∷◌}
use Prim.Native.Nat.{ℕ, zero, suc, ◌<◌, ◌≤◌}
use native.Mathlib.Omega.{arith}
use lib.Dec.{ltb}
use lib.ListN.{length, get_or}
use borrow.Author.Tests.{ltb-true}
use Rattle.desks.specs.Desks.{bit_of, Sight, owner_in, hidden_in, shown, all_owned}
use Rattle.desks.specs.Agree.{Agree, NothingHidden}

-- ---- the owners of listed segments

and_left : (a b : Bool) → a && b ≡ true → a ≡ true
and_left true b h = refl
and_left false b h = h

and_right : (a b : Bool) → a && b ≡ true → b ≡ true
and_right true b h = h
and_right false b h = absurd (false_true h)
  where
    is_false : Bool → Type 0
    is_false true = ⊥
    is_false false = Unit

    false_true : false ≡ true → ⊥
    false_true p = subst is_false p tt

module _ (owners : List ℕ) (splines : ℕ) where
  pub owned_first : (i : ℕ) (l : List ℕ) → all_owned owners splines (i ∷ l) ≡ true → get_or owners i 0 < splines
  owned_first i l h = ltb-true (get_or owners i 0) splines (and_left (ltb (get_or owners i 0) splines) (all_owned owners splines l) h)

  pub owned_rest : (i : ℕ) (l : List ℕ) → all_owned owners splines (i ∷ l) ≡ true → all_owned owners splines l ≡ true
  owned_rest i l h = and_right (ltb (get_or owners i 0) splines) (all_owned owners splines l) h

  pub owned_each : (l : List ℕ) → all_owned owners splines l ≡ true → (j : ℕ) → j < length l → get_or owners (get_or l j 0) 0 < splines
  owned_each [] h j k = absurd (omega (arith, k))
  owned_each (i ∷ l) h zero k = owned_first i l h
  owned_each (i ∷ l) h (suc j) k = owned_each l (owned_rest i l h) j (omega (arith, k))

-- ---- no more than is listed

shown_step : (b : Bool) (i : ℕ) (l m : List ℕ) → length l ≤ length m → length (cond b l (i ∷ l)) ≤ length (i ∷ m)
shown_step true i l m h = omega (arith, h)
shown_step false i l m h = omega (arith, h)

pub shown_most : (s : Sight) (l : List ℕ) → length (shown s l) ≤ length l
shown_most s [] = omega arith
shown_most s (i ∷ l) = shown_step (hidden_in s i) i (shown s l) l (shown_most s l)

-- an entry that is shown is listed, and is not hidden
pub record ListedShown (s : Sight) (l : List ℕ) (i : ℕ) : Type 0 where
  pub entry : ℕ
  pub in_list : entry < length l
  pub is_it : get_or l entry 0 ≡ i
  pub not_hidden : hidden_in s i ≡ false

pub shown_listed : (s : Sight) (l : List ℕ) (j : ℕ) → j < length (shown s l) → ListedShown s l (get_or (shown s l) j 0)
shown_listed s [] j h = absurd (omega (arith, h))
shown_listed s (i ∷ l) j h = go (hidden_in s i) refl (λ k m. shown_listed s l k m) j h
  where
    onward : {k : ℕ} → ListedShown s l k → ListedShown s (i ∷ l) k
    onward q = record { entry = suc q.entry; in_list = omega (arith, q.in_list); is_it = q.is_it; not_hidden = q.not_hidden }

    go : (b : Bool) → hidden_in s i ≡ b → ((k : ℕ) → k < length (shown s l) → ListedShown s l (get_or (shown s l) k 0)) → (j : ℕ) → j < length (cond b (shown s l) (i ∷ shown s l)) → ListedShown s (i ∷ l) (get_or (cond b (shown s l) (i ∷ shown s l)) j 0)
    go true e ih j h = onward (ih j h)
    go false e ih zero h = record { entry = 0; in_list = omega arith; is_it = refl; not_hidden = e }
    go false e ih (suc j) h = onward (ih j (omega (arith, h)))

-- ---- sights that agree

module _ {s r : Sight} (a : Agree s r) where
  -- a segment with one owner, a spline, is hidden in both or in neither
  pub agree_hidden : (i : ℕ) → owner_in s i ≡ owner_in r i → owner_in s i < s.splines → hidden_in s i ≡ hidden_in r i
  agree_hidden i e h =
      a.own_bits.own_bits (owner_in s i) h
      ∙ ap (λ (d : ℕ). bit_of d (get_or r.bits (owner_in s i) 0)) a.desk
      ∙ ap (λ (k : ℕ). bit_of r.desk (get_or r.bits k 0)) e

  pub agree_shown : (l : List ℕ) → ((j : ℕ) → j < length l → owner_in s (get_or l j 0) ≡ owner_in r (get_or l j 0)) → all_owned s.owners s.splines l ≡ true → shown s l ≡ shown r l
  agree_shown [] same h = refl
  agree_shown (i ∷ l) same h =
      ap (λ (b : Bool). cond b (shown s l) (i ∷ shown s l)) (agree_hidden i (same 0 (omega arith)) (owned_first s.owners s.splines i l h))
      ∙ ap (λ (m : List ℕ). cond (hidden_in r i) m (i ∷ m)) (agree_shown l (λ j k. same (suc j) (omega (arith, k))) (owned_rest s.owners s.splines i l h))

  pub agree_owned : (l : List ℕ) → ((j : ℕ) → j < length l → owner_in s (get_or l j 0) ≡ owner_in r (get_or l j 0)) → all_owned s.owners s.splines l ≡ all_owned r.owners r.splines l
  agree_owned [] same = refl
  agree_owned (i ∷ l) same =
      ap (λ (k : ℕ). ltb k s.splines && all_owned s.owners s.splines l) (same 0 (omega arith))
      ∙ ap (λ (n : ℕ). ltb (owner_in r i) n && all_owned s.owners s.splines l) a.splines
      ∙ ap (λ (b : Bool). ltb (owner_in r i) r.splines && b) (agree_owned l (λ j k. same (suc j) (omega (arith, k))))

-- ---- nothing hidden

pub nothing_hidden : (s : Sight) (l : List ℕ) → NothingHidden s → all_owned s.owners s.splines l ≡ true → shown s l ≡ l
nothing_hidden s [] n h = refl
nothing_hidden s (i ∷ l) n h =
    rw (n.clear (owner_in s i) (owned_first s.owners s.splines i l h)) (ap (λ (m : List ℕ). i ∷ m) (nothing_hidden s l n (owned_rest s.owners s.splines i l h)))

-- Assumes nothing.
